-- The law of course-of-values recursion: it holds of all steps, so that no definition by it asks for well-formed input. Assumes nothing.
use Prim.Native.Nat.{ℕ, zero, suc, ◌<◌}
use mathlib.Core.Path.{◌≡◌, refl, ap, fun_ext}
use mathlib.Core.Bool.{Bool, true, false}
use native.Mathlib.Omega.{arith}
use Rattle.model.specs.Tests.{◌<?◌, pick}
use Rattle.model.specs.Recursion.{below, levels, course}
use Rattle.model.proofs.Tests.{less, less!, pick_true}

module _ {A : Type 0} (default : A) where
  pub below_at : (j : ℕ) (values : ℕ → A) (k : ℕ) → k < j → below default j values k ≡ values k
  unfolding below
  below_at j values k lt = pick_true _ _ _ (less! lt)

  below_same : (j : ℕ) (t u : ℕ → A) → ((k : ℕ) → k < j → t k ≡ u k) → below default j t ≡ below default j u
  unfolding below pick
  below_same j t u h = fun_ext (λ k. go k (k <? j) refl)
    where
      go : (k : ℕ) (b : Bool) → (k <? j) ≡ b → below default j t k ≡ below default j u k
      go k true e = rw (e, below, pick) (h k (less e))
      go k false e = rw (e, below, pick)

  module _ (step : ℕ → (ℕ → A) → A) where
    steady : (f g k : ℕ) → k < f → k < g → levels default step f k ≡ levels default step g k
    unfolding levels
    steady zero g k a b = absurd (omega arith)
    steady (suc f) zero k a b = absurd (omega arith)
    steady (suc f) (suc g) k a b =
        ap (step k) (below_same k (levels default step f) (levels default step g) (λ o lt. steady f g o (omega arith) (omega arith)))

    pub course_law : (j : ℕ) → course default step j ≡ step j (below default j (course default step))
    unfolding course levels
    course_law j =
        ap (step j) (below_same j (levels default step j) (course default step) (λ k lt. steady j (suc k) k lt (omega arith)))

-- the induction that goes with it: what follows at j from the numbers below j holds of each number
pub by_earlier : (Q : ℕ → Type 0) → ((j : ℕ) → ((k : ℕ) → k < j → Q k) → Q j) → (j : ℕ) → Q j
by_earlier Q step j = up_to (suc j) j (omega arith)
  where
    up_to : (n k : ℕ) → k < n → Q k
    up_to zero k lt = absurd (omega arith)
    up_to (suc n) k lt = step k (λ l earlier. up_to n l (omega arith))
