-- A loop that looks for the first of n numbers that passes a test: before number k, what is left finds what the whole does. Assumes nothing.
use Prim.Native.Nat.{ℕ, zero, suc, ◌+◌, ◌-◌, ◌<◌, ◌≤◌}
use mathlib.Core.Path.{◌≡◌, refl, sym, ◌∙◌}
use mathlib.Core.Bool.{Bool, false}
use native.Mathlib.Omega.{arith}
use Rattle.model.specs.Tests.{Is, any, first, ◌<?◌}
use Rattle.model.proofs.Tests.{same_truth, less, less!, some_of, among, first_found, first_most, first_start, first_next, first_stop, first_end}

pub record Searching (test : ℕ → Bool) (n k : ℕ) : Type 0 where
  pub few : k ≤ n
  pub left : first test k (n - k) ≡ first test 0 n

pub searching_start : (test : ℕ → Bool) (n : ℕ) → Searching test n 0
searching_start test n = record { few = omega arith; left = first_start test n }

module _ {test : ℕ → Bool} {n k : ℕ} (past : Searching test n k) where
  pub searching_next : k < n → test k ≡ false → Searching test n (k + 1)
  searching_next lt fails = record { few = omega arith; left = sym (first_next test n k lt fails) ∙ past.left }

  pub searching_found : k < n → Is (test k) → k ≡ first test 0 n
  searching_found lt passes = sym (first_stop test n k lt passes) ∙ past.left

  pub searching_end : n ≤ k → k ≡ first test 0 n
  searching_end end = sym (first_end test n k end) ∙ past.left

-- the first by tests that agree
pub first_same : (f g : ℕ → Bool) (k n : ℕ) → ((t : ℕ) → k ≤ t → t < k + n → f t ≡ g t) → first f k n ≡ first g k n
unfolding first
first_same f g k zero e = refl
first_same f g k (suc n) e = rw (first_same f g (suc k) n (λ t a b. e t (omega arith) (omega arith)), e k (omega arith) (omega arith))

-- some number passes where the first is one of the n
pub first_passes : (n : ℕ) (f : ℕ → Bool) → (first f 0 n <? n) ≡ any n f
first_passes n f = same_truth found some
  where
    found : Is (first f 0 n <? n) → Is (any n f)
    found h = let lt : first f 0 n < n = less h in among (first f 0 n, lt, first_found f 0 n (omega arith))

    some : Is (any n f) → Is (first f 0 n <? n)
    some h =
        let w = some_of h in
        let most = first_most f 0 n w.0 (omega arith) (omega (arith, w.1)) w.2 in
        let lt : first f 0 n < n = omega (arith, w.1) in
        less! lt

pub ruleset searched = (searching_start, searching_next, searching_found, searching_end)
