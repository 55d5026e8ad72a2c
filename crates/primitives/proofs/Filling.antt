-- Tables filled from the front, an entry a turn, and what is read past a bound. Assumes nothing.
use Prim.Native.Nat.{ℕ, zero, suc, ◌+◌, ◌≤◌, ◌<◌}
use mathlib.Core.Path.{◌≡◌, refl}
use mathlib.Core.List.{List}
use native.Mathlib.Decide.{ℕ_discrete}
use native.Mathlib.Omega.{arith}
use lib.ListN.{length, get_or, replicate, set}
use lib.Seq.{get_or-set_same, get_or-set_other}
use borrow.Author.Tests.{le-ltb}
use Rattle.model.specs.Tests.{◌<?◌}
use Rattle.model.specs.Recursion.{below}
use Rattle.model.proofs.Tests.{pick-false}

-- before the first store every entry is 0
pub zeros : (n k : ℕ) → ◌≡◌ {A = ℕ} (get_or (replicate n 0) k 0) 0
zeros zero k = refl
zeros (suc n) zero = refl
zeros (suc n) (suc k) = zeros n k

-- a number that is not below the bound has the default
pub below_past : {A : Type 0} (default : A) (j : ℕ) (values : ℕ → A) (k : ℕ) → j ≤ k → below default j values k ≡ default
unfolding below ◌<?◌
below_past default j values k h = pick-false _ _ _ (le-ltb k j h)

module _ {A : Type 0} (default : A) where
  -- what holds of the entries before n, and of a new one at n, holds of those before n + 1
  pub entry_next : (Q : ℕ → A → Type 0) (table : List A) (n : ℕ) (v : A) → n < length table → ((k : ℕ) → k < n → Q k (get_or table k default)) → Q n v
      → (k : ℕ) → k < n + 1 → Q k (get_or (set table n v) k default)
  entry_next Q table n v inside before here k h = go (ℕ_discrete k n)
    where
      go : Dec (k ≡ n) → Q k (get_or (set table n v) k default)
      go (yes e) = rw (e, get_or-set_same table n v default inside) here
      go (no d) = rw (get_or-set_other table n k v default d) (before k (omega arith))

  -- what holds of all entries, and of a new one, holds of all of them then
  pub entry_changed : (Q : A → Type 0) (table : List A) (n : ℕ) (v : A) (m : ℕ) → n < length table → ((k : ℕ) → k < m → Q (get_or table k default)) → Q v
      → (k : ℕ) → k < m → Q (get_or (set table n v) k default)
  entry_changed Q table n v m inside others here k h = go (ℕ_discrete k n)
    where
      go : Dec (k ≡ n) → Q (get_or (set table n v) k default)
      go (yes e) = rw (e, get_or-set_same table n v default inside) here
      go (no d) = rw (get_or-set_other table n k v default d) (others k h)
