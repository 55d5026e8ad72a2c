-- Searches over the numbers below one. Assumes nothing.
use Prim.Native.Nat.{ℕ, zero, suc, ◌<◌}
use mathlib.Core.Path.{◌≡◌, refl}
use mathlib.Core.Bool.{Bool, false}
use native.Mathlib.Omega.{arith}
use Rattle.model.specs.Tests.{any, ◌or◌}

-- a search by tests that agree
pub any_same : (n : ℕ) (f g : ℕ → Bool) → ((k : ℕ) → k < n → f k ≡ g k) → any n f ≡ any n g
unfolding any
any_same zero f g e = refl
any_same (suc n) f g e = rw (any_same n f g (λ k lt. e k (omega arith)), e n (omega arith))

-- a search in which every test fails
pub none_of : (n : ℕ) (f : ℕ → Bool) → ((k : ℕ) → k < n → f k ≡ false) → any n f ≡ false
unfolding any ◌or◌
none_of zero f e = refl
none_of (suc n) f e = rw (none_of n f (λ k lt. e k (omega arith)), e n (omega arith))
