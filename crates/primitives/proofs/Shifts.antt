-- Shifts and masks of numbers. Assumes nothing.
use Prim.Native.Nat.{ℕ, ◌+◌, ◌*◌, ◌%◌, ◌^◌, ◌<◌}
use mathlib.Core.Path.{◌≡◌, ◌∙◌, ap}
use native.Mathlib.Nat.{mod-eq_of_lt}
use lib.Bits.{bit_or, or_shifted}

-- `(x << k) | y` in n bits: a number shifted up, or one below it, is their sum
pub shifted_or : (n k x y : ℕ) → x * 2 ^ k < 2 ^ n → y < 2 ^ k → bit_or ((x * 2 ^ k) % 2 ^ n) y ≡ x * 2 ^ k + y
shifted_or n k x y room small = ap (λ (z : ℕ). bit_or z y) (mod-eq_of_lt room) ∙ or_shifted x k y small
