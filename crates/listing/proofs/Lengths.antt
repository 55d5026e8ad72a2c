-- How many digits a number has. Assumes nothing.
use Rattle.std.proofs.Common.{ℕ, ◌^◌, ◌≤◌, ◌<◌, length, arith}
use Rattle.std.specs.Fmt.{decimal}
use Rattle.std.proofs.lemmas.Fmt.{length-decimal-le}

-- of 64 bits
pub twenty_digits : (n : ℕ) → n < 2 ^ 64 → length (decimal n) ≤ 20
twenty_digits n h = length-decimal-le 20 n (omega arith) (omega (arith, h)) h

-- of an element
pub three_digits : (n : ℕ) → n < 512 → length (decimal n) ≤ 3
three_digits n h = length-decimal-le 3 n (omega arith) (omega (arith, h)) (omega (arith, h))
