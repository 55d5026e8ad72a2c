-- A number of 64 bits in decimal, digit by digit: the first not 0 unless it is the only one. Assumes nothing.
use Prim.Native.Nat.{ℕ, zero, suc, ◌+◌, ◌/◌, ◌%◌, ◌^◌, ◌<◌}
use mathlib.Core.Path.{◌≡◌}
use mathlib.Core.List.{[], ◌∷◌, ◌++◌}
use native.Mathlib.Omega.{arith}
use borrow.Author.Tests.{lt-ltb, le-ltb}
use Rattle.std.specs.Fmt.{decimal}
use Rattle.std.proofs.lemmas.Fmt.{decimal_from_appends, length-decimal-le}
use Rattle.model.specs.Tests.{◌<?◌, pick}
use Rattle.model.proofs.Tests.{pick_true, pick-false}
use Rattle.listing.specs.Text.{Text}

-- k digits are enough
unfoldable pub digits_within : ℕ → ℕ → Text
digits_within zero n = []
digits_within (suc k) n = pick (n <? 10) ((48 + n) ∷ []) (digits_within k (n / 10) ++ ((48 + n % 10) ∷ []))

-- 20 are enough for 64 bits
pub decimal-digits : (n : ℕ) → n < 2 ^ 64 → digits_within 20 n ≡ decimal n
unfolding digits_within ◌<?◌
decimal-digits n h =
    decimal_from_appends digits_within
    (record { one = λ k n h. pick_true _ _ _ (lt-ltb n 10 h); more = λ k n h. pick-false _ _ _ (le-ltb n 10 h) }) 20 n h
    (length-decimal-le 20 n (omega arith) (omega (arith, h)) h)
