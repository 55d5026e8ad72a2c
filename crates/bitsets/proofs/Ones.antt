-- The one bits of a number, as the machine counts them, are the tests that its bits pass. Assumes nothing.
use Prim.Native.Nat.{ℕ, zero, suc, ◌+◌, ◌-◌, ◌^◌, ◌≤◌, ◌<◌}
use mathlib.Core.Path.{◌≡◌, refl, sym, ap, ap₂, ◌∙◌}
use mathlib.Core.Bool.{Bool, true, false}
use mathlib.Core.List.{List}
use lib.ListN.{get_or}
use native.Mathlib.Omega.{arith}
use lib.Bits.{bit_and}
use lib.Count as machine
use lib.Count.{ones_cat}
use Rattle.model.specs.Words.{digit, from_bits}
use Rattle.model.specs.Counting.{count, sum, ones, without, ones_lacking}
use Rattle.model.proofs.Words.{digit_less}
use Rattle.model.proofs.Counting.{count_most, sum_next, ones-without}
use Rattle.bitsets.specs.Elements.{combined_bits}
use Rattle.bitsets.proofs.Elements.{difference_word}

digit_ones : (t : Bool) → machine.ones (digit t) ≡ digit t
unfolding machine.ones
digit_ones true = refl
digit_ones false = refl

-- counted from the first
count_front : (n : ℕ) (test : ℕ → Bool) → count (suc n) test ≡ count n (λ b. test (suc b)) + digit (test 0)
unfolding count
count_front zero test = refl
count_front (suc n) test = ap (λ (x : ℕ). x + digit (test (suc n))) (count_front n test) ∙ omega arith

number_ones : (n : ℕ) (bits : ℕ → Bool) → machine.ones (from_bits n bits) ≡ count n bits
unfolding from_bits count machine.ones
number_ones zero bits = refl
number_ones (suc n) bits =
    ones_cat 1 (from_bits n (λ b. bits (suc b))) (digit (bits 0)) (digit_less (bits 0))
    ∙ ap₂ ◌+◌ (number_ones n (λ b. bits (suc b))) (digit_ones (bits 0)) ∙ sym (count_front n bits)

-- of one word without another's bits
pub machine_ones : (x y : ℕ) → x < 2 ^ 64 → y < 2 ^ 64 → machine.ones (bit_and x ((2 ^ 64 - 1) - y)) ≡ ones (without x y)
unfolding combined_bits
machine_ones x y hx hy = ap machine.ones (difference_word x y hx hy) ∙ number_ones 64 _ ∙ sym (ones-without x y)

pub ones_few : (x y : ℕ) → ones (without x y) ≤ 64
ones_few x y = rw (ones-without x y) (count_most 64 _)

-- a sum as a loop makes it: of no value, and of one more
pub no_words : (value : ℕ → ℕ) → 0 ≡ sum 0 value
unfolding sum
no_words value = refl

pub next_word : (n count x : ℕ) (value : ℕ → ℕ) → count ≡ sum n value → x ≡ value n → count + x ≡ sum (n + 1) value
next_word n count x value so_far is = ap₂ ◌+◌ so_far is ∙ sum_next n value

-- those of a set's eight words
pub all_words : (words : List ℕ) (at from n count : ℕ) → 8 ≤ n → n ≤ 8 → count ≡ sum n (λ w. ones (without (get_or words (at + w) 0) (get_or words (from + w) 0)))
    → count ≡ ones_lacking words at from
unfolding ones_lacking
all_words words at from n count low high counted = let all : n ≡ 8 = omega arith in rw all at counted
