-- The laws of the sets that the fills make, a word at a time. Assumes nothing.
use Prim.Native.Nat.{ℕ, ◌+◌, ◌-◌, ◌*◌, ◌/◌, ◌%◌, ◌^◌, ◌≤◌, ◌<◌}
use mathlib.Core.Path.{refl, ◌≡◌, sym, ap, ap₂, ◌∙◌, subst}
use mathlib.Core.Bool.{Bool, false}
use mathlib.Core.List.{List}
use native.Mathlib.Decide.{ℕ_discrete}
use native.Mathlib.Omega.{arith}
use lib.Bits.{bit_and, bit_or, and_lt, or_lt, and_mask}
use lib.Pow.{pow_pos, pow-lt}
use lib.ListN.{length, get_or, set}
use lib.Seq.{get_or-set_same, get_or-set_other}
use native.Mathlib.Nat.{zero-add}
use lib.Dec.{eqb as nat_eq}
use Rattle.model.specs.Tests.{◌and◌, ◌or◌, non, ◌=?◌}
use Rattle.model.specs.Words.{bit, holds, from_bits, word}
use Rattle.model.proofs.Tests.{falsum, both, pair, lacks, refuted, same, same!, less, less!, most, most!, same_truth}
use Rattle.model.proofs.Words.{bit_zero, is_number, is_word, word_less, bit_word}
use Rattle.bitsets.specs.Elements.{up_to, between, union, intersection, difference, combined_bits, OneBit}
use Rattle.primitives.proofs.Bits.{refute, or-false, bit-bit_and, bit-bit_or, bit_not, bit_power, bit_ones, one_shifted}

-- the elements below a number: none of a word, all of it, or the lowest of it
pub below_none : (count w : ℕ) → count ≤ 64 * w → 0 ≡ word (up_to count) w
unfolding up_to
below_none count w h =
    is_word 0 (up_to count) w (omega arith) (λ b l. bit_zero b ∙ sym (refute (λ t. let q = less t in omega arith)))

pub below_all : (count w : ℕ) → 64 * w + 64 ≤ count → 2 ^ 64 - 1 ≡ word (up_to count) w
unfolding up_to
below_all count w h =
    is_word (2 ^ 64 - 1) (up_to count) w (omega arith) (λ b l. bit_ones 64 b ∙ less! l ∙ sym (less! (omega arith)))

pub below_some : (count w : ℕ) → 64 * w ≤ count → count < 64 * w + 64 → (1 * 2 ^ (count - 64 * w)) % 2 ^ 64 - 1 ≡ word (up_to count) w
unfolding up_to
below_some count w low high =
    ap (λ (x : ℕ). x - 1) (one_shifted (count - 64 * w) (omega arith))
    ∙ is_word (2 ^ (count - 64 * w) - 1) (up_to count) w (omega (arith, pow-lt {i = count - 64 * w} {j = 64} (omega arith)))
    (λ b l. bit_ones (count - 64 * w) b ∙ same_truth (λ t. let q = less t in less! (omega arith)) (λ t. let q = less t in less! (omega arith)))

pub some_below : (count w : ℕ) → count < 64 * w + 64 → 1 ≤ (1 * 2 ^ (count - 64 * w)) % 2 ^ 64
some_below count w high = subst (λ (x : ℕ). 1 ≤ x) (sym (one_shifted (count - 64 * w) (omega arith))) (pow_pos (count - 64 * w))

-- the elements below high that are not below low
pub between_word : (low high w x y : ℕ) → x ≡ word (up_to high) w → y ≡ word (up_to low) w
    → bit_and x ((2 ^ 64 - 1) - y) ≡ word (between low high) w
unfolding up_to between
between_word low high w x y p q =
    ap₂ (λ (u v : ℕ). bit_and u ((2 ^ 64 - 1) - v)) p q
    ∙ is_word _ (between low high) w (and_lt 64 _ _ (word_less (up_to high) w) (omega arith))
    (λ b l. bit-bit_and _ _ b
    ∙ ap₂ ◌and◌ (bit_word (up_to high) w b l) (bit_not 64 _ b (word_less (up_to low) w) l ∙ ap non (bit_word (up_to low) w b l))
    ∙ same_truth
    (λ t. pair (most! (let n : (w * 64 + b < low → ⊥) = λ h. lacks (both t).1 (less! h) in omega arith)) (both t).0)
    (λ t. pair (both t).1 (refuted (λ h. let m = most (both t).0 in let k = less h in omega arith))))

pub between_none : (low high e : ℕ) → (low ≤ e → e < high → ⊥) → between low high e ≡ false
unfolding between
between_none low high e h = refute (λ t. h (most (both t).0) (less (both t).1))

-- one word of a union, an intersection, a difference
module _ (x y : ℕ) (hx : x < 2 ^ 64) (hy : y < 2 ^ 64) where
  pub union_word : bit_or x y ≡ from_bits 64 (combined_bits union x y)
  unfolding combined_bits
  union_word = is_number 64 _ _ (or_lt 64 x y hx hy) (λ b l. bit-bit_or x y b)

  pub intersection_word : bit_and x y ≡ from_bits 64 (combined_bits intersection x y)
  unfolding combined_bits
  intersection_word = is_number 64 _ _ (and_lt 64 x y hx hy) (λ b l. bit-bit_and x y b)

  pub difference_word : bit_and x ((2 ^ 64 - 1) - y) ≡ from_bits 64 (combined_bits difference x y)
  unfolding combined_bits
  difference_word =
      is_number 64 _ _ (and_lt 64 x ((2 ^ 64 - 1) - y) hx (omega arith))
      (λ b l. bit-bit_and x _ b ∙ ap (λ (t : Bool). bit x b and t) (bit_not 64 y b hy l))

-- a word of no element
pub empty_word : (elements : ℕ → Bool) (w : ℕ) → ((e : ℕ) → 64 * w ≤ e → e < 64 * w + 64 → elements e ≡ false) → 0 ≡ word elements w
empty_word elements w h = is_word 0 elements w (omega arith) (λ b l. bit_zero b ∙ sym (h (w * 64 + b) (omega arith) (omega arith)))

-- an element added
pub added : (words : List ℕ) (n x : ℕ) → n / 64 < length words
    → holds (set words (n / 64) (bit_or (get_or words (n / 64) 0) ((1 * 2 ^ (n % 64)) % 2 ^ 64))) 0 x ≡ (holds words 0 x or x =? n)
unfolding holds
added words n x room = rw (one_shifted (n % 64) (omega arith), zero-add (x / 64)) (go (ℕ_discrete (x / 64) (n / 64)))
  where
    go : Dec (x / 64 ≡ n / 64)
        → bit (get_or (set words (n / 64) (bit_or (get_or words (n / 64) 0) (2 ^ (n % 64)))) (x / 64) 0) (x % 64) ≡ (bit (get_or words (x / 64) 0) (x % 64) or x =? n)
    go (yes q) =
        rw (q, get_or-set_same words (n / 64) (bit_or (get_or words (n / 64) 0) (2 ^ (n % 64))) 0 room, bit-bit_or (get_or words (n / 64) 0) (2 ^ (n % 64)) (x % 64), bit_power (n % 64) (x % 64))
        (ap (λ (t : Bool). bit (get_or words (n / 64) 0) (x % 64) or t) (same_truth (λ t. let r = same t in same! (omega arith)) (λ t. let r = same t in same! (omega arith))))
    go (no d) =
        rw (get_or-set_other words (n / 64) (x / 64) (bit_or (get_or words (n / 64) 0) (2 ^ (n % 64))) 0 d)
        (sym (ap (λ (t : Bool). bit (get_or words (x / 64) 0) (x % 64) or t) (refute (λ t. let r = same t in d (omega arith))) ∙ or-false _))

-- a place tested by a shift down and a mask of one bit
pub place_tested : (w place : ℕ) → nat_eq (bit_and (w / 2 ^ place) 1) 1 ≡ bit w place
unfolding bit ◌=?◌
place_tested w place = ap (λ (x : ℕ). x =? 1) (and_mask (w / 2 ^ place) 1)

-- a power of 2 has one bit, and 0 has none
pub bit_shifted : (place : ℕ) → place < 64 → OneBit place ((1 * 2 ^ place) % 2 ^ 64)
bit_shifted place h =
    rw (one_shifted place h) (record { its_bit = λ l. bit_power place place ∙ same! refl; no_other = λ b is. same (sym (bit_power place b) ∙ is) })

pub no_bit : (place : ℕ) → 64 ≤ place → OneBit place 0
no_bit place h = record { its_bit = λ l. absurd (omega arith); no_other = λ b is. falsum (sym (bit_zero b) ∙ is) }
