-- Eight bytes as a word, and the bits of its bytes in reverse order: both are decided bit by bit. Assumes nothing.
use Prim.Native.Nat.{ℕ, zero, suc, ◌+◌, ◌-◌, ◌*◌, ◌/◌, ◌%◌, ◌^◌, ◌≤◌, ◌<◌}
use mathlib.Core.Path.{◌≡◌, refl, sym, ap, ap₂, ◌∙◌}
use mathlib.Core.Logic.{inl, inr}
use mathlib.Core.List.{List}
use lib.ListN.{get_or}
use Rattle.std.specs.Int.{w64, from_le_bytes}
use mathlib.Core.Bool.{Bool, true, false}
use native.Mathlib.Nat.{suc-mul}
use native.Mathlib.Decide.{dec_lt}
use native.Mathlib.Omega.{arith}
use lib.Pow.{pow-add, shr_le}
use lib.Arith.{digits_lt}
use lib.Bits.{bit_and, bit_or, and_lt, or_lt}
use Rattle.model.specs.Tests.{Is, ◌and◌, ◌or◌, non, every, pick, ◌=?◌, ◌<?◌}
use Rattle.model.specs.Bytes.{Bytes, byte}
use Rattle.model.specs.Words.{bit, digit, from_bits}
use Rattle.model.proofs.Tests.{both, either, same, less, fails, every_at, pick_true, pick-false}
use Rattle.model.proofs.Words.{is_number, bit_number, number_same}
use Rattle.bitsets.specs.Elements.{bytes_bits, exchanged, exchanged_bits, LowerPlaces, reversed_bits}
use Rattle.primitives.proofs.Bits.{kept, false_or, and_false, and-true, or-false, bit-bit_and, bit-bit_or, bit_down, bit_up, bit_up_low, bit_low, bit_lower, bit_upper}

-- n bytes as a number, the first lowest
unfoldable pub joined : ℕ → (ℕ → ℕ) → ℕ
joined zero bytes = 0
joined (suc n) bytes = joined n (λ i. bytes (suc i)) * 256 + bytes 0

pub joined_less : (n : ℕ) (bytes : ℕ → ℕ) → ((i : ℕ) → bytes i < 256) → joined n bytes < 2 ^ (n * 8)
unfolding joined
joined_less zero bytes h = omega arith
joined_less (suc n) bytes h = rw (suc-mul, pow-add) (digits_lt (joined_less n (λ i. bytes (suc i)) (λ i. h (suc i))) (h 0))

joined-bit : (n : ℕ) (bytes : ℕ → ℕ) → ((i : ℕ) → bytes i < 256) → (b : ℕ) → b < n * 8 → bit (joined n bytes) b ≡ bit (bytes (b / 8)) (b % 8)
unfolding joined
joined-bit zero bytes h b l = absurd (omega arith)
joined-bit (suc n) bytes h b l = go (dec_lt b 8) (joined-bit n (λ i. bytes (suc i)) (λ i. h (suc i)) (b - 8))
  where
    go : Dec (b < 8) → (b - 8 < n * 8 → bit (joined n (λ i. bytes (suc i))) (b - 8) ≡ bit (bytes (suc ((b - 8) / 8))) ((b - 8) % 8))
        → bit (joined n (λ i. bytes (suc i)) * 256 + bytes 0) b ≡ bit (bytes (b / 8)) (b % 8)
    go (yes k) rest =
        let q : 0 ≡ b / 8 = omega arith in
        let r : b ≡ b % 8 = omega arith in
        bit_lower (joined n (λ i. bytes (suc i))) 8 (bytes 0) b (h 0) k ∙ ap₂ (λ (i e : ℕ). bit (bytes i) e) q r
    go (no k) rest =
        let up : b ≡ 8 + (b - 8) = omega arith in
        let q : suc ((b - 8) / 8) ≡ b / 8 = omega arith in
        let r : (b - 8) % 8 ≡ b % 8 = omega arith in
        ap (bit (joined n (λ i. bytes (suc i)) * 256 + bytes 0)) up
        ∙ bit_upper (joined n (λ i. bytes (suc i))) 8 (bytes 0) (b - 8) (h 0) ∙ rest (omega (arith, l))
        ∙ ap₂ (λ (i e : ℕ). bit (bytes i) e) q r

pub joined_word : (s : Bytes) (at : ℕ) → ((i : ℕ) → byte s i < 256) → joined 8 (λ i. byte s (at + i)) ≡ from_bits 64 (bytes_bits s at)
unfolding bytes_bits
joined_word s at small =
    is_number 64 _ (bytes_bits s at) (joined_less 8 _ (λ i. small (at + i))) (λ b l. joined-bit 8 _ (λ i. small (at + i)) b l)

-- eight bytes as the library puts them together
pub eight_word : (s : Bytes) (at : ℕ) (bytes : List ℕ) → ((i : ℕ) → byte s i < 256) → ((i : ℕ) → i < 8 → get_or bytes i 0 ≡ byte s (at + i))
    → from_le_bytes w64 bytes ≡ from_bits 64 (bytes_bits s at)
unfolding joined
eight_word s at bytes small are =
    let sum : from_le_bytes w64 bytes ≡ joined 8 (λ i. byte s (at + i)) =
    omega (arith, are 0 (omega arith), are 1 (omega arith), are 2 (omega arith), are 3 (omega arith), are 4 (omega arith), are 5 (omega arith), are 6 (omega arith), are 7 (omega arith)) in
    sum ∙ joined_word s at small

-- bits exchanged by a shift up and a shift down
pub exchanged_word : (x mask by : ℕ) → x < 2 ^ 64 → mask < 2 ^ 64 → LowerPlaces mask by
    → bit_or (bit_and (x / 2 ^ by) mask) ((bit_and x mask * 2 ^ by) % 2 ^ 64) ≡ from_bits 64 (exchanged_bits mask by x)
unfolding exchanged_bits exchanged
exchanged_word x mask by hx hm places =
    is_number 64 _ (exchanged_bits mask by x) (or_lt 64 (bit_and (x / 2 ^ by) mask) ((bit_and x mask * 2 ^ by) % 2 ^ 64)
    (and_lt 64 (x / 2 ^ by) mask (omega (arith, shr_le x by)) hm) (omega arith))
    (λ b l. bit-bit_or _ _ b ∙ ap₂ ◌or◌ (bit-bit_and _ _ b ∙ ap (λ (t : Bool). t and bit mask b) (bit_down x by b)) (bit_low 64 _ b l)
    ∙ go b l (bit mask b) refl (dec_lt b by))
  where
    moved : (b : ℕ) → by ≤ b → bit (bit_and x mask * 2 ^ by) b ≡ (bit x (b - by) and bit mask (b - by))
    moved b h =
        let up : b ≡ by + (b - by) = omega arith in
        ap (bit (bit_and x mask * 2 ^ by)) up ∙ bit_up (bit_and x mask) by (b - by) ∙ bit-bit_and x mask (b - by)

    go : (b : ℕ) → b < 64 → (t : Bool) → bit mask b ≡ t → Dec (b < by)
        → ((bit x (by + b) and bit mask b) or bit (bit_and x mask * 2 ^ by) b) ≡ bit x (pick (bit mask b) (b + by) (b - by))
    go b l true q (yes k) =
        let sum : by + b ≡ b + by = omega arith in
        ap₂ ◌or◌ (ap₂ ◌and◌ (ap (bit x) sum) q ∙ and-true _) (bit_up_low (bit_and x mask) by b k) ∙ or-false _
        ∙ ap (bit x) (sym (pick_true _ _ _ q))
    go b l true q (no k) =
        let sum : by + b ≡ b + by = omega arith in
        let upper : bit mask (b - by) ≡ false = fails (sym (places.higher b (omega arith) l) ∙ q) in
        ap₂ ◌or◌ (ap₂ ◌and◌ (ap (bit x) sum) q ∙ and-true _) (moved b (omega arith) ∙ ap (λ (t : Bool). bit x (b - by) and t) upper ∙ and_false _)
        ∙ or-false _ ∙ ap (bit x) (sym (pick_true _ _ _ q))
    go b l false q (yes k) = absurd (mathlib.Core.Bool.false≢true (sym q ∙ places.lowest b k))
    go b l false q (no k) =
        let lower : bit mask (b - by) ≡ true = kept (sym (places.higher b (omega arith) l) ∙ q) in
        ap₂ ◌or◌ (ap (λ (t : Bool). bit x (by + b) and t) q ∙ and_false _) (moved b (omega arith) ∙ ap (λ (t : Bool). bit x (b - by) and t) lower ∙ and-true _)
        ∙ false_or _ ∙ ap (bit x) (sym (pick-false _ _ _ q))

-- a mask's places, tested one by one
alternating : ℕ → ℕ → ℕ → Bool
alternating mask by b = b <? by or digit (bit mask b) + digit (bit mask (b - by)) =? 1

unlike : (s t : Bool) → digit s + digit t ≡ 1 → s ≡ non t
unfolding non
unlike true true h = absurd (omega arith)
unlike true false h = refl
unlike false true h = refl
unlike false false h = absurd (omega arith)

lower_places : (mask by : ℕ) → by < 64 → Is (every by (bit mask)) → Is (every 64 (alternating mask by)) → LowerPlaces mask by
unfolding alternating
lower_places mask by h low high =
    record {
      few = h;
      lowest = λ b l. every_at by (bit mask) low b l;
      higher = λ b l k. elim (either (every_at 64 (alternating mask by) high b k)) [
        | inl t ↦ let q = less t in absurd (omega arith)
        | inr t ↦ unlike (bit mask b) (bit mask (b - by)) (same t)
      ];
    }

abbrev pub ONES : ℕ
ONES = 0x5555_5555_5555_5555

abbrev pub TWOS : ℕ
TWOS = 0x3333_3333_3333_3333

abbrev pub FOURS : ℕ
FOURS = 0x0F0F_0F0F_0F0F_0F0F

pub ones_places : LowerPlaces ONES 1
unfolding every ◌and◌ ◌or◌ ◌=?◌ ◌<?◌ bit alternating
ones_places = lower_places ONES 1 (omega arith) refl refl

pub twos_places : LowerPlaces TWOS 2
unfolding every ◌and◌ ◌or◌ ◌=?◌ ◌<?◌ bit alternating
twos_places = lower_places TWOS 2 (omega arith) refl refl

pub fours_places : LowerPlaces FOURS 4
unfolding every ◌and◌ ◌or◌ ◌=?◌ ◌<?◌ bit alternating
fours_places = lower_places FOURS 4 (omega arith) refl refl

-- where a bit of a reversed byte comes from, tested place by place
from_fours : ℕ → ℕ
from_fours b = exchanged FOURS 4 b

from_twos : ℕ → ℕ
from_twos b = exchanged TWOS 2 (from_fours b)

reversal : ℕ → Bool
reversal b = from_fours b <? 64 and from_twos b <? 64 and exchanged ONES 1 (from_twos b) =? b / 8 * 8 + (7 - b % 8)

reversals : Is (every 64 reversal)
unfolding every ◌and◌ ◌=?◌ ◌<?◌ pick bit exchanged from_fours from_twos reversal
reversals = refl

pub reversed_word : (x y z r : ℕ) → y ≡ from_bits 64 (exchanged_bits ONES 1 x) → z ≡ from_bits 64 (exchanged_bits TWOS 2 y)
    → r ≡ from_bits 64 (exchanged_bits FOURS 4 z) → r ≡ from_bits 64 (reversed_bits x)
unfolding exchanged_bits reversed_bits reversal from_fours from_twos
reversed_word x y z r p q t =
    t ∙ number_same 64 (exchanged_bits FOURS 4 z) (reversed_bits x) (λ b l.
    let tests = every_at 64 reversal reversals b l in
    let four : exchanged FOURS 4 b < 64 = less (both tests).0 in
    let two : exchanged TWOS 2 (exchanged FOURS 4 b) < 64 = less (both (both tests).1).0 in
    ap (λ (w : ℕ). bit w (exchanged FOURS 4 b)) q ∙ bit_number 64 (exchanged_bits TWOS 2 y) _ four
    ∙ ap (λ (w : ℕ). bit w (exchanged TWOS 2 (exchanged FOURS 4 b))) p ∙ bit_number 64 (exchanged_bits ONES 1 x) _ two
    ∙ ap (bit x) (same (both (both tests).1).1))
