-- The laws of bits, of words of bits, and of words stored in a list: a number is decided by its bits, a list by its words.
-- Assumes nothing.
use Prim.Native.Nat.{ℕ, zero, suc, ◌+◌, ◌-◌, ◌*◌, ◌/◌, ◌%◌, ◌^◌, ◌≤◌, ◌<◌}
use mathlib.Core.Path.{◌≡◌, refl, sym, ap, ap₂, ◌∙◌}
use mathlib.Core.Logic.{◌⊎◌, inl, inr, ⊎_elim}
use mathlib.Core.Bool.{Bool, true, false}
use mathlib.Core.List.{List}
use native.Mathlib.Nat.{pow-suc, div-one, zero-div, mod-lt, div-add-mod', add-zero, add-suc, add_assoc}
use native.Mathlib.Numerals.{add-one, one-add}
use native.Mathlib.Decide.{ℕ_discrete, dec_le, dec_lt}
use native.Mathlib.Omega.{arith}
use lib.Arith.{lt-one, digits_mod, digits_div, digits_lt}
use lib.Pow.{shr-shr}
use lib.ListN.{length, get_or, set, drop, length-set}
use lib.Seq.{get_or-set_same, get_or-set_other, drop-set-lt, ext_get_or}
use Rattle.model.specs.Tests.{◌=?◌}
use Rattle.model.specs.Words.{bit, holds, digit, from_bits, word, store}

-- one bit at a time
pub bit_first : (w : ℕ) → bit w 0 ≡ (w % 2 =? 1)
unfolding bit
bit_first w = ap (λ (x : ℕ). x % 2 =? 1) (div-one w)

pub bit_next : (w b : ℕ) → bit w (suc b) ≡ bit (w / 2) b
unfolding bit
bit_next w b = ap (λ (x : ℕ). x % 2 =? 1) (ap (λ (k : ℕ). w / 2 ^ k) (sym (one-add b)) ∙ sym (shr-shr w 1 b))

pub bit_zero : (b : ℕ) → bit 0 b ≡ false
unfolding bit ◌=?◌
bit_zero b = ap (λ (x : ℕ). x % 2 =? 1) (zero-div (2 ^ b))

-- a digit and the test of it
pub digit_less : (t : Bool) → digit t < 2
digit_less true = omega arith
digit_less false = omega arith

pub test_digit : (t : Bool) → (digit t =? 1) ≡ t
unfolding ◌=?◌
test_digit true = refl
test_digit false = refl

pub digit_test : (x : ℕ) → x < 2 → digit (x =? 1) ≡ x
unfolding ◌=?◌
digit_test zero h = refl
digit_test (suc zero) h = refl
digit_test (suc (suc x)) h = absurd (omega arith)

-- a number of bits: its half has the bits above the first, its rest is the first
pub number_half : (n : ℕ) (bits : ℕ → Bool) → from_bits (suc n) bits / 2 ≡ from_bits n (λ b. bits (suc b))
unfolding from_bits
number_half n bits = digits_div (from_bits n (λ b. bits (suc b))) (digit_less (bits 0))

pub number_rest : (n : ℕ) (bits : ℕ → Bool) → from_bits (suc n) bits % 2 ≡ digit (bits 0)
unfolding from_bits
number_rest n bits = digits_mod (from_bits n (λ b. bits (suc b))) (digit_less (bits 0))

-- bit b of a number of bits is `bits b`
pub bit_number : (n : ℕ) (bits : ℕ → Bool) (b : ℕ) → b < n → bit (from_bits n bits) b ≡ bits b
bit_number zero bits b h = absurd (omega arith)
bit_number (suc n) bits zero h = bit_first (from_bits (suc n) bits) ∙ ap (λ (x : ℕ). x =? 1) (number_rest n bits) ∙ test_digit (bits 0)
bit_number (suc n) bits (suc b) h =
    bit_next (from_bits (suc n) bits) b ∙ ap (λ (x : ℕ). bit x b) (number_half n bits) ∙ bit_number n (λ b. bits (suc b)) b (omega arith)

-- and 0 at or above n
pub bit_past : (n : ℕ) (bits : ℕ → Bool) (b : ℕ) → n ≤ b → bit (from_bits n bits) b ≡ false
unfolding from_bits
bit_past zero bits b h = bit_zero b
bit_past (suc n) bits zero h = absurd (omega arith)
bit_past (suc n) bits (suc b) h =
    bit_next (from_bits (suc n) bits) b ∙ ap (λ (x : ℕ). bit x b) (number_half n bits) ∙ bit_past n (λ b. bits (suc b)) b (omega arith)

pub number_less : (n : ℕ) (bits : ℕ → Bool) → from_bits n bits < 2 ^ n
unfolding from_bits
number_less zero bits = omega arith
number_less (suc n) bits = rw pow-suc (digits_lt (number_less n (λ b. bits (suc b))) (digit_less (bits 0)))

pub number_same : (n : ℕ) (f g : ℕ → Bool) → ((b : ℕ) → b < n → f b ≡ g b) → from_bits n f ≡ from_bits n g
unfolding from_bits
number_same zero f g h = refl
number_same (suc n) f g h =
    ap₂ (λ (x y : ℕ). x * 2 + y)
    (number_same n (λ b. f (suc b)) (λ b. g (suc b)) (λ b l. h (suc b) (omega arith)))
    (ap digit (h 0 (omega arith)))

-- a number is the number of its bits
pub number_bits : (n w : ℕ) → w < 2 ^ n → from_bits n (bit w) ≡ w
unfolding from_bits
number_bits zero w h = sym (lt-one h)
number_bits (suc n) w h =
    ap₂ (λ (x y : ℕ). x * 2 + y)
    (number_same n (λ b. bit w (suc b)) (bit (w / 2)) (λ b l. bit_next w b) ∙ number_bits n (w / 2) (omega (arith, pow-suc 2 n)))
    (ap digit (bit_first w) ∙ digit_test (w % 2) (mod-lt w (omega arith)))
    ∙ div-add-mod' w 2

-- so its bits decide it
pub is_number : (n w : ℕ) (bits : ℕ → Bool) → w < 2 ^ n → ((b : ℕ) → b < n → bit w b ≡ bits b) → w ≡ from_bits n bits
is_number n w bits h same = sym (number_bits n w h) ∙ number_same n (bit w) bits same

pub bits_decide : (n w v : ℕ) → w < 2 ^ n → v < 2 ^ n → ((b : ℕ) → b < n → bit w b ≡ bit v b) → w ≡ v
bits_decide n w v h k same = is_number n w (bit v) h same ∙ number_bits n v k

-- bits of 0 above the first n add nothing
pub number_cut : (n m : ℕ) (bits : ℕ → Bool) → ((b : ℕ) → n ≤ b → b < m → bits b ≡ false) → n ≤ m → from_bits m bits ≡ from_bits n bits
unfolding from_bits
number_cut zero zero bits none le = refl
number_cut (suc n) zero bits none le = absurd (omega arith)
number_cut zero (suc m) bits none le =
    ap₂ (λ (x y : ℕ). x * 2 + y) (number_cut zero m (λ b. bits (suc b)) (λ b l k. none (suc b) (omega arith) (omega arith)) (omega arith))
    (ap digit (none 0 (omega arith) (omega arith)))
number_cut (suc n) (suc m) bits none le =
    ap (λ (x : ℕ). x * 2 + digit (bits 0))
    (number_cut n m (λ b. bits (suc b)) (λ b l k. none (suc b) (omega arith) (omega arith)) (omega arith))

-- the words of a set
pub word_less : (elements : ℕ → Bool) (w : ℕ) → word elements w < 2 ^ 64
unfolding word
word_less elements w = number_less 64 (λ b. elements (w * 64 + b))

pub bit_word : (elements : ℕ → Bool) (w b : ℕ) → b < 64 → bit (word elements w) b ≡ elements (w * 64 + b)
unfolding word
bit_word elements w b h = bit_number 64 (λ b. elements (w * 64 + b)) b h

pub is_word : (x : ℕ) (elements : ℕ → Bool) (w : ℕ) → x < 2 ^ 64 → ((b : ℕ) → b < 64 → bit x b ≡ elements (w * 64 + b)) → x ≡ word elements w
unfolding word
is_word x elements w h same = is_number 64 x (λ b. elements (w * 64 + b)) h same

pub word_same : (f g : ℕ → Bool) (w : ℕ) → ((b : ℕ) → b < 64 → f (w * 64 + b) ≡ g (w * 64 + b)) → word f w ≡ word g w
unfolding word
word_same f g w h = number_same 64 (λ b. f (w * 64 + b)) (λ b. g (w * 64 + b)) h

-- element e, in its word at its bit
pub word_element : (elements : ℕ → Bool) (e : ℕ) → bit (word elements (e / 64)) (e % 64) ≡ elements e
word_element elements e = bit_word elements (e / 64) (e % 64) (omega arith) ∙ ap elements (div-add-mod' e 64)

-- words stored in a list
pub store_length : (words : List ℕ) (at n : ℕ) (value : ℕ → ℕ) → length (store words at n value) ≡ length words
unfolding store
store_length words at zero value = refl
store_length words at (suc n) value = length-set (store words at n value) (at + n) (value n) ∙ store_length words at n value

-- one word more, as a loop's turn writes it
pub store_next : (words : List ℕ) (at n : ℕ) (value : ℕ → ℕ) → set (store words at n value) (at + n) (value n) ≡ store words at (n + 1) value
unfolding store
store_next words at n value = ap (λ (k : ℕ). store words at k value) (sym (add-one n))

pub store_same : (words : List ℕ) (at n : ℕ) (f g : ℕ → ℕ) → ((k : ℕ) → k < n → f k ≡ g k) → store words at n f ≡ store words at n g
unfolding store
store_same words at zero f g h = refl
store_same words at (suc n) f g h =
    ap₂ (λ (l : List ℕ) (v : ℕ). set l (at + n) v) (store_same words at n f g (λ k l. h k (omega arith))) (h n (omega arith))

-- a word outside is as it was
pub store_outside : (words : List ℕ) (at n : ℕ) (value : ℕ → ℕ) (i : ℕ) → (at ≤ i → i < at + n → ⊥)
    → get_or (store words at n value) i 0 ≡ get_or words i 0
unfolding store
store_outside words at zero value i h = refl
store_outside words at (suc n) value i h =
    get_or-set_other (store words at n value) (at + n) i (value n) 0 (λ e. h (omega arith) (omega arith))
    ∙ store_outside words at n value i (λ l r. h l (omega arith))

-- the words behind are as they were
pub store_behind : (words : List ℕ) (at n m : ℕ) (value : ℕ → ℕ) → at + n ≤ m → drop m (store words at n value) ≡ drop m words
unfolding store
store_behind words at zero m value h = refl
store_behind words at (suc n) m value h =
    drop-set-lt m (store words at n value) (at + n) (value n) (omega arith) ∙ store_behind words at n m value (omega arith)

-- a word inside is the one stored
pub store_inside : (words : List ℕ) (at n : ℕ) (value : ℕ → ℕ) (k : ℕ) → at + n ≤ length words → k < n
    → get_or (store words at n value) (at + k) 0 ≡ value k
unfolding store
store_inside words at zero value k h l = absurd (omega arith)
store_inside words at (suc n) value k h l = go (λ r. store_inside words at n value k (omega arith) r) (ℕ_discrete k n)
  where
    go : (k < n → get_or (store words at n value) (at + k) 0 ≡ value k) → Dec (k ≡ n)
        → get_or (set (store words at n value) (at + n) (value n)) (at + k) 0 ≡ value k
    go ih (yes e) =
        ap (λ (j : ℕ). get_or (set (store words at n value) (at + n) (value n)) (at + j) 0) e
        ∙ get_or-set_same (store words at n value) (at + n) (value n) 0 (omega (arith, store_length words at n value)) ∙ ap value (sym e)
    go ih (no q) = get_or-set_other (store words at n value) (at + n) (at + k) (value n) 0 (λ e. q (omega arith)) ∙ ih (omega arith)

-- inside or outside
pub inside? : (at n i : ℕ) → ((k : ℕ) × (k < n) × (i ≡ at + k)) ⊎ (at ≤ i → i < at + n → ⊥)
inside? at n i = go (dec_le at i) (dec_lt i (at + n))
  where
    go : Dec (at ≤ i) → Dec (i < at + n) → ((k : ℕ) × (k < n) × (i ≡ at + k)) ⊎ (at ≤ i → i < at + n → ⊥)
    go (yes l) (yes r) = inl (i - at, omega arith, omega arith)
    go (yes l) (no r) = inr (λ _ q. r q)
    go (no l) r = inr (λ q _. l q)

-- a list that has the values inside and the old words outside is that store
pub is_store : (list words : List ℕ) (at n : ℕ) (value : ℕ → ℕ) → length list ≡ length words → at + n ≤ length words
    → ((k : ℕ) → k < n → get_or list (at + k) 0 ≡ value k)
    → ((i : ℕ) → (at ≤ i → i < at + n → ⊥) → get_or list i 0 ≡ get_or words i 0)
    → list ≡ store words at n value
is_store list words at n value len fit inside outside =
    ext_get_or 0 list (store words at n value) (len ∙ sym (store_length words at n value)) (λ i l. ⊎_elim
    (λ w. ap (λ (j : ℕ). get_or list j 0) w.2 ∙ inside w.0 w.1 ∙ sym (store_inside words at n value w.0 fit w.1)
    ∙ ap (λ (j : ℕ). get_or (store words at n value) j 0) (sym w.2))
    (λ o. outside i o ∙ sym (store_outside words at n value i o))
    (inside? at n i))

-- a second store over the first
pub store_over : (words : List ℕ) (at n : ℕ) (f g : ℕ → ℕ) → at + n ≤ length words → store (store words at n f) at n g ≡ store words at n g
store_over words at n f g fit =
    is_store (store (store words at n f) at n g) words at n g (store_length (store words at n f) at n g ∙ store_length words at n f) fit
    (λ k l. store_inside (store words at n f) at n g k (omega (arith, store_length words at n f)) l)
    (λ i o. store_outside (store words at n f) at n g i o ∙ store_outside words at n f i o)

-- n words and then m behind them are n + m words
pub store_pieces : (words : List ℕ) (at n m : ℕ) (value : ℕ → ℕ)
    → store (store words at n value) (at + n) m (λ k. value (n + k)) ≡ store words at (n + m) value
unfolding store
store_pieces words at n zero value = ap (λ (k : ℕ). store words at k value) (sym (add-zero n))
store_pieces words at n (suc m) value =
    ap₂ (λ (l : List ℕ) (j : ℕ). set l j (value (n + m))) (store_pieces words at n m value) (add_assoc at n m)
    ∙ ap (λ (k : ℕ). store words at k value) (sym (add-suc n m))

-- one word set, where the others are the values already
pub store_one : (words : List ℕ) (at n : ℕ) (value : ℕ → ℕ) (q v : ℕ) → at + n ≤ length words → q < n → v ≡ value q
    → ((k : ℕ) → k < n → (k ≡ q → ⊥) → get_or words (at + k) 0 ≡ value k) → set words (at + q) v ≡ store words at n value
store_one words at n value q v fit l here others =
    is_store (set words (at + q) v) words at n value (length-set words (at + q) v) fit (λ k h. go k h (ℕ_discrete k q))
    (λ i o. get_or-set_other words (at + q) i v 0 (λ e. o (omega arith) (omega arith)))
  where
    go : (k : ℕ) → k < n → Dec (k ≡ q) → get_or (set words (at + q) v) (at + k) 0 ≡ value k
    go k h (yes e) =
        ap (λ (j : ℕ). get_or (set words (at + q) v) (at + j) 0) e ∙ get_or-set_same words (at + q) v 0 (omega arith) ∙ here ∙ ap value (sym e)
    go k h (no d) = get_or-set_other words (at + q) (at + k) v 0 (λ e. d (omega arith)) ∙ others k h d

-- a set's elements as the bits of its words, and its words as the words of its elements
pub holds-bit : (words : List ℕ) (at w b : ℕ) → b < 64 → holds words at (w * 64 + b) ≡ bit (get_or words (at + w) 0) b
unfolding holds
holds-bit words at w b h = same (omega arith) (omega arith)
  where
    same : {i k b c : ℕ} → i ≡ k → b ≡ c → bit (get_or words i 0) b ≡ bit (get_or words k 0) c
    same p q = ap₂ (λ (x y : ℕ). bit (get_or words x 0) y) p q

-- an element, whatever its word
pub holds_at : (words : List ℕ) (at e : ℕ) → holds words at e ≡ bit (get_or words (at + e / 64) 0) (e % 64)
holds_at words at e =
    let whole : e ≡ e / 64 * 64 + e % 64 = omega arith in
    ap (holds words at) whole ∙ holds-bit words at (e / 64) (e % 64) (omega arith)

pub word_held : (words : List ℕ) (at w : ℕ) → get_or words (at + w) 0 < 2 ^ 64 → get_or words (at + w) 0 ≡ word (holds words at) w
word_held words at w h = is_word (get_or words (at + w) 0) (holds words at) w h (λ b l. sym (holds-bit words at w b l))

-- a set whose eight words are stored
pub holds_stored : (words : List ℕ) (at : ℕ) (elements : ℕ → Bool) (e : ℕ) → at + 8 ≤ length words → e < 512
    → holds (store words at 8 (word elements)) at e ≡ elements e
holds_stored words at elements e fit h =
    holds_at (store words at 8 (word elements)) at e
    ∙ ap (λ (x : ℕ). bit x (e % 64)) (store_inside words at 8 (word elements) (e / 64) fit (omega arith)) ∙ word_element elements e

-- a set whose eight words stand before those stored
pub holds_kept : (words : List ℕ) (at n : ℕ) (value : ℕ → ℕ) (a e : ℕ) → a + 8 ≤ at → e < 512
    → holds (store words at n value) a e ≡ holds words a e
holds_kept words at n value a e h l =
    holds_at (store words at n value) a e
    ∙ ap (λ (x : ℕ). bit x (e % 64)) (store_outside words at n value (a + e / 64) (omega arith))
    ∙ sym (holds_at words a e)
