-- The eight words of a piece, one after the other, and what each of them is. Assumes nothing.
use Prim.Native.Nat.{ℕ, ◌+◌, ◌-◌, ◌*◌, ◌/◌, ◌%◌, ◌^◌, ◌≤◌, ◌<◌}
use mathlib.Core.Path.{◌≡◌, refl, sym, ap, ap₂, ◌∙◌}
use mathlib.Core.Bool.{Bool, false}
use mathlib.Core.List.{List, ◌++◌}
use native.Mathlib.Nat.{mod-lt}
use native.Mathlib.Omega.{arith}
use lib.Bits.{bit_and, bit_or, and_le_l, or_lt}
use lib.ListN.{length, get_or, set, take, drop, replicate, length-set, length-replicate, get_or-replicate}
use borrow.Rule.Slice.PartMut.{put_mid}
use Rattle.std.proofs.lemmas.List.{length-append, length-drop, length-take, length-take-le, get_or_append_left, get_or-append_right, get_or-take, get_or-drop}
use native.Mathlib.Decide.{dec_lt}
use Rattle.model.specs.Tests.{◌and◌, ◌or◌, ◌=?◌}
use Rattle.model.specs.Bytes.{byte}
use Rattle.model.specs.Words.{bit, holds, from_bits, word, store}
use Rattle.model.proofs.Words.{bit_zero, bit_number, number_less, is_word, holds-bit, store_length, store_next, store_inside, store_outside, is_store}
use Rattle.bitsets.specs.Elements.{PieceOf, combined_bits, combined, masked, supplied_elements, bytes_bits, reversed_bits}
use Rattle.subregions.specs.Operators.{no_word, SetOf, OperandSet}
use Rattle.primitives.proofs.Bits.{and_swap, bit-bit_and}
use Rattle.bitsets.proofs.Elements.{added}
use Rattle.primitives.proofs.Filling.{entry_changed}

-- so many of a piece's words written
pub record Written (old : List ℕ) (at : ℕ) (value : ℕ → ℕ) (new : List ℕ) (w : ℕ) : Type 0 where
  pub few : w ≤ 8
  pub words_are : new ≡ store old at w value
  pub as_long : length new ≡ length old

module _ (old : List ℕ) (at : ℕ) (value : ℕ → ℕ) where
  pub written_none : Written old at value old 0
  unfolding store
  written_none = record { few = omega arith; words_are = refl; as_long = refl }

  pub written_next : (new : List ℕ) (w v : ℕ) → Written old at value new w → w < 8 → v ≡ value w → Written old at value (set new (at + w) v) (w + 1)
  written_next new w v h l e =
      record {
        few = omega arith;
        words_are = ap₂ (λ (list : List ℕ) (x : ℕ). set list (at + w) x) h.words_are e ∙ store_next old at w value;
        as_long = length-set new (at + w) v ∙ h.as_long;
      }

-- eight words of 0 put in
pub cleared : (old part : List ℕ) (at k : ℕ) → at + 8 ≤ length old → k ≡ 8 → part ≡ replicate 8 0 → put_mid at k old part ≡ store old at 8 no_word
cleared old part at k room q zeros =
    rw (q, zeros) (is_store (take at old ++ (replicate 8 0 ++ drop 8 (drop at old))) old at 8 no_word (omega (arith, whole)) room
    (λ j l.
    let place : at + j - at ≡ j = omega arith in
    get_or-append_right (take at old) _ at (at + j) 0 first (omega arith) ∙ ap (λ (x : ℕ). get_or (replicate 8 0 ++ drop 8 (drop at old)) x 0) place
    ∙ get_or_append_left (replicate 8 0) _ 0 j (omega (arith, l)) ∙ get_or-replicate {A = ℕ} 8 j 0 0 l)
    (λ i o. go i o (dec_lt i at)))
  where
    first : length (take at old) ≡ at
    first = length-take-le at old (omega arith)

    whole : length (take at old ++ (replicate 8 0 ++ drop 8 (drop at old))) ≡ at + (8 + (length old - at - 8))
    whole = simp (length-append, length-drop) (omega (arith, first))

    go : (i : ℕ) → (at ≤ i → i < at + 8 → ⊥) → Dec (i < at) → get_or (take at old ++ (replicate 8 0 ++ drop 8 (drop at old))) i 0 ≡ get_or old i 0
    go i o (yes l) = get_or_append_left (take at old) _ 0 i (omega (arith, first)) ∙ get_or-take at old i 0 l
    go i o (no l) =
        let far : (i < at + 8 → ⊥) = λ m. o (omega arith) m in
        let here : at + (8 + (i - at - 8)) ≡ i = omega arith in
        get_or-append_right (take at old) _ at i 0 first (omega arith)
        ∙ get_or-append_right (replicate 8 0) _ 8 (i - at) 0 (length-replicate {A = ℕ} 8 0) (omega arith)
        ∙ get_or-drop 8 (drop at old) (i - at - 8) 0 ∙ get_or-drop at old (8 + (i - at - 8)) 0 ∙ ap (λ (x : ℕ). get_or old x 0) here

-- so many words of a piece made, the others 0
pub record Made (elements : ℕ → Bool) (piece : List ℕ) (w : ℕ) : Type 0 where
  pub few : w ≤ 8
  pub eight : length piece ≡ 8
  pub word_is : (k : ℕ) → k < w → get_or piece k 0 ≡ word elements k
  pub rest : (k : ℕ) → w ≤ k → k < 8 → get_or piece k 0 ≡ 0

module _ (elements : ℕ → Bool) where
  -- the words that are left have no element
  pub made_to : (piece : List ℕ) (w : ℕ) → Made elements piece w → ((k : ℕ) → w ≤ k → k < 8 → 0 ≡ word elements k) → PieceOf elements piece
  made_to piece w h left = record { eight = omega (arith, h.eight); word_is = λ k l. go k l (dec_lt k w) }
    where
      go : (k : ℕ) → k < 8 → Dec (k < w) → get_or piece k 0 ≡ word elements k
      go k l (yes m) = h.word_is k m
      go k l (no m) = h.rest k (omega arith) l ∙ left k (omega arith) l

-- a cleared piece with so many of its words written, the others still 0
pub record Begun (old : List ℕ) (at : ℕ) (elements : ℕ → Bool) (new : List ℕ) (w : ℕ) : Type 0 where
  pub few : w ≤ 8
  pub as_long : length new ≡ length old
  pub word_is : (k : ℕ) → k < w → get_or new (at + k) 0 ≡ word elements k
  pub rest : (k : ℕ) → w ≤ k → k < 8 → get_or new (at + k) 0 ≡ 0
  pub outside : (i : ℕ) → (at ≤ i → i < at + 8 → ⊥) → get_or new i 0 ≡ get_or old i 0

module _ (base old : List ℕ) (at : ℕ) (elements : ℕ → Bool) (room : at + 8 ≤ length base) (cleared : old ≡ store base at 8 no_word) where
  -- the words that are skipped have no element
  pub begun_from : (w : ℕ) → w ≤ 8 → ((k : ℕ) → k < w → 0 ≡ word elements k) → Begun old at elements old w
  begun_from w h skipped =
      record {
        few = h;
        as_long = refl;
        word_is = λ k l. empty k (omega arith) ∙ skipped k l;
        rest = λ k l m. empty k m;
        outside = λ i o. refl;
      }
    where
      empty : (k : ℕ) → k < 8 → get_or old (at + k) 0 ≡ 0
      empty k l = ap (λ (list : List ℕ). get_or list (at + k) 0) cleared ∙ store_inside base at 8 no_word k room l

  as_base : length old ≡ length base
  as_base = ap length cleared ∙ store_length base at 8 no_word

  -- the words that are left have no element
  pub begun_to : (new : List ℕ) (w : ℕ) → Begun old at elements new w → ((k : ℕ) → w ≤ k → k < 8 → 0 ≡ word elements k) → new ≡ store base at 8 (word elements)
  begun_to new w h left =
      is_store new base at 8 (word elements) (h.as_long ∙ as_base) room (λ k l. go k l (dec_lt k w))
      (λ i o. h.outside i o ∙ ap (λ (list : List ℕ). get_or list i 0) cleared ∙ store_outside base at 8 no_word i o)
    where
      go : (k : ℕ) → k < 8 → Dec (k < w) → get_or new (at + k) 0 ≡ word elements k
      go k l (yes m) = h.word_is k m
      go k l (no m) = h.rest k (omega arith) l ∙ left k (omega arith) l

-- a set's words and a spare one
module _ (T : ℕ → Bool) where
  pub set_none : ((e : ℕ) → false ≡ T e) → SetOf T (replicate 9 0)
  unfolding holds
  set_none none =
      record {
        nine = length-replicate {A = ℕ} 9 0;
        small = λ i l. rw (get_or-replicate {A = ℕ} 9 i 0 0 l) (omega arith);
        holds_is = λ e l. rw (get_or-replicate {A = ℕ} 9 (0 + e / 64) 0 0 (omega arith)) (bit_zero (e % 64) ∙ none e);
      }

  pub set_same : (S : ℕ → Bool) (words : List ℕ) → SetOf S words → ((e : ℕ) → e < 512 → S e ≡ T e) → SetOf T words
  set_same S words h same = record { nine = h.nine; small = h.small; holds_is = λ e l. h.holds_is e l ∙ same e l }

  -- an element added
  pub set_added : (S : ℕ → Bool) (words : List ℕ) (n : ℕ) → n ≤ 512 → SetOf S words → ((e : ℕ) → e < 512 → (S e or e =? n) ≡ T e)
      → SetOf T (set words (n / 64) (bit_or (get_or words (n / 64) 0) ((1 * 2 ^ (n % 64)) % 2 ^ 64)))
  set_added S words n few h same =
      record {
        nine = length-set words (n / 64) _ ∙ h.nine;
        small = entry_changed 0 (λ x. x < 2 ^ 64) words (n / 64) _ 9 (omega (arith, h.nine)) h.small
            (or_lt 64 (get_or words (n / 64) 0) _ (h.small (n / 64) (omega arith)) (mod-lt (1 * 2 ^ (n % 64)) (omega arith)));
        holds_is = λ e l. added words n e (omega (arith, h.nine)) ∙ ap (λ (t : Bool). t or e =? n) (h.holds_is e l) ∙ same e l;
      }

  -- its first eight words
  pub set_piece : (words piece : List ℕ) → piece ≡ take 8 words → SetOf T words → PieceOf T piece
  set_piece words piece first h =
      record {
        eight = omega (arith, ap length first, length-take 8 words, h.nine);
        word_is = λ w l.
            let here : 0 + w ≡ w = omega arith in
            ap (λ (list : List ℕ). get_or list w 0) first ∙ get_or-take 8 words w 0 l
            ∙ is_word (get_or words w 0) T w (h.small w (omega arith))
            (λ b m. ap (λ (k : ℕ). bit (get_or words k 0) b) (sym here) ∙ sym (holds-bit words 0 w b m) ∙ h.holds_is (w * 64 + b) (omega arith));
      }

-- a word within a mask
masked-word : (masks : List ℕ) (elements : ℕ → Bool) (w x : ℕ) → x < 2 ^ 64 → ((b : ℕ) → b < 64 → bit x b ≡ elements (w * 64 + b))
    → bit_and x (get_or masks w 0) ≡ word (masked masks elements) w
unfolding masked
masked-word masks elements w x h same =
    let here : 0 + w ≡ w = omega arith in
    is_word _ (masked masks elements) w (omega (arith, and_le_l x (get_or masks w 0)))
    (λ b l. bit-bit_and x _ b
    ∙ ap₂ (λ (s t : Bool). s and t) (same b l) (ap (λ (k : ℕ). bit (get_or masks k 0) b) (sym here) ∙ sym (holds-bit masks 0 w b l))
    ∙ and_swap (elements (w * 64 + b)) _)

-- a word of a piece within a mask
pub masked-bit : (words masks : List ℕ) (a w b : ℕ) → b < 64 → bit (bit_and (get_or words (a + w) 0) (get_or masks w 0)) b ≡ masked masks (holds words a) (w * 64 + b)
unfolding masked
masked-bit words masks a w b l =
    let here : 0 + w ≡ w = omega arith in
    bit-bit_and _ _ b
    ∙ ap₂ (λ (s t : Bool). s and t) (sym (holds-bit words a w b l)) (ap (λ (k : ℕ). bit (get_or masks k 0) b) (sym here) ∙ sym (holds-bit masks 0 w b l))
    ∙ and_swap _ _

-- a word of two pieces combined
pub combined-word : (left right masks : List ℕ) (combination : Bool → Bool → Bool) (at w x : ℕ)
    → x ≡ from_bits 64 (combined_bits combination (get_or left (at + w) 0) (get_or right (at + w) 0))
    → bit_and x (get_or masks w 0) ≡ word (masked masks (combined combination (holds left at) (holds right at))) w
unfolding combined combined_bits
combined-word left right masks combination at w x h =
    masked-word masks (combined combination (holds left at) (holds right at)) w x (rw h (number_less 64 (combined_bits combination (get_or left (at + w) 0) (get_or right (at + w) 0))))
    (λ e l. ap (λ (y : ℕ). bit y e) h ∙ bit_number 64 (combined_bits combination (get_or left (at + w) 0) (get_or right (at + w) 0)) e l
    ∙ ap₂ combination (sym (holds-bit left at w e l)) (sym (holds-bit right at w e l)))

-- a word of eight bytes, each in reverse order
pub supplied_word : (masks members : List ℕ) (w x y : ℕ) → x ≡ from_bits 64 (bytes_bits members (8 * w)) → y ≡ from_bits 64 (reversed_bits x)
    → bit_and y (get_or masks w 0) ≡ word (masked masks (supplied_elements members 0)) w
unfolding bytes_bits reversed_bits supplied_elements
supplied_word masks members w x y p q =
    masked-word masks (supplied_elements members 0) w y (rw q (number_less 64 (reversed_bits x)))
    (λ b l.
    let place : 8 * w + (b / 8 * 8 + (7 - b % 8)) / 8 ≡ 0 + (w * 64 + b) / 8 = omega arith in
    let bit-place : (b / 8 * 8 + (7 - b % 8)) % 8 ≡ 7 - (w * 64 + b) % 8 = omega arith in
    ap (λ (z : ℕ). bit z b) q ∙ bit_number 64 (reversed_bits x) b l
    ∙ ap (λ (z : ℕ). bit z (b / 8 * 8 + (7 - b % 8))) p ∙ bit_number 64 (bytes_bits members (8 * w)) (b / 8 * 8 + (7 - b % 8)) (omega arith)
    ∙ ap₂ (λ (k e : ℕ). bit (byte members k) e) place bit-place)

-- a piece's words within a mask, and a word of 0 behind them
pub operand_made : (words masks set : List ℕ) (a : ℕ) → length set ≡ 9
    → ((k : ℕ) → k < 8 → get_or set k 0 ≡ bit_and (get_or words (a + k) 0) (get_or masks k 0)) → get_or set 8 0 ≡ 0 → OperandSet words masks a set
unfolding holds masked
operand_made words masks set a nine made spare =
    record {
      nine = nine;
      holds_is = λ e l.
          let here : 0 + e / 64 ≡ e / 64 = omega arith in
          rw (here, made (e / 64) (omega arith)) (bit-bit_and _ _ (e % 64) ∙ and_swap _ _);
      spare = ap (λ (x : ℕ). bit x 0) spare ∙ bit_zero 0;
    }
