-- Supplied members by columns: the bits in some word and in two words of a column say which elements are in some piece and in two. Assumes nothing.
use Prim.Native.Nat.{ℕ, zero, suc, ◌+◌, ◌-◌, ◌*◌, ◌/◌, ◌%◌, ◌^◌, ◌≤◌, ◌<◌}
use mathlib.Core.Path.{◌≡◌, sym, ap, ap₂, ◌∙◌, fun_ext}
use mathlib.Core.Bool.{Bool}
use native.Mathlib.Numerals.{add-one}
use native.Mathlib.Omega.{arith}
use lib.Bits.{bit_and, bit_or, and_lt}
use lib.ListN.{drop}
use lib.Seq.{get_or-drop}
use Rattle.model.specs.Tests.{Is, ◌and◌, ◌or◌, any, ◌=?◌}
use Rattle.model.specs.Bytes.{Bytes, byte}
use Rattle.model.specs.Words.{bit, word}
use Rattle.model.specs.Layout.{Plan, supplied_region, supplied_flags}
use Rattle.model.specs.DataSets.{DataSet, pieces, size, piece_bytes, member_start, supplied_bit, supplied, declarations_hold}
use Rattle.model.specs.PlainData.{DeclarationsHold}
use Rattle.model.proofs.Tests.{both, pair, implied, implies, same, same!, less, less!, most, most!, which, which!, some_of, among, every_at, every_of, same_truth}
use Rattle.model.proofs.Words.{bit_zero, bit_number, bit_word, bits_decide, number_less, word_less}
use Rattle.model.proofs.DataAgrees.{supplied_right}
use Rattle.bitsets.specs.Elements.{up_to, between, bytes_bits, reversed_bits}
use Rattle.dataset.specs.Columns.{united, repeated, piece_word, column_of, column_at, columns_keep_flags}
use Rattle.primitives.proofs.Bits.{refute, bit-bit_and, bit-bit_or}

-- one more word
module _ (words : ℕ → ℕ) (n : ℕ) where
  pub united_next : united words (n + 1) ≡ bit_or (united words n) (words n)
  unfolding united
  united_next = rw (add-one n)

  pub repeated_next : repeated words (n + 1) ≡ bit_or (repeated words n) (bit_and (united words n) (words n))
  unfolding repeated
  repeated_next = rw (add-one n)

-- a word with no bit
module _ (x : ℕ) where
  all_clear : x < 2 ^ 64 → ((b : ℕ) → b < 64 → Is (bit x b) → ⊥) → x ≡ 0
  all_clear h clear = bits_decide 64 x 0 h (omega arith) (λ b l. refute (clear b l) ∙ sym (bit_zero b))

  none_set : x ≡ 0 → (b : ℕ) → Is (bit x b) → ⊥
  none_set e b h = let z : ◌≡◌ {A = ℕ} 0 1 = cc (sym (rw e at h) ∙ bit_zero b) in omega arith

-- the bits of a column
module _ (words : ℕ → ℕ) where
  bit-united : (n b : ℕ) → bit (united words n) b ≡ any n (λ i. bit (words i) b)
  unfolding united any
  bit-united zero b = bit_zero b
  bit-united (suc n) b = bit-bit_or (united words n) (words n) b ∙ ap (λ t. t or bit (words n) b) (bit-united n b)

  bit-repeated : (n b : ℕ) → bit (repeated words n) b ≡ any n (λ i. any i (λ j. bit (words j) b) and bit (words i) b)
  unfolding repeated any
  bit-repeated zero b = bit_zero b
  bit-repeated (suc n) b =
      bit-bit_or (repeated words n) _ b
      ∙ ap₂ ◌or◌ (bit-repeated n b) (bit-bit_and (united words n) (words n) b ∙ ap (λ t. t and bit (words n) b) (bit-united n b))

module _ (P : Plan) (D : DataSet) (k : ℕ) where
  abbrev elements : ℕ
  elements = size D (supplied_region P k)

  -- the members from its first piece on
  abbrev members : Bytes
  members = drop (member_start P D k) D.members

  abbrev words : ℕ → ℕ → ℕ
  words c = piece_word members ((elements + 7) / 8) c

  abbrev seen : ℕ → ℕ
  seen c = (column_of (words c) (pieces D)).seen

  abbrev twice : ℕ → ℕ
  twice c = (column_of (words c) (pieces D)).repeated

  abbrev disjoint : Bool
  disjoint = supplied_flags P k =? 1 or supplied_flags P k =? 3

  abbrev complete : Bool
  complete = supplied_flags P k =? 2 or supplied_flags P k =? 3

  -- bit b of column c is element c * 64 + b
  bit_element : (c b i : ℕ) → b < 64 → bit (words c i) (b / 8 * 8 + (7 - b % 8)) ≡ supplied_bit P D k i (c * 64 + b)
  unfolding supplied_bit piece_bytes bit bytes_bits
  bit_element c b i l =
      let at = i * ((elements + 7) / 8) in
      let place : member_start P D k + (at + 8 * c + (b / 8 * 8 + (7 - b % 8)) / 8) ≡ member_start P D k + at + (c * 64 + b) / 8 = omega arith in
      let bit-place : (b / 8 * 8 + (7 - b % 8)) % 8 ≡ 7 - (c * 64 + b) % 8 = omega arith in
      bit_number 64 _ (b / 8 * 8 + (7 - b % 8)) (omega arith) ∙ rw get_or-drop (ap₂ (λ x y. bit (byte D.members x) y) place bit-place)

  bit-seen : (c b : ℕ) → b < 64 → bit (seen c) b ≡ any (pieces D) (λ i. supplied_bit P D k i (c * 64 + b))
  unfolding reversed_bits
  bit-seen c b l =
      bit_number 64 _ b l ∙ bit-united (words c) (pieces D) (b / 8 * 8 + (7 - b % 8))
      ∙ ap (any (pieces D)) (fun_ext (λ i. bit_element c b i l))

  bit-twice : (c b : ℕ) → b < 64 → bit (twice c) b
      ≡ any (pieces D) (λ i. any i (λ j. supplied_bit P D k j (c * 64 + b)) and supplied_bit P D k i (c * 64 + b))
  unfolding reversed_bits
  bit-twice c b l =
      bit_number 64 _ b l ∙ bit-repeated (words c) (pieces D) (b / 8 * 8 + (7 - b % 8))
      ∙ ap (any (pieces D)) (fun_ext (λ i. ap₂ ◌and◌ (ap (any i) (fun_ext (λ j. bit_element c b j l))) (bit_element c b i l)))

  bit_of_supplied : (i e : ℕ) → Is (supplied P D k i e) → Is (supplied_bit P D k i e)
  unfolding supplied
  bit_of_supplied i e h = (both (both h).1).1

  -- where the flags are kept, each column keeps them
  module _ (right : DeclarationsHold P D k) where
    column_disjoint : (c : ℕ) → Is disjoint → bit_and (twice c) (word (up_to elements) c) ≡ 0
    unfolding up_to supplied
    column_disjoint c declared =
        all_clear _ (and_lt 64 _ _ (number_less 64 _) (word_less _ c)) (λ b lb h.
        let t = both (sym (bit-bit_and _ _ b) ∙ h) in
        let w = some_of (sym (bit-twice c b lb) ∙ t.0) in
        let v = some_of (both w.2).0 in
        let le = sym (bit_word (up_to elements) c b lb) ∙ t.1 in
        let lj : v.0 < pieces D = omega (arith, w.1, v.1) in
        let e = right.disjoint (which declared) w.0 v.0 (c * 64 + b) (pair (less! w.1) (pair le (both w.2).1)) (pair (less! lj) (pair le v.2)) in
        omega (arith, v.1))

    column_complete : (c : ℕ) → Is complete
        → bit_and (seen c) (word (up_to elements) c) ≡ word (up_to elements) c
    unfolding up_to
    column_complete c declared =
        bits_decide 64 _ _ (and_lt 64 _ _ (number_less 64 _) (word_less _ c)) (word_less _ c) (λ b lb.
        same_truth (λ h. (both (sym (bit-bit_and (seen c) _ b) ∙ h)).1) (λ h.
        let w = right.complete (which declared) (c * 64 + b) (less (sym (bit_word (up_to elements) c b lb) ∙ h)) in
        bit-bit_and _ _ b ∙ pair (bit-seen c b lb ∙ among (w.0, w.1, bit_of_supplied w.0 (c * 64 + b) w.2)) h))

    column_padded : (c : ℕ) → bit_and (seen c) (word (between elements (8 * ((elements + 7) / 8))) c) ≡ 0
    unfolding between piece_bytes
    column_padded c =
        all_clear _ (and_lt 64 _ _ (number_less 64 _) (word_less _ c)) (λ b lb h.
        let t = both (sym (bit-bit_and _ _ b) ∙ h) in
        let w = some_of (sym (bit-seen c b lb) ∙ t.0) in
        let range = both (sym (bit_word (between elements (8 * ((elements + 7) / 8))) c b lb) ∙ t.1) in
        right.pad_bits w.0 (c * 64 + b) w.1 (most range.0) (less range.1) w.2)

    columns_kept : Is (columns_keep_flags members elements (pieces D) disjoint complete)
    columns_kept =
        every_of _ _ (λ c lc.
        pair (implies (λ d. same! (column_disjoint c d))) (pair (implies (λ d. same! (column_complete c d))) (same! (column_padded c))))

  -- where each column keeps the flags, they are kept
  module _ (kept : Is (columns_keep_flags members elements (pieces D) disjoint complete)) where
    at_column : (e : ℕ) → e < 8 * ((elements + 7) / 8) → Is (column_at members elements (pieces D) disjoint complete (e / 64))
    at_column e l = every_at _ _ kept (e / 64) (omega arith)

    at_place : (e : ℕ) → e / 64 * 64 + e % 64 ≡ e
    at_place e = omega arith

    not_twice : Is disjoint → (i j e : ℕ) → j < i → Is (supplied P D k i e) → Is (supplied P D k j e) → ⊥
    unfolding up_to supplied
    not_twice declared i j e lt a b =
        let le = (both (both a).1).0 in
        let small = less le in
        none_set _ (same (implied (both (at_column e (omega arith))).0 declared)) (e % 64)
        (bit-bit_and _ _ (e % 64)
        ∙ pair
        (bit-twice (e / 64) (e % 64) (omega arith) ∙ rw at_place (among (i, less (both a).0, pair (among (j, lt, bit_of_supplied j e b)) (bit_of_supplied i e a))))
        (bit_word (up_to elements) (e / 64) (e % 64) (omega arith) ∙ rw at_place le))

    not_missing : Is complete → (e : ℕ) → e < elements → (i : ℕ) × (i < pieces D) × Is (supplied P D k i e)
    unfolding up_to supplied
    not_missing declared e le =
        let full = same (implied (both (both (at_column e (omega arith))).1).0 declared) in
        let all : Is (bit (word (up_to elements) (e / 64)) (e % 64)) =
        bit_word (up_to elements) (e / 64) (e % 64) (omega arith) ∙ rw at_place (less! le)
        in
        let some = (both (sym (bit-bit_and (seen (e / 64)) _ (e % 64)) ∙ ap (λ x. bit x (e % 64)) full ∙ all)).0 in
        let w = some_of (rw (at_place e) at (sym (bit-seen (e / 64) (e % 64) (omega arith)) ∙ some)) in
        (w.0, w.1, pair (less! w.1) (pair (less! le) w.2))

    not_padded : (i e : ℕ) → i < pieces D → elements ≤ e → e < 8 * ((elements + 7) / 8) → Is (supplied_bit P D k i e) → ⊥
    unfolding between
    not_padded i e li le lt h =
        none_set _ (same (both (both (at_column e lt)).1).1) (e % 64)
        (bit-bit_and _ _ (e % 64)
        ∙ pair (bit-seen (e / 64) (e % 64) (omega arith) ∙ rw at_place (among (i, li, h)))
        (bit_word (between elements (8 * ((elements + 7) / 8))) (e / 64) (e % 64) (omega arith) ∙ rw at_place (pair (most! le) (less! lt))))

    flags_kept : DeclarationsHold P D k
    unfolding piece_bytes
    flags_kept =
        record {
          disjoint = λ t i j e a b.
              let p : ¬ (i < j) = λ lt. not_twice (which! t) j i e lt b a in
              let q : ¬ (j < i) = λ lt. not_twice (which! t) i j e lt a b in
              omega arith;
          complete = λ t. not_missing (which! t);
          pad_bits = not_padded;
        }

  -- the test by columns is the test by elements
  pub by_columns : declarations_hold P D k ≡ columns_keep_flags members elements (pieces D) disjoint complete
  by_columns = same_truth (λ h. columns_kept ((supplied_right P D k).0 h)) (λ h. (supplied_right P D k).1 (flags_kept h))
