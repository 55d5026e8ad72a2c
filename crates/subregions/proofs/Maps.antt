-- The laws of image and preimage made a word at a time. Assumes nothing.
use Prim.Native.Nat.{ℕ, suc, ◌+◌, ◌-◌, ◌*◌, ◌/◌, ◌%◌, ◌^◌, ◌≤◌, ◌<◌, min}
use mathlib.Core.Path.{◌≡◌, refl, sym, ap, ap₂, ◌∙◌, fun_ext}
use mathlib.Core.Logic.{inl, inr}
use mathlib.Core.Bool.{Bool, false}
use native.Mathlib.Decide.{ℕ_discrete, dec_lt}
use native.Mathlib.Omega.{arith}
use lib.Pow.{pow_pos, pow_mono}
use lib.Bits.{bit_or}
use lib.ListN.{get_or, drop}
use Rattle.std.proofs.lemmas.List.{get_or-drop}
use Rattle.model.specs.Tests.{Is, ◌and◌, ◌or◌, non, any, ◌=?◌, ◌<?◌}
use Rattle.model.specs.Bytes.{Bytes, u16}
use Rattle.model.specs.Words.{bit, digit, from_bits, word}
use Rattle.model.proofs.Tests.{falsum, both, pair, either, one, lacks, refuted, same, same!, less, less!, some_of, among, same_truth}
use Rattle.model.proofs.Words.{bit_zero, digit_less, number_less, number_same, is_number}
use Rattle.bitsets.specs.Elements.{supplied_elements, entries_of, adding_entries, leading_to}
use Rattle.primitives.proofs.Shifts.{shifted_or}
use Rattle.primitives.proofs.Bits.{refute}

-- a word from its highest element down: the bits of word w from element k on
unfoldable pub upper : (ℕ → Bool) → ℕ → ℕ → ℕ
upper elements w k = from_bits (64 * w + 64 - k) (λ b. elements (k + b))

module _ (elements : ℕ → Bool) (w : ℕ) where
  pub upper_none : (k : ℕ) → ((e : ℕ) → k ≤ e → e < 64 * w + 64 → elements e ≡ false) → 0 ≡ upper elements w k
  unfolding upper
  upper_none k h =
      is_number (64 * w + 64 - k) 0 _ (pow_pos (64 * w + 64 - k)) (λ b l. bit_zero b ∙ sym (h (k + b) (omega arith) (omega arith)))

  pub upper_end : 0 ≡ upper elements w (64 * w + 2 * 32)
  upper_end = upper_none (64 * w + 2 * 32) (λ e l h. absurd (omega arith))

  upper_room : (k r : ℕ) → 64 * w < k → r ≡ upper elements w k → r * 2 ^ 1 < 2 ^ 64
  unfolding upper
  upper_room k r h q =
      let few : 64 * w + 64 - k ≤ 63 = omega arith in
      omega (arith, q, number_less (64 * w + 64 - k) (λ b. elements (k + b)), pow_mono few)

  upper_next : (k r d : ℕ) → 64 * w < k → k ≤ 64 * w + 64 → r ≡ upper elements w k → d ≡ digit (elements (k - 1))
      → bit_or ((r * 2 ^ 1) % 2 ^ 64) d ≡ upper elements w (k - 1)
  unfolding upper from_bits
  upper_next k r d low high q h =
      let more : 64 * w + 64 - (k - 1) ≡ suc (64 * w + 64 - k) = omega arith in
      let here : k - 1 ≡ k - 1 + 0 = omega arith in
      shifted_or 64 1 r d (upper_room k r low q) (omega (arith, h, digit_less (elements (k - 1))))
      ∙ ap₂ (λ (x y : ℕ). x * 2 + y)
      (q ∙ number_same (64 * w + 64 - k) _ _ (λ b l. let e : k + b ≡ k - 1 + suc b = omega arith in ap elements e))
      (h ∙ ap (λ (e : ℕ). digit (elements e)) here)
      ∙ ap (λ (n : ℕ). from_bits n (λ b. elements (k - 1 + b))) (sym more)

  -- two places at a time: n pairs are left
  pub upper_two : (n r d e : ℕ) → 0 < n → n ≤ 32 → r ≡ upper elements w (64 * w + 2 * n)
      → d ≡ digit (elements (64 * w + 2 * (n - 1) + 1)) → e ≡ digit (elements (64 * w + 2 * (n - 1)))
      → bit_or ((bit_or ((r * 2 ^ 1) % 2 ^ 64) d * 2 ^ 1) % 2 ^ 64) e ≡ upper elements w (64 * w + 2 * (n - 1))
  upper_two n r d e some few q h g =
      let higher : 64 * w + 2 * (n - 1) + 1 ≡ 64 * w + 2 * n - 1 = omega arith in
      let lower : 64 * w + 2 * n - 1 - 1 ≡ 64 * w + 2 * (n - 1) = omega arith in
      let first = upper_next (64 * w + 2 * n) r d (omega arith) (omega arith) q (h ∙ ap (λ (k : ℕ). digit (elements k)) higher) in
      upper_next (64 * w + 2 * n - 1) _ e (omega arith) (omega arith) first (g ∙ ap (λ (k : ℕ). digit (elements k)) (sym lower))
      ∙ ap (upper elements w) lower

  pub upper_all : (k : ℕ) → k ≡ 64 * w → upper elements w k ≡ word elements w
  unfolding upper word
  upper_all k q =
      let all : 64 * w + 64 - k ≡ 64 = omega arith in
      ap (λ (n : ℕ). from_bits n (λ b. elements (k + b))) all
      ∙ number_same 64 _ _ (λ b l. let e : k + b ≡ w * 64 + b = omega arith in ap elements e)

-- elements at or above the count lead nowhere
pub leading_past : (n : ℕ) (entries : Bytes) (start size : ℕ) (elements : ℕ → Bool) (k : ℕ) → n ≤ k → leading_to n entries start size elements k ≡ false
unfolding leading_to
leading_past n entries start size elements k h = refute (λ t. let l = less (both t).0 in omega arith)

-- nor does an entry at or above the size
pub leading_none : (n : ℕ) (entries : Bytes) (start size : ℕ) (elements : ℕ → Bool) (k : ℕ) → size ≤ u16 entries (start + 2 * k)
    → leading_to n entries start size elements k ≡ false
unfolding leading_to
leading_none n entries start size elements k h = refute (λ t. let l = less (both (both t).1).0 in omega arith)

pub leading_at : (n : ℕ) (entries : Bytes) (start size : ℕ) (elements : ℕ → Bool) (k v : ℕ) → k < n → v ≡ u16 entries (start + 2 * k)
    → (v <? size and elements v) ≡ leading_to n entries start size elements k
unfolding leading_to
leading_at n entries start size elements k v h q =
    ap (λ (x : ℕ). x <? size and elements x) q ∙ same_truth (λ t. pair (less! h) t) (λ t. (both t).1)

-- a set with the entries of a word's members but for those of a rest
unfoldable pub gathered : Bytes → ℕ → ℕ → (ℕ → Bool) → ℕ → ℕ → Bool
gathered entries start members elements rest e = elements e or entries_of 64 entries start (λ k. bit members k and non (bit rest k)) e

module _ (entries : Bytes) (start members : ℕ) (elements : ℕ → Bool) where
  pub gathered_none : (e : ℕ) → elements e ≡ gathered entries start members elements members e
  unfolding gathered entries_of
  gathered_none e =
      same_truth (λ t. one (inl t))
      (λ t. elim (either t) [
        | inl x ↦ x
        | inr x ↦ let k = some_of x in absurd (lacks (both (both k.2).0).1 (both (both k.2).0).0)
      ])

  -- one member more, taken from the rest
  pub gathered_next : (rest left t v : ℕ) → t < 64 → Is (bit rest t) → Is (bit members t) → v ≡ u16 entries (start + 2 * t)
      → ((b : ℕ) → bit left b ≡ (bit rest b and non (b =? t)))
      → (e : ℕ) → (gathered entries start members elements rest e or e =? v) ≡ gathered entries start members elements left e
  unfolding gathered entries_of
  gathered_next rest left t v inside here member q cleared e =
      same_truth
      (λ s. elim (either s) [
        | inl x ↦ one (elim (either x) [
          | inl y ↦ inl y
          | inr y ↦ let k = some_of y in inr (among (k.0, k.1, pair (pair (both (both k.2).0).0 (refuted (λ h. lacks (both (both k.2).0).1 (both (sym (cleared k.0) ∙ h)).0))) (both k.2).1))
        ])
        | inr x ↦ one (inr (among (t, inside, pair (pair member (refuted (λ h. lacks (both (sym (cleared t) ∙ h)).1 (same! refl)))) (same! (sym (same x ∙ q))))))
      ])
      (λ s. elim (either s) [
        | inl y ↦ one (inl (one (inl y)))
        | inr y ↦ let k = some_of y in go k.0 k.1 k.2 (ℕ_discrete k.0 t)
      ])
    where
      go : (k : ℕ) → k < 64 → Is ((bit members k and non (bit left k)) and u16 entries (start + 2 * k) =? e) → Dec (k ≡ t)
          → Is ((elements e or any 64 (λ k. (bit members k and non (bit rest k)) and u16 entries (start + 2 * k) =? e)) or e =? v)
      go k l s (yes r) = one (inr (same! (sym (same (both s).1) ∙ ap (λ (i : ℕ). u16 entries (start + 2 * i)) r ∙ sym q)))
      go k l s (no d) =
          one (inl (one (inr (among (
            k,
            l,
            pair (pair (both (both s).0).0 (refuted (λ h. lacks (both (both s).0).1
                (cleared k ∙ pair h (refuted (λ r. d (same r))))))) (both s).1,
          )))))

  -- nothing is left
  pub gathered_all : (rest : ℕ) → rest ≡ 0 → (e : ℕ) → gathered entries start members elements rest e ≡ adding_entries entries start members elements e
  unfolding gathered entries_of adding_entries
  gathered_all rest z e =
      ap (λ (t : Bool). elements e or t)
      (same_truth
      (λ t. let k = some_of t in among (k.0, k.1, pair (both (both k.2).0).0 (both k.2).1))
      (λ t. let k = some_of t in among (k.0, k.1, pair (pair (both k.2).0 (refuted (λ h. falsum (sym (ap (λ (r : ℕ). bit r k.0) z ∙ bit_zero k.0) ∙ h)))) (both k.2).1)))

-- an entry that leads to an element
pub entry_cut : (u e : ℕ) → e < 512 → (e =? min u 512) ≡ (e =? u)
entry_cut u e l = same_truth (λ t. let q = same t in same! (omega arith)) (λ t. let q = same t in same! (omega arith))

module _ (entries : Bytes) (elements : ℕ → Bool) where
  pub entries_none : (e : ℕ) → false ≡ entries_of 0 entries 0 elements e
  unfolding entries_of any
  entries_none e = refl

  -- those of a word more
  pub entries_word : (w members : ℕ) → ((b : ℕ) → b < 64 → bit members b ≡ elements (w * 64 + b)) → (e : ℕ)
      → adding_entries entries (128 * w) members (entries_of (64 * w) entries 0 elements) e ≡ entries_of (64 * (w + 1)) entries 0 elements e
  unfolding entries_of adding_entries
  entries_word w members bits e =
      same_truth
      (λ t. elim (either t) [
        | inl x ↦ let k = some_of x in among (k.0, omega (arith, k.1), k.2)
        | inr x ↦
            let k = some_of x in
            let place : 128 * w + 2 * k.0 ≡ 0 + 2 * (w * 64 + k.0) = omega arith in
            among (
              w * 64 + k.0,
              omega (arith, k.1),
              pair (sym (bits k.0 k.1) ∙ (both k.2).0) (same! (ap (u16 entries) (sym place) ∙ same (both k.2).1)),
            )
      ])
      (λ t. let k = some_of t in go k.0 k.1 k.2 (dec_lt k.0 (64 * w)))
    where
      go : (k : ℕ) → k < 64 * (w + 1) → Is (elements k and u16 entries (0 + 2 * k) =? e) → Dec (k < 64 * w)
          → Is (any (64 * w) (λ k. elements k and u16 entries (0 + 2 * k) =? e) or any 64 (λ b. bit members b and u16 entries (128 * w + 2 * b) =? e))
      go k l t (yes a) = one (inl (among (k, a, t)))
      go k l t (no a) =
          let at : w * 64 + (k - 64 * w) ≡ k = omega arith in
          let place : 128 * w + 2 * (k - 64 * w) ≡ 0 + 2 * k = omega arith in
          one (inr (among (
            k - 64 * w,
            omega arith,
            pair (bits (k - 64 * w) (omega arith) ∙ ap elements at ∙ (both t).0) (same! (ap (u16 entries) place ∙ same (both t).1)),
          )))

-- bytes from a place on
pub supplied_from : (members : Bytes) (start at e : ℕ) → supplied_elements (drop start members) at e ≡ supplied_elements members (start + at) e
unfolding supplied_elements
supplied_from members start at e =
    let place : start + (at + e / 8) ≡ start + at + e / 8 = omega arith in
    ap (λ (x : ℕ). bit x (7 - e % 8)) (get_or-drop start members (at + e / 8) 0 ∙ ap (λ (x : ℕ). get_or members x 0) place)

pub entry_from : (entries : Bytes) (start k : ℕ) → u16 (drop start entries) (0 + 2 * k) ≡ u16 entries (start + 2 * k)
entry_from entries start k =
    let low : start + (0 + 2 * k) ≡ start + 2 * k = omega arith in
    let high : start + (0 + 2 * k + 1) ≡ start + 2 * k + 1 = omega arith in
    ap₂ (λ (x y : ℕ). x * 256 + y)
    (get_or-drop start entries (0 + 2 * k) 0 ∙ ap (λ (x : ℕ). get_or entries x 0) low)
    (get_or-drop start entries (0 + 2 * k + 1) 0 ∙ ap (λ (x : ℕ). get_or entries x 0) high)

pub entries_from : (n : ℕ) (entries : Bytes) (start : ℕ) (A : ℕ → Bool) (e : ℕ) → entries_of n (drop start entries) 0 A e ≡ entries_of n entries start A e
unfolding entries_of
entries_from n entries start A e = ap (any n) (fun_ext (λ k. ap (λ (x : ℕ). A k and x =? e) (entry_from entries start k)))

pub leading_from : (n : ℕ) (entries : Bytes) (start size : ℕ) (A : ℕ → Bool) (k : ℕ)
    → leading_to n (drop start entries) 0 size A k ≡ leading_to n entries start size A k
unfolding leading_to
leading_from n entries start size A k = ap (λ (x : ℕ). k <? n and x <? size and A x) (entry_from entries start k)

-- a set that has just the first n elements of another
pub entries_first : (n m : ℕ) (entries : Bytes) (start : ℕ) (A B : ℕ → Bool) → n ≤ m → ((k : ℕ) → k < m → A k ≡ (k <? n and B k)) → (e : ℕ)
    → entries_of m entries start A e ≡ entries_of n entries start B e
unfolding entries_of
entries_first n m entries start A B few h e =
    same_truth
    (λ t. let k = some_of t in let s = sym (h k.0 k.1) ∙ (both k.2).0 in among (k.0, less (both s).0, pair (both s).1 (both k.2).1))
    (λ t. let k = some_of t in
    let l : k.0 < m = omega (arith, k.1) in
    among (k.0, l, pair (h k.0 l ∙ pair (less! k.1) (both k.2).0) (both k.2).1))
