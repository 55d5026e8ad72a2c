-- Searches for the least element of a set that has a given entry: word by word, and in a word member by member. Assumes nothing.
use Prim.Native.Nat.{ℕ, ◌+◌, ◌-◌, ◌*◌, ◌/◌, ◌≤◌, ◌<◌}
use mathlib.Core.Path.{◌≡◌, sym, ap₂, ◌∙◌}
use mathlib.Core.Logic.{inl, inr}
use mathlib.Core.Bool.{Bool}
use mathlib.Core.List.{List}
use native.Mathlib.Omega.{arith}
use lib.Bits.{bit_and}
use lib.ListN.{length, get_or, drop, length-drop}
use Rattle.std.proofs.lemmas.List.{get_or-drop, take_all}
use Rattle.std.specs.List.{slice_range}
use Rattle.std.specs.Prelude.{Some, None}
use Rattle.model.specs.Tests.{Is, ◌and◌, first, ◌=?◌, ◌<?◌}
use Rattle.model.specs.Bytes.{Bytes, u16}
use Rattle.model.specs.Words.{bit, holds}
use Rattle.model.proofs.Tests.{falsum, both, pair, refuted, split, same, same!, less, not_less, first_is, first_found, first_most}
use Rattle.model.proofs.Words.{bit_zero, holds-bit}
use Rattle.bitsets.proofs.Zeros.{Lowest}
use Rattle.provenance.specs.Sources.{bit_leads_to, leads_to, FirstOf, WordRoom, SourcesRoom}

-- the members of a word that are left hold all that have the entry
module _ (members : ℕ) (entries : Bytes) (element : ℕ) where
  pub record Left (rest : ℕ) : Type 0 where
    pub inside : (b : ℕ) → Is (bit rest b) → Is (bit members b)
    pub leading : (b : ℕ) → Is (bit_leads_to members entries element b) → Is (bit rest b)

  pub all_left : Left members
  unfolding bit_leads_to
  all_left = record { inside = λ b h. h; leading = λ b h. (both h).0 }

  module _ {rest place : ℕ} (l : Left rest) (lowest : Lowest rest place) where
    pub least_found : u16 entries (2 * place) ≡ element → FirstOf (bit_leads_to members entries element) 64 (Some place)
    unfolding bit_leads_to
    least_found is = (
      lowest.inside,
      first_is (bit_leads_to members entries element) 64 place (omega (arith, lowest.inside))
          (λ lt. pair (l.inside place lowest.member) (same! is))
          (λ g lt h. falsum (sym (lowest.none_below g lt) ∙ l.leading g h)),
    )

    pub others_left : (u16 entries (2 * place) ≡ element → ⊥) → Left (bit_and rest (rest - 1))
    unfolding bit_leads_to
    others_left other =
        record {
          inside = λ b h. l.inside b (both (sym (lowest.cleared b) ∙ h)).0;
          leading = λ b h. lowest.cleared b ∙ pair (l.leading b h) (refuted (λ e. let is : b ≡ place = same e in other (rw is at (same (both h).1))));
        }

  pub none_left : {rest : ℕ} → Left rest → rest ≡ 0 → first (bit_leads_to members entries element) 0 64 ≡ 64
  none_left l is =
      sym (first_is (bit_leads_to members entries element) 64 64 (omega arith) (λ lt. absurd (omega arith))
      (λ g lt h. falsum (sym (bit_zero g) ∙ rw is at (l.leading g h))))

-- the elements of a set before a place do not have the entry
module _ (set : List ℕ) (entries : Bytes) (element : ℕ) where
  abbrev pub NoneBefore : ℕ → Type 0
  NoneBefore n = (k : ℕ) → k < n → Is (leads_to set entries element k) → ⊥

  -- the entries from those of word w's elements on
  abbrev part : ℕ → Bytes
  part w = slice_range entries (128 * w) (length entries)

  part_is : (w : ℕ) → part w ≡ drop (128 * w) entries
  part_is w = take_all (length entries - 128 * w) (drop (128 * w) entries) (omega (arith, length-drop (128 * w) entries))

  abbrev in_word : ℕ → ℕ → Bool
  in_word w = bit_leads_to (get_or set w 0) (part w) element

  -- word w of the set
  in_word_lem : (w b : ℕ) → b < 64 → in_word w b ≡ leads_to set entries element (64 * w + b)
  unfolding bit_leads_to leads_to
  in_word_lem w b lt =
      let word : 0 + w ≡ w = omega arith in
      let place : 64 * w + b ≡ w * 64 + b = omega arith in
      let high : 128 * w + 2 * b ≡ 2 * (64 * w + b) = omega arith in
      let low : 128 * w + (2 * b + 1) ≡ 2 * (64 * w + b) + 1 = omega arith in
      ap₂ (λ (t : Bool) (n : ℕ). t and n =? element) (rw place (rw word at (sym (holds-bit set 0 w b lt))))
      (rw (part_is w, get_or-drop (128 * w) entries (2 * b) 0, get_or-drop (128 * w) entries (2 * b + 1) 0, high, low))

  module _ (room : SourcesRoom set entries) where
    member_inside : (k : ℕ) → k < 512 → Is (holds set 0 k) → k < length entries / 2
    member_inside k lk h = elim (split (k <? length entries / 2)) [ inl l ↦ less l | inr l ↦ falsum (sym (room.none_past k (not_less l) lk) ∙ h) ]

    -- its members have their entries
    pub word_room : (w : ℕ) → 128 * w < length entries → WordRoom (get_or set w 0) (part w)
    word_room w lt b lb h =
        let few = room.few in
        let word : 0 + w ≡ w = omega arith in
        let z : 64 * w + b ≡ w * 64 + b = omega arith in
        let k : Is (holds set 0 (64 * w + b)) = rw z (holds-bit set 0 w b lb ∙ rw word h) in
        let l = member_inside (64 * w + b) (omega arith) k in
        rw (part_is w) (omega (arith, length-drop (128 * w) entries))

    module _ (w : ℕ) (past : NoneBefore (64 * w)) (inside : 128 * w < length entries) where
      -- none of the word's elements before the first of its first so many has the entry
      none_up_to : {n : ℕ} → n ≤ 64 → n ≡ first (in_word w) 0 64 → NoneBefore (64 * w + n)
      none_up_to {n} near found k lt h =
          elim (split (k <? 64 * w)) [
            | inl early ↦ past k (less early) h
            | inr late ↦
                let le = not_less late in
                let z : 64 * w + (k - 64 * w) ≡ k = omega arith in
                let b : Is (in_word w (k - 64 * w)) = in_word_lem w (k - 64 * w) (omega arith) ∙ rw z h in
                let most = first_most (in_word w) 0 64 (k - 64 * w) (omega arith) (omega arith) b in
                omega arith
          ]

      pub source_found : {place : ℕ} → FirstOf (in_word w) 64 (Some place) → FirstOf (leads_to set entries element) (length entries / 2) (Some (64 * w + place))
      unfolding leads_to
      source_found {place} (lt, found) =
          let few = room.few in
          let passes : Is (in_word w place) = rw found (first_found (in_word w) 0 64 (omega arith)) in
          let h : Is (leads_to set entries element (64 * w + place)) = sym (in_word_lem w place lt) ∙ passes in
          let l = member_inside (64 * w + place) (omega arith) (both h).0 in
          (l, first_is (leads_to set entries element) (length entries / 2) (64 * w + place) (omega arith) (λ lt. h) (none_up_to (omega arith) found))

      pub none_here : FirstOf (in_word w) 64 None → NoneBefore (64 * (w + 1))
      none_here found k lt = none_up_to (omega arith) (sym found) k (omega arith)

  pub none_at_all : (w : ℕ) → NoneBefore (64 * w) → length entries ≤ 128 * w → FirstOf (leads_to set entries element) (length entries / 2) None
  none_at_all w past end =
      sym (first_is (leads_to set entries element) (length entries / 2) (length entries / 2) (omega arith) (λ lt. absurd (omega arith)) (λ g lg. past g (omega arith)))

-- what the proof of `least_source` cites
pub ruleset sources = (word_room, none_here)
