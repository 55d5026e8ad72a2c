-- The sections of a plan, read one after the other: what is known after so many of them. Assumes nothing.
use Prim.Native.Nat.{ℕ, zero, suc, ◌+◌, ◌-◌, ◌<◌, ◌≤◌}
use mathlib.Core.Path.{◌≡◌, refl, ◌∙◌}
use native.Mathlib.Numerals.{add-one}
use native.Mathlib.Omega.{arith}
use borrow.Author.Tests.{le-leb, lt-leb, eq-eqb, ne_eqb}
use lib.ListN.{length}
use borrow.Author.Count.{below_more}
use Rattle.std.specs.Prelude.{Ok, Err, is_ok, IsTrue}
use Rattle.model.specs.Tests.{◌=?◌, ◌≤?◌}
use Rattle.model.specs.Bytes.{Bytes, byte, u16, part, boundary, body}
use Rattle.model.specs.Outcomes.{require, ◌then◌, scan, Outcome}
use Rattle.model.specs.Layout.{Plan, plan_of, section_check, layout_check}
use Rattle.model.specs.AcceptedPlans.{Limits}
use Rattle.model.specs.declared.Refusal.{Refusal}
use Rattle.model.specs.declared.Refusal.TheVariants.{Truncated, UnknownEdition, TrailingBytes}
use Rattle.model.proofs.Tests.{both, most}
use Rattle.model.proofs.Outcomes.{then_pass, require_pass, scan_next, scan_stop, scan_end}
use Rattle.model.proofs.Accepted.{laid_out_lem, limits}
use Rattle.layout.specs.Frames.{length_check, Progress}

passes : (o : Outcome) → IsTrue (is_ok o) → o ≡ Ok tt
passes (Ok _) h = refl
passes (Err r) h = cc

passed : {o : Outcome} → o ≡ Ok tt → IsTrue (is_ok o)
passed h = rw h refl

module _ (p : Bytes) where
  pub empty_refused : length p ≡ 0 → layout_check p ≡ Err (Truncated 0)
  unfolding layout_check require ◌then◌ ◌≤?◌
  empty_refused h = rw (lt-leb 1 (length p) (omega arith))

  pub edition_refused : 1 ≤ length p → (byte p 0 ≡ 1 → ⊥) → layout_check p ≡ Err UnknownEdition
  unfolding layout_check require ◌then◌ ◌≤?◌ ◌=?◌
  edition_refused some other = rw (le-leb 1 (length p) some, ne_eqb (byte p 0) 1 other)

  -- the check of a section, from the place of its length
  section-length : (n : ℕ) → section_check p n ≡ length_check (length p) (boundary p n) (u16 p (boundary p n)) n
  unfolding section_check length_check boundary
  section-length n = rw (add-one n)

  pub progress_start : 1 ≤ length p → byte p 0 ≡ 1 → Progress p 0 1
  unfolding boundary
  progress_start some edition =
      record { some = some; edition = edition; few = omega arith; passed = λ n lt. absurd (omega arith); placed = refl; inside = some }

  module _ {read at : ℕ} (past : Progress p read at) where
    sections_left :
        layout_check p ≡ (scan (section_check p) read (7 - read) then require (length p ≤? boundary p 7) (TrailingBytes (boundary p 7)))
    unfolding layout_check require ◌then◌ ◌≤?◌ ◌=?◌
    sections_left =
        rw (le-leb 1 (length p) past.some, eq-eqb (byte p 0) 1 past.edition, left read past.few (λ n lt. passes _ (past.passed n lt)))
      where
        left : (k : ℕ) → k ≤ 7 → ((n : ℕ) → n < k → section_check p n ≡ Ok tt) → scan (section_check p) 0 7 ≡ scan (section_check p) k (7 - k)
        left zero few earlier = refl
        left (suc k) few earlier =
            left k (omega arith) (λ n lt. earlier n (omega arith))
            ∙ (rw (add-one k) at (scan_next (section_check p) 7 k (omega arith) (earlier k (omega arith))))

    checked : {size : ℕ} → size ≡ u16 p at → section_check p read ≡ length_check (length p) at size read
    checked is = rw (is, past.placed) (section-length read)

    module _ {size : ℕ} (is : size ≡ u16 p at) (few : read < 7) where
      pub progress_next : length_check (length p) at size read ≡ Ok tt → Progress p (read + 1) (at + 2 + size)
      unfolding section_check boundary
      progress_next h =
          let here : section_check p read ≡ Ok tt = checked is ∙ h in
          let placed : at + 2 + size ≡ boundary p (suc read) = rw (is, past.placed) in
          record {
            some = past.some;
            edition = past.edition;
            few = omega arith;
            passed = below_more (λ n. IsTrue (is_ok (section_check p n))) read past.passed (passed here);
            placed = rw (add-one read) placed;
            inside = rw placed (most (both (require_pass _ _ (then_pass _ _ here).0)).1);
          }

      pub progress_refused : {r : Refusal} → length_check (length p) at size read ≡ Err r → layout_check p ≡ Err r
      unfolding ◌then◌
      progress_refused h = sections_left ∙ (rw (scan_stop (section_check p) 7 read few (checked is ∙ h)))

      pub body_next : part p (at + 2) (at + 2 + size) ≡ body p read
      unfolding body boundary
      body_next = rw (is, past.placed)

    pub progress_end : read ≡ 7 → layout_check p ≡ require (length p ≤? at) (TrailingBytes at)
    unfolding ◌then◌
    progress_end done = sections_left ∙ (rw (scan_end (section_check p) 7 read (omega arith), ← done, past.placed))

-- what the sections of a plan whose layout passes hold
pub bodies_limited : (p : Bytes) {P : Plan} → layout_check p ≡ Ok tt → P ≡ plan_of p → Limits P
bodies_limited p passes is = rw is (limits p (laid_out_lem p passes))

pub ruleset starting = (empty_refused, edition_refused, progress_start)

pub ruleset progressing = (progress_next, progress_refused, body_next)
