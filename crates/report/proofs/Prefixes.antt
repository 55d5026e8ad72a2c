-- A plan or a data set that is longer than the report's buffer gets, from the bytes that fit, the answer that the whole would get:
-- no section begins past the buffer, and what is longer than all sections can be is refused. No answer of the report is 15.
-- Assumes nothing.
use Prim.Native.Nat.{ℕ, zero, suc, ◌+◌, ◌*◌, ◌≤◌, ◌<◌}
use mathlib.Core.Path.{◌≡◌, refl, sym, ap, ◌∙◌}
use mathlib.Core.Bool.{Bool}
use native.Mathlib.Decide.{dec_le}
use native.Mathlib.Omega.{arith}
use lib.Dec.{lit<}
use lib.ListN.{length, take}
use lib.Seq.{get_or-take, take_all, length-take-le}
use Rattle.std.specs.Prelude.{Ok, Err}
use Rattle.model.specs.Bytes.{Bytes, byte, boundary}
use Rattle.model.specs.Tests.{Is, ◌and◌, non, ◌≤?◌}
use Rattle.model.specs.Outcomes.{require, ◌then◌, conclude, Outcome}
use Rattle.model.specs.Layout.{Plan, plan_of, section_check, layout_check}
use Rattle.model.specs.Verdict.{plan_check, accepted}
use Rattle.model.specs.DataSets.{data_check, well_framed}
use Rattle.model.specs.Evaluation.{inputs_check, evaluation_check, evaluation}
use Rattle.model.specs.declared.Acceptance.{Acceptance}
use Rattle.model.specs.declared.Refusal.{Refusal}
use Rattle.model.specs.declared.Refusal.TheVariants.{Truncated, TrailingBytes, InvalidData}
use Rattle.model.proofs.Tests.{both, pair, refuted, same, fails, most, most! }
use Rattle.model.proofs.Outcomes.{then_pass, required, conclude_ok}
use Rattle.model.proofs.Accepted.{laid_out_lem, plan_accepted}
use Rattle.model.proofs.Fitting.{data_laid_out}
use Rattle.primitives.proofs.Bodies.{boundary_most}
use Rattle.primitives.proofs.Scanning.{scan_same}
use Rattle.report.specs.Buffers.{plan_bytes, data_bytes}

-- the sections of a prefix that is long enough end where those of the whole do
module _ (s : Bytes) (bytes : (i : ℕ) → byte s i < 256) where
  boundary_prefix : (k many n : ℕ) → 1 + many * 65537 < k → n ≤ many → boundary (take k s) n ≡ boundary s n
  unfolding boundary
  boundary_prefix k many zero long h = refl
  boundary_prefix k many (suc n) long h =
      let here : boundary s n < k = omega (arith, boundary_most s bytes n) in
      let next : boundary s n + 1 < k = omega (arith, boundary_most s bytes n) in
      rw (boundary_prefix k many n long (omega arith), get_or-take, get_or-take)

-- after a refusal nothing is asked
then_same : (o o' a b : Outcome) → o ≡ o' → (o' ≡ Ok tt → ⊥) → o then a ≡ o' then b
unfolding ◌then◌
then_same o (Ok _) a b e h = absurd (h refl)
then_same o (Err r) a b e h = rw e

conclude_same : {A : Type 0} (o o' : Outcome) (x y : A) → o ≡ o' → (o' ≡ Ok tt → ⊥) → conclude o x ≡ conclude o' y
unfolding conclude
conclude_same o (Ok _) x y e h = absurd (h refl)
conclude_same o (Err r) x y e h = rw e

require_same : (a b : Bool) (r : Refusal) → Is (non a) → Is (non b) → require a r ≡ require b r
require_same a b r h h' = rw (fails h, fails h')

-- a plan that is longer than all its sections can be, and its first k bytes
module _ (p : Bytes) (bytes : (i : ℕ) → byte p i < 256) (k : ℕ) (room : 1 + 7 * 65537 < k) (long : k < length p) where
  prefix_length : length (take k p) ≡ k
  prefix_length = length-take-le k p (omega arith)

  at_boundary : (n : ℕ) → n ≤ 7 → boundary (take k p) n ≡ boundary p n
  at_boundary n h = boundary_prefix p bytes k 7 n room h

  -- every section of either is inside
  section_inside : (s : Bytes) → k ≤ length s → (n : ℕ) → n < 7 → boundary s n ≡ boundary p n → boundary s (suc n) ≡ boundary p (suc n)
      → Is (boundary s n + 2 ≤? length s and boundary s (suc n) ≤? length s)
  section_inside s all n lt e e' =
      pair (most! (omega (arith, e, boundary_most p bytes n))) (most! (omega (arith, e', boundary_most p bytes (suc n))))

  section_same : (n : ℕ) → n < 7 → section_check (take k p) n ≡ section_check p n
  unfolding section_check ◌then◌
  section_same n lt =
      let here = boundary_most p bytes n in
      let first : boundary p n < k = omega arith in
      let second : boundary p n + 1 < k = omega arith in
      rw (
        required _ (Truncated (suc n)) (section_inside (take k p) (omega (arith, prefix_length)) n lt (at_boundary n (omega arith)) (at_boundary (suc n) (omega arith))),
        required _ (Truncated (suc n)) (section_inside p (omega arith) n lt refl refl),
        ◌then◌,
        at_boundary n (omega arith),
        get_or-take,
        get_or-take,
      )

  -- either is longer than its sections
  longer : (s : Bytes) → k ≤ length s → Is (non (length s ≤? boundary p 7))
  longer s all = refuted (λ h. omega (arith, most h, boundary_most p bytes 7))

  layout_same : layout_check (take k p) ≡ layout_check p
  unfolding layout_check
  layout_same =
      let some : 0 < k = omega arith in
      rw (
        required _ (Truncated 0) (most! {a = 1} {b = length (take k p)} (omega (arith, prefix_length))),
        required _ (Truncated 0) (most! {a = 1} {b = length p} (omega arith)),
        get_or-take k p 0 0,
        scan_same (section_check (take k p)) (section_check p) 0 7 (λ n lt. section_same n (omega arith)),
        at_boundary 7 (omega arith),
        require_same (length (take k p) ≤? boundary p 7) (length p ≤? boundary p 7) (TrailingBytes (boundary p 7)) (longer (take k p) (omega (arith, prefix_length))) (longer p (omega arith)),
      )

  plan_same : plan_check (take k p) ≡ plan_check p
  unfolding plan_check
  plan_same = then_same _ _ _ _ layout_same (λ h. omega (arith, (laid_out_lem p h).nothing_after, boundary_most p bytes 7))

-- a data set that is longer than all its sections can be, and its first k bytes
module _ (P : Plan) where
  not_framed : (d : Bytes) → boundary d 4 < length d → Is (well_framed P d) → ⊥
  unfolding well_framed
  not_framed d long h = let e = same (both (both (both (both h).1).1).1).0 in omega arith

  data_refused : (d : Bytes) → boundary d 4 < length d → data_check P d ≡ Err InvalidData
  unfolding data_check require ◌then◌
  data_refused d long = rw (fails (refuted (not_framed d long)), require, ◌then◌)

  data_same : (d : Bytes) → ((i : ℕ) → byte d i < 256) → (k : ℕ) → 1 + 4 * 65537 < k → k < length d → data_check P (take k d) ≡ data_check P d
  data_same d bytes k room long =
      let few = boundary_most d bytes 4 in
      let all = length-take-le k d (omega arith) in
      data_refused (take k d) (omega (arith, boundary_prefix d bytes k 4 4 room (omega arith)))
      ∙ sym (data_refused d (omega arith))

-- the answer of a plan's first k bytes, and of a data set's
evaluation_plan : (p d : Bytes) (lent k : ℕ) → ((i : ℕ) → byte p i < 256) → 1 + 7 * 65537 < k → evaluation (take k p) d lent ≡ evaluation p d lent
unfolding evaluation evaluation_check inputs_check
evaluation_plan p d lent k bytes room =
    elim (dec_le (length p) k) [
      | yes h ↦ rw (take_all k p h)
      | no more ↦
          let long : k < length p = omega arith in
          let refused : plan_check p ≡ Ok tt → ⊥ = λ h. omega (arith, (plan_accepted p h).layout.nothing_after, boundary_most p bytes 7) in
          let inputs_refused : inputs_check p d ≡ Ok tt → ⊥ = λ h. refused (then_pass _ _ h).0 in
          conclude_same _ _ _ _ (then_same _ _ _ _ (then_same _ _ _ _ (plan_same p bytes k room long) refused) inputs_refused)
          (λ h. inputs_refused (then_pass _ _ h).0)
    ]

evaluation_data : (p d : Bytes) (lent k : ℕ) → ((i : ℕ) → byte d i < 256) → 1 + 4 * 65537 < k → evaluation p (take k d) lent ≡ evaluation p d lent
unfolding evaluation evaluation_check inputs_check
evaluation_data p d lent k bytes room =
    elim (dec_le (length d) k) [
      | yes h ↦ rw (take_all k d h)
      | no more ↦
          let long : k < length d = omega arith in
          let refused : data_check (plan_of p) d ≡ Ok tt → ⊥ = λ h. omega (arith, (data_laid_out (plan_of p) d h).nothing_after, boundary_most d bytes 4) in
          let inputs-same = ap (λ (o : Outcome). plan_check p then o) (data_same (plan_of p) d bytes k room long) in
          ap (λ (o : Outcome). conclude o (accepted (plan_of p))) (then_same _ _ _ _ inputs-same (λ h. refused (then_pass _ _ h).1))
    ]

plan_room : 1 + 7 * 65537 < plan_bytes
unfolding plan_bytes
plan_room = lit< tt

data_room : 1 + 4 * 65537 < data_bytes
unfolding data_bytes
data_room = lit< tt

module _ (p d : Bytes) (plan-bytes : (i : ℕ) → byte p i < 256) (data-bytes : (i : ℕ) → byte d i < 256) where
  -- the answer of what the buffers hold is that of the whole files
  pub prefix_answer : (lent : ℕ) → evaluation (take plan_bytes p) (take data_bytes d) lent ≡ evaluation p d lent
  prefix_answer lent =
      evaluation_data (take plan_bytes p) d lent data_bytes data-bytes data_room
      ∙ evaluation_plan p d lent plan_bytes plan-bytes plan_room

  -- and on acceptance they hold the whole files
  pub accepted_whole : (lent : ℕ) (a : Acceptance) → evaluation p d lent ≡ Ok a → (take plan_bytes p ≡ p) × (take data_bytes d ≡ d)
  unfolding evaluation evaluation_check inputs_check
  accepted_whole lent a h =
      let (inputs, enough) = then_pass _ _ (conclude_ok _ _ a h).0 in
      let (plan, fits) = then_pass _ _ inputs in (
        take_all plan_bytes p (omega (arith, plan_room, (plan_accepted p plan).layout.nothing_after, boundary_most p plan-bytes 7)),
        take_all data_bytes d
            (omega (arith, data_room, (data_laid_out (plan_of p) d fits).nothing_after, boundary_most d data-bytes 4)),
      )
