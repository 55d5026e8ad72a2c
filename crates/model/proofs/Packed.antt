-- Packing loses nothing: the answers of checking, evaluating, explaining and charging fit their bits, so that what a caller reads from the number is what
-- the answer tells. They fit for all inputs, because the limits of sections, sizes and pieces are checked before the places that they bound.
-- Assumes nothing.
use Prim.Native.Nat.{ℕ, zero, suc, ◌+◌, ◌*◌, ◌/◌, ◌%◌, ◌^◌, ◌≤◌, ◌<◌}
use mathlib.Core.Path.{◌≡◌, refl, sym, ap, ◌∙◌}
use mathlib.Core.Logic.{inl, inr}
use mathlib.Core.Bool.{Bool, false}
use native.Mathlib.Nat.{mul-le-mul_right, mul-le-mul}
use native.Mathlib.Omega.{arith}
use Rattle.std.specs.Prelude.{Ok, Err}
use Rattle.model.specs.declared.Charge.{Charge}
use Rattle.model.specs.Tests.{◌=?◌}
use Rattle.model.specs.Answers.{refusal_report, report, written_report, charge_report}
use Rattle.model.specs.Bytes.{Bytes, u16, boundary}
use Rattle.model.specs.Outcomes.{require, ◌then◌, scan, conclude, Outcome, Answer}
use Rattle.model.specs.Layout.{Plan, plan_of, shapes, shape_of, section_check, layout_check, statement_count, source}
use Rattle.model.specs.Statements.{statement_check}
use Rattle.model.specs.Parallel.{loop_check}
use Rattle.model.specs.Nodes.{node_check}
use Rattle.model.specs.Needs.{has_symbol, symbol, assignment_count_check, assignment_check, need_check}
use Rattle.model.specs.Lemmas.{step_check}
use Rattle.model.specs.AcceptedPlans.{Facts, Limits}
use Rattle.model.specs.Declarations.{region_check, map_check, supplied_check}
use Rattle.model.specs.Verdict.{records_check, plan_check, accepted, verdict}
use Rattle.model.specs.DataSets.{entries_check, data_check}
use Rattle.model.specs.Evaluation.{inputs_check, evaluation_check, evaluation}
use Rattle.model.specs.declared.Question.{Question}
use Rattle.model.specs.Provenance.{question_check, chain_room_check, explanation_check, explanation}
use Rattle.model.specs.declared.Transfer.{Transfer}
use Rattle.model.specs.Transfers.{transfer_check, priced, charge_check, charge}
use Rattle.model.specs.Packed.{TaggedValue, pack, unpack, Packing, packed_by, unpacked_by, refusal_tag, answer_tag, answer_read, answer_packing, packed, unpacked, written_read, written_packing, charge_tag, charge_read, charge_packing, tag_by, acceptance_value, charge_value}
use Rattle.model.specs.declared.Refusal.{Refusal}
use Rattle.model.specs.declared.Acceptance.{Acceptance}
use Rattle.model.proofs.Tests.{split, fails, refuted, same, same!, pick_true, pick-false, ◌also◌, at_each}
use Rattle.model.proofs.Outcomes.{then_cases, then_pass, require_pass, require_refuse, scan_pass, scan_refuse}
use Rattle.model.proofs.Answers.{no_counts, number_in_table, report_injective}
use Rattle.model.proofs.Accepted.{Section, section_pass, laid_out_lem, limits, plan_accepted}
use Rattle.model.proofs.DataAgrees.{frame_fits}
use Rattle.model.proofs.AcceptedInputs.{inputs_accepted, words_most}
use Rattle.model.proofs.ExplanationPromise.{explanation_needed}
use Rattle.model.proofs.ChargePromise.{charge_few}

-- an answer whose numbers fit their bits, with room to spare
pub record Packable (r : Answer) : Type 0 where
  pub small_place : (report r).place < 2 ^ 13
  pub few_symbols : (report r).symbols ≤ 64
  pub few_nodes : (report r).nodes ≤ 48
  pub few_steps : (report r).steps ≤ 128

-- 64 bits are enough for any number and value
pub pack_below : (t : TaggedValue) → pack t < 2 ^ 64
unfolding pack
pack_below t = omega arith

-- what is packed is read back
pub unpack-pack : (t : TaggedValue) → t.number < 2 ^ 8 → t.value < 2 ^ 56 → unpack (pack t) ≡ t
unfolding pack unpack
unpack-pack t small_number small_value =
    let bits : (pack t % 2 ^ 8 ≡ t.number) × (pack t / 2 ^ 8 ≡ t.value) = (omega arith, omega arith) in rw (bits.0, bits.1)

-- an answer that loses nothing in its number: number and value fit their bits, and are read as what the answer reports
pub record Lossless {A R : Type 0} (packing : Packing A R) (r : A) : Type 0 where
  pub small_number : (packing.tag r).number < 2 ^ 8
  pub small_value : (packing.tag r).value < 2 ^ 56
  pub same_report : packing.read (packing.tag r) ≡ packing.report r

-- the caller reads what such an answer reports
pub read_back : {A R : Type 0} (packing : Packing A R) (r : A) → Lossless packing r → unpacked_by packing (packed_by packing r) ≡ packing.report r
read_back packing r k = ap packing.read (unpack-pack _ k.small_number k.small_value) ∙ k.same_report

-- an acceptance with counts that fit 8 bits
counts_read : (a : Acceptance) → a.symbols < 2 ^ 8 → a.nodes < 2 ^ 8 → a.steps < 2 ^ 8 → answer_read (answer_tag (Ok a)) ≡ report (Ok a)
unfolding answer_read tag_by acceptance_value
counts_read a ls ln lt =
    let value : ℕ = (answer_tag (Ok a)).value in
    let bits : (value % 2 ^ 8 ≡ a.symbols) × (value / 2 ^ 8 % 2 ^ 8 ≡ a.nodes) × (value / 2 ^ 16 % 2 ^ 8 ≡ a.steps) = (omega arith, omega arith, omega arith) in
    pick_true _ _ _ (same! refl) ∙ rw (bits.0, bits.1, bits.2)

-- a refusal is not under number 0
not_zero : (r : Refusal) → ((refusal_report r).number =? 0) ≡ false
not_zero r = let some = (number_in_table r).0 in fails (refuted (λ h. let z = same h in omega arith))

place_read : (r : Refusal) → answer_read (refusal_tag r) ≡ refusal_report r
unfolding answer_read
place_read r = pick-false _ _ _ (not_zero r) ∙ sym (no_counts r)

-- answers that fit their bits
lossless : (r : Answer) → Packable r → Lossless answer_packing r
unfolding report tag_by acceptance_value
lossless (Ok a) f =
    record {
      small_number = omega arith;
      small_value = omega arith;
      same_report = counts_read a (omega (arith, f.few_symbols)) (omega (arith, f.few_nodes)) (omega (arith, f.few_steps));
    }
lossless (Err r) f =
    record { small_number = omega (arith, (number_in_table r).1); small_value = omega (arith, f.small_place); same_report = place_read r }

-- the caller reads what the answer reports
pub unpacked-packed : (r : Answer) → Packable r → unpacked (packed r) ≡ report r
unpacked-packed r f = read_back answer_packing r (lossless r f)

-- two answers with one number are the same
pub packed_injective : (a b : Answer) → Packable a → Packable b → packed a ≡ packed b → a ≡ b
packed_injective a b f g e = report_injective a b (sym (unpacked-packed a f) ∙ ap unpacked e ∙ unpacked-packed b g)

-- a check whose refusal has a small place
abbrev Near : Outcome → Type 0
Near o = (r : Refusal) → o ≡ Err r → (refusal_report r).place < 2 ^ 13

near_require : (b : Bool) (q : Refusal) → (refusal_report q).place < 2 ^ 13 → Near (require b q)
near_require b q h r e = rw (require_refuse b q r e).1 at h

near_then : (a b : Outcome) → Near a → (a ≡ Ok tt → Near b) → Near (a then b)
near_then a b f g r e = then_cases a b r e (f r) (λ p. g p r)

near_scan : (f : ℕ → Outcome) (n : ℕ) → ((k : ℕ) → k < n → Near (f k)) → Near (scan f 0 n)
near_scan f n g r e = let w = scan_refuse f n r e in g w.at (omega (arith, w.inside)) r w.refuses

-- sections of whole records, and not too many of them, end at a small offset
module _ (p : Bytes) (section : (n : ℕ) → n < 7 → Section p n) where
  body_small : (n : ℕ) → n < 7 → u16 p (boundary p n) ≤ 640
  unfolding shape_of shapes
  body_small n lt =
      let S = section n lt in
      let bytes : (shape_of n).most * (shape_of n).width ≤ 640 =
      at_each (λ n. (shape_of n).most * (shape_of n).width ≤ 640) 0 7
      (omega arith also omega arith also omega arith also omega arith also omega arith also omega arith also omega arith also tt)
      n (omega arith) lt in
      omega (arith, S.body-length, S.whole_records, mul-le-mul_right (shape_of n).width S.count_most)

  boundary_near : (n : ℕ) → n ≤ 7 → boundary p n ≤ 1 + n * 642
  unfolding boundary
  boundary_near zero le = omega arith
  boundary_near (suc n) le = omega (arith, boundary_near n (omega arith), body_small n (omega arith))

layout_near : (p : Bytes) → Near (layout_check p)
unfolding layout_check section_check
layout_near p =
    near_then _ _ (near_require _ _ (omega arith)) λ some.
    near_then _ _ (near_require _ _ (omega arith)) λ edition.
    near_then _ _
    (near_scan _ _ (λ n lt. near_then _ _ (near_require _ _ (omega arith)) (λ ends. near_require _ _ (omega arith)))) λ sections.
    near_require _ _ (omega (arith, boundary_near p (λ n lt. section_pass p n (scan_pass _ _ sections n lt)) 7 (omega arith)))

-- a symbol's number is at most its statement's
symbol_most : (P : Plan) (s : ℕ) → symbol P s ≤ s
unfolding symbol
symbol_most P zero = omega arith
symbol_most P (suc s) =
    elim (split (has_symbol P s)) [
      | inl y ↦ rw (pick_true _ _ _ y) (omega (arith, symbol_most P s))
      | inr n ↦ rw (pick-false _ _ _ (fails n)) (omega (arith, symbol_most P s))
    ]

records_near : (P : Plan) → Limits P → Near (records_check P)
unfolding
    records_check region_check map_check supplied_check statement_check loop_check node_check assignment_count_check assignment_check step_check need_check
records_near P L =
    near_then _ _ (near_scan _ _ (λ r lt. near_require _ _ (omega arith))) λ regions.
    near_then _ _ (near_scan _ _ (λ m lt. near_require _ _ (omega arith))) λ maps.
    near_then _ _ (near_scan _ _ (λ k lt. near_require _ _ (omega arith))) λ supplied.
    near_then _ _
    (near_scan _ _ (λ s lt. near_then _ _ (near_require _ _ (omega arith)) λ formed. near_require _ _ (omega arith))) λ statements.
    near_then _ _ (near_scan _ _ (λ f lt. near_require _ _ (omega arith))) λ loops.
    near_then _ _
    (near_scan _ _
    (λ j lt. near_then _ _ (near_require _ _ (omega arith)) λ formed.
    near_then _ _ (near_require _ _ (omega arith)) λ agrees. near_require _ _ (omega arith))) λ nodes.
    near_then _ _ (near_require _ _ (omega (arith, symbol_most P (statement_count P)))) λ count.
    near_then _ _
    (near_scan _ _
    (λ s lt. near_then _ _ (near_require _ _ (omega (arith, symbol_most P s))) λ listed.
    near_require _ _ (omega (arith, symbol_most P s)))) λ assignments.
    near_then _ _
    (near_scan _ _ (λ t lt. near_then _ _ (near_require _ _ (omega arith)) λ formed. near_require _ _ (omega arith))) λ steps.
    near_scan _ _ (λ s lt. near_require _ _ (omega (arith, symbol_most P s)))

plan_near : (p : Bytes) → Near (plan_check p)
unfolding plan_check
plan_near p = near_then _ _ (layout_near p) λ layout. records_near (plan_of p) (limits p (laid_out_lem p layout))

data_near : (P : Plan) (d : Bytes) → Limits P → Facts P → Near (data_check P d)
unfolding data_check entries_check
data_near P d L F =
    near_then _ _ (near_require _ _ (omega arith)) λ frame.
    let few = ((frame_fits P d).0 (require_pass _ _ frame)).sizes in
    near_then _ _
    (near_scan _ _
    (λ m lm. near_scan _ _ (λ k lk. near_require _ _ (omega (arith, few (source P m) (F.source_listed m lm)))))) λ entries.
    near_scan _ _ (λ k lt. near_require _ _ (omega arith))

inputs_near : (p d : Bytes) → Near (inputs_check p d)
unfolding inputs_check
inputs_near p d =
    near_then _ _ (plan_near p) λ plan. let A = plan_accepted p plan in data_near (plan_of p) d (limits p A.layout) A.records

evaluation_near : (p d : Bytes) (lent : ℕ) → Near (evaluation_check p d lent)
unfolding evaluation_check
evaluation_near p d lent =
    near_then _ _ (inputs_near p d) λ inputs. near_require _ _ (omega (arith, words_most p d (inputs_accepted p d inputs)))

-- the answer after such checks
concluded_packable : (P : Plan) (o : Outcome) → Near o → (o ≡ Ok tt → Limits P) → Packable (conclude o (accepted P))
unfolding conclude report
concluded_packable P (Ok _) near known =
    let L = known refl in
    record {
      small_place = omega arith;
      few_symbols = omega (arith, symbol_most P (statement_count P));
      few_nodes = L.few_nodes;
      few_steps = L.few_steps;
    }
concluded_packable P (Err r) near known =
    let t = no_counts r in
    record {
      small_place = near r refl;
      few_symbols = rw t (omega arith);
      few_nodes = rw t (omega arith);
      few_steps = rw t (omega arith);
    }

pub verdict_packable : (p : Bytes) → Packable (verdict p)
unfolding verdict
verdict_packable p = concluded_packable (plan_of p) _ (plan_near p) λ plan. limits p (plan_accepted p plan).layout

pub evaluation_packable : (p d : Bytes) (lent : ℕ) → Packable (evaluation p d lent)
unfolding evaluation evaluation_check
evaluation_packable p d lent =
    concluded_packable (plan_of p) _ (evaluation_near p d lent) λ pass. (inputs_accepted p d (then_pass _ _ pass).0).limits

-- what a caller reads of checking and of evaluating
pub verdict_read : (p : Bytes) → unpacked (packed (verdict p)) ≡ report (verdict p)
verdict_read p = unpacked-packed (verdict p) (verdict_packable p)

pub evaluation_read : (p d : Bytes) (lent : ℕ) → unpacked (packed (evaluation p d lent)) ≡ report (evaluation p d lent)
evaluation_read p d lent = unpacked-packed (evaluation p d lent) (evaluation_packable p d lent)

pub evaluation_injective :
    (p d p' d' : Bytes) (lent lent' : ℕ) → packed (evaluation p d lent) ≡ packed (evaluation p' d' lent') →
    report (evaluation p d lent) ≡ report (evaluation p' d' lent')
evaluation_injective p d p' d' lent lent' e =
    ap report (packed_injective _ _ (evaluation_packable p d lent) (evaluation_packable p' d' lent') e)

-- explaining: 16 has a place up to 4, and a chain at most 48 pairs
explanation_near : (p d : Bytes) (q : Question) (lentNodes lentElements : ℕ) → Near (explanation_check p d q lentNodes lentElements)
unfolding explanation_check question_check chain_room_check
explanation_near p d q lentNodes lentElements =
    near_then _ _ (inputs_near p d) λ inputs.
    near_then _ _
    (near_then _ _ (near_require _ _ (omega arith)) λ node.
    near_then _ _ (near_require _ _ (omega arith)) λ piece.
    near_then _ _ (near_require _ _ (omega arith)) λ element. near_require _ _ (omega arith)) λ question.
    near_require _ _ (omega (arith, explanation_needed p d q inputs question))

-- a length or a refusal's place that fits its bits
written_lossless : (o : Outcome) (n : ℕ) → Near o → (o ≡ Ok tt → n ≤ 48) → Lossless written_packing (conclude o n)
unfolding conclude written_report tag_by written_read
written_lossless (Ok tt) n near few =
    let l = few refl in record { small_number = omega arith; small_value = omega arith; same_report = pick_true _ _ _ (same! refl) }
written_lossless (Err r) n near few =
    record {
      small_number = omega (arith, (number_in_table r).1);
      small_value = omega (arith, near r refl);
      same_report = pick-false _ _ _ (not_zero r);
    }

pub explanation_read :
    (p d : Bytes) (q : Question) (lentNodes lentElements : ℕ) →
    unpacked_by written_packing (packed_by written_packing (explanation p d q lentNodes lentElements)) ≡ written_report (explanation p d q lentNodes lentElements)
unfolding explanation explanation_check
explanation_read p d q lentNodes lentElements =
    read_back written_packing _
    (written_lossless _ _ (explanation_near p d q lentNodes lentElements)
    (λ h. let (inputs, rest) = then_pass _ _ h in explanation_needed p d q inputs (then_pass _ _ rest).0))

-- charging: 17 has a place up to 3, and the most is 16 pieces of 512 elements at 1,000,000
charge_near : (p d : Bytes) (t : Transfer) → Near (charge_check p d t)
unfolding charge_check transfer_check
charge_near p d t =
    near_then _ _ (inputs_near p d) λ inputs.
    near_then _ _ (near_require _ _ (omega arith)) λ nodes.
    near_then _ _ (near_require _ _ (omega arith)) λ regions. near_require _ _ (omega arith)

-- a charge whose numbers fit their bits
charge_numbers : (c : Charge) → c.count < 2 ^ 16 → c.cents < 2 ^ 24 → c.remainder < 2 ^ 16 → charge_read (charge_tag (Ok c)) ≡ charge_report (Ok c)
unfolding charge_read tag_by charge_value
charge_numbers c ln lc lm =
    let value : ℕ = (charge_tag (Ok c)).value in
    let bits : (value % 2 ^ 16 ≡ c.count) × (value / 2 ^ 16 % 2 ^ 24 ≡ c.cents) × (value / 2 ^ 40 % 2 ^ 16 ≡ c.remainder) = (omega arith, omega arith, omega arith) in
    pick_true _ _ _ (same! refl) ∙ rw (bits.0, bits.1, bits.2)

charge_lossless : (o : Outcome) (n price : ℕ) → Near o → (o ≡ Ok tt → (n ≤ 8192) × (price ≤ 1000000)) → Lossless charge_packing (conclude o (priced n price))
unfolding conclude priced charge_report tag_by charge_value charge_read
charge_lossless (Ok tt) n price near few =
    let (ln, lp) = few refl in
    let most : n * price ≤ 8192 * 1000000 = mul-le-mul {n₂ = 8192} {m₂ = 1000000} ln lp in
    record {
      small_number = omega arith;
      small_value = omega arith;
      same_report = charge_numbers _ (omega arith) (omega arith) (omega arith);
    }
charge_lossless (Err r) n price near few =
    record {
      small_number = omega (arith, (number_in_table r).1);
      small_value = omega (arith, near r refl);
      same_report = pick-false _ _ _ (not_zero r);
    }

pub charge_read_lem : (p d : Bytes) (t : Transfer) → unpacked_by charge_packing (packed_by charge_packing (charge p d t)) ≡ charge_report (charge p d t)
unfolding charge
charge_read_lem p d t = read_back charge_packing _ (charge_lossless _ _ _ (charge_near p d t) (charge_few p d t))
