-- The three conditions of a parallelizable loop ask for no more than is needed: a loop that breaks one of them is disturbed over some data
-- set that fits, the one in which every pointer leads to the first element. Assumes nothing.
use Prim.Native.Nat.{ℕ, ◌<◌}
use mathlib.Core.Path.{◌≡◌, ap}
use mathlib.Core.Logic.{◌↔◌}
use mathlib.Core.Bool.{Bool}
use native.Mathlib.Omega.{arith}
use Rattle.std.specs.Prelude.{Err}
use Rattle.model.specs.Bytes.{Bytes}
use Rattle.model.specs.Answers.{refusal_report}
use Rattle.model.specs.Outcomes.{require, ◌then◌, scan, Outcome}
use Rattle.model.specs.Layout.{Plan, plan_of, section_check, layout_check, statement_count, statement_kind}
use Rattle.model.specs.Declarations.{region_check, map_check, supplied_check}
use Rattle.model.specs.Statements.{statement_check}
use Rattle.model.specs.Nodes.{node_check}
use Rattle.model.specs.Lemmas.{step_check}
use Rattle.model.specs.Needs.{assignment_count_check, assignment_check, need_check}
use Rattle.model.specs.Verdict.{nodes_check, assignments_check, steps_check, needs_check, records_check, plan_check, verdict}
use Rattle.model.specs.AcceptedPlans.{Limits}
use Rattle.model.specs.PlainPlan.{ParallelizableLoop, WellFormed, Parallelizable}
use Rattle.model.specs.DataSets.{data_of}
use Rattle.model.specs.PlainData.{Fits}
use Rattle.model.specs.Encoding.{Octets}
use Rattle.model.specs.Undisturbed.{PlainlyUndisturbedLoop, Undisturbed, PlainlyUndisturbed}
use Rattle.model.specs.declared.Refusal.{Refusal}
use Rattle.model.specs.declared.Refusal.TheVariants.{NotParallelizable}
use Rattle.model.proofs.Outcomes.{then_cases, require_refuse, scan_pass, scan_refuse, conclude_refused}
use Rattle.model.proofs.Accepted.{laid_out_lem, limits}
use Rattle.model.proofs.LayoutAgrees.{layout_read, well_formed_layout, map_formed, supplied_formed}
use Rattle.model.proofs.Demand2Loops.{StatementsRead, statements_pass, LoopRefused, loop_refused}
use Rattle.model.proofs.Undisturbed.{plainly, undisturbed_loop, undisturbed}
use Rattle.model.proofs.AllToFirst.{RegionsListed, all_to_first_data, all_to_first_lem, all_to_first_fits, all_to_first_octets}
use Rattle.model.proofs.KeptConditions.{keeps_conditions}

-- a loop is parallelizable exactly where it is plainly undisturbed over the data set in which every pointer leads to the first element
pub loop_exactly :
    (P : Plan) → RegionsListed P → StatementsRead P → (f : ℕ) → f < statement_count P → statement_kind P f ≡ 0 →
    ParallelizableLoop P f ↔ PlainlyUndisturbedLoop P (data_of (all_to_first_data P)) f
loop_exactly P R S f lf for = (λ L. plainly (undisturbed_loop P _ L), keeps_conditions P R S _ (all_to_first_lem P R) lf for)

-- a claim on every data set that fits
abbrev pub OverFittingData : Bytes → (Bytes → Type 0) → Type 0
OverFittingData p Claim = (d : Bytes) → Octets d → Fits (plan_of p) d → Claim d

-- demand 2's clause on loops by its meaning: over no data set that fits does an iteration disturb another, in the claim's words or in plain ones
module _ (p : Bytes) (W : WellFormed p) where
  plain_claim_enough : OverFittingData p (PlainlyUndisturbed p) → Parallelizable p
  plain_claim_enough plain f lf for =
      let R : RegionsListed (plan_of p) =
      record {
        sources = λ m lt. (W.maps m lt).0;
        targets = λ m lt. (W.maps m lt).1;
        supplied_regions = λ k lt. (W.supplied k lt).0;
      } in
      let L = limits p (laid_out_lem p ((layout_read p).1 (well_formed_layout p W))) in
      (loop_exactly (plan_of p) R W.statements f lf for).1
      (plain (all_to_first_data (plan_of p)) (all_to_first_octets (plan_of p) R L) (all_to_first_fits (plan_of p) R) f lf for)

  in_plain_words : OverFittingData p (Undisturbed p) → OverFittingData p (PlainlyUndisturbed p)
  in_plain_words claimed d octets fits f lf for = plainly (claimed d octets fits f (omega arith) for)

  pub parallelizable_exactly : Parallelizable p ↔ OverFittingData p (Undisturbed p)
  parallelizable_exactly = (λ loops d octets fits. undisturbed p d loops, λ claimed. plain_claim_enough (in_plain_words claimed))

  pub plainly_exactly : OverFittingData p (Undisturbed p) ↔ OverFittingData p (PlainlyUndisturbed p)
  plainly_exactly = (in_plain_words, λ plain. parallelizable_exactly.0 (plain_claim_enough plain))

-- which checks give refusal 8
module _ (f : ℕ) where
  abbrev Refuses : Outcome → Type 0
  Refuses o = o ≡ Err (NotParallelizable f)

  abbrev Never : Outcome → Type 0
  Never o = Refuses o → ⊥

  other : (b : Bool) (q : Refusal) → ((refusal_report q).number ≡ 8 → ⊥) → Never (require b q)
  other b q n e = n (ap (λ r. (refusal_report r).number) (require_refuse b q _ e).1)

  neither : (a b : Outcome) → Never a → Never b → Never (a then b)
  neither a b m n e = then_cases a b _ e m (λ passed. n)

  none : (check : ℕ → Outcome) (n : ℕ) → ((k : ℕ) → Never (check k)) → Never (scan check 0 n)
  none check n each e = let w = scan_refuse check n _ e in each w.at w.refuses

  -- not the layout's, and none behind the loops'
  never_layout : (p : Bytes) → Never (layout_check p)
  unfolding layout_check section_check
  never_layout p =
      neither _ _ (other _ _ (omega arith)) (neither _ _ (other _ _ (omega arith))
      (neither _ _ (none _ _ (λ n. neither _ _ (other _ _ (omega arith)) (other _ _ (omega arith)))) (other _ _ (omega arith))))

  never_later : (P : Plan) → Never (nodes_check P then assignment_count_check P then assignments_check P then steps_check P then needs_check P)
  unfolding node_check assignment_count_check assignment_check step_check need_check
  never_later P =
      neither _ _
      (none _ _ (λ j. neither _ _ (other _ _ (omega arith)) (neither _ _ (other _ _ (omega arith)) (other _ _ (omega arith)))))
      (neither _ _ (other _ _ (omega arith))
      (neither _ _ (none _ _ (λ s. neither _ _ (other _ _ (omega arith)) (other _ _ (omega arith))))
      (neither _ _ (none _ _ (λ t. neither _ _ (other _ _ (omega arith)) (other _ _ (omega arith))))
      (none _ _ (λ s. other _ _ (omega arith))))))

  -- where refusal 8 is given, sections 1 to 4 are read, and the loop that is refused is that of FOR f
  record Located (p : Bytes) : Type 0 where
    within_limits : Limits (plan_of p)
    regions_listed : RegionsListed (plan_of p)
    statements_read : StatementsRead (plan_of p)
    refused : LoopRefused (plan_of p) (NotParallelizable f)

  located : (p : Bytes) → Refuses (plan_check p) → Located p
  unfolding plan_check records_check region_check map_check supplied_check statement_check
  located p h =
      then_cases _ _ _ h (λ e. absurd (never_layout p e)) λ layout h.
      then_cases _ _ _ h (λ e. absurd (none _ _ (λ r. other _ _ (omega arith)) e)) λ regions h.
      then_cases _ _ _ h (λ e. absurd (none _ _ (λ m. other _ _ (omega arith)) e)) λ maps h.
      then_cases _ _ _ h (λ e. absurd (none _ _ (λ k. other _ _ (omega arith)) e)) λ supplied h.
      then_cases _ _ _ h (λ e. absurd (none _ _ (λ s. neither _ _ (other _ _ (omega arith)) (other _ _ (omega arith))) e)) λ statements h.
      then_cases _ _ _ h
      (λ loops.
      let S = (statements_pass (plan_of p)).0 statements in
      record {
        within_limits = limits p (laid_out_lem p layout);
        regions_listed =
            record {
              sources = λ m lt. ((map_formed (plan_of p) m).0 (scan_pass _ _ maps m lt)).0;
              targets = λ m lt. ((map_formed (plan_of p) m).0 (scan_pass _ _ maps m lt)).1;
              supplied_regions = λ k lt. ((supplied_formed (plan_of p) k).0 (scan_pass _ _ supplied k lt)).0;
            };
        statements_read = S;
        refused = loop_refused (plan_of p) S (NotParallelizable f) loops;
      })
      (λ loops e. absurd (never_later (plan_of p) e))

-- refusal 8 is given for no loop that all data sets leave undisturbed: over one that fits, this loop is disturbed
pub refused_disturbed :
    (p : Bytes) (f : ℕ) → verdict p ≡ Err (NotParallelizable f) →
    (d : Bytes) × Octets d × Fits (plan_of p) d × (PlainlyUndisturbedLoop (plan_of p) (data_of d) f → ⊥)
unfolding verdict
refused_disturbed p f h =
    let L = located f p (conclude_refused _ _ (NotParallelizable f) h) in
    let R = L.regions_listed in
    let w = L.refused in
    let here : w.record_of_for ≡ f = ap (λ r. (refusal_report r).place) w.refusal in (
      all_to_first_data (plan_of p),
      all_to_first_octets (plan_of p) R L.within_limits,
      all_to_first_fits (plan_of p) R,
      λ U. w.broken ((loop_exactly (plan_of p) R L.statements_read w.record_of_for w.inside w.opens).1 (rw here U)),
    )
