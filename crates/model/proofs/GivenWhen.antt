-- T2b: where checking a plan refuses, or evaluating does, the table's "given when" of the number holds at the place. Assumes nothing.
use Prim.Native.Nat.{ℕ}
use mathlib.Core.Path.{◌≡◌, refl}
use native.Mathlib.Omega.{arith}
use Rattle.std.specs.Prelude.{Err}
use Rattle.model.specs.Bytes.{Bytes}
use Rattle.model.specs.Layout.{plan_of}
use Rattle.model.specs.Verdict.{records_check, plan_check}
use Rattle.model.specs.Evaluation.{inputs_check, evaluation_check}
use Rattle.model.specs.Answers.{refusal_report}
use Rattle.model.specs.GivenWhen.{EvaluationGivenWhen, of_plan, of_data, of_output, output_too_small}
use Rattle.model.specs.declared.Refusal.{Refusal}
use Rattle.model.proofs.Tests.{lacks}
use Rattle.model.proofs.Outcomes.{then_cases, require_refuse}
use Rattle.model.proofs.LayoutAgrees.{PlanGiven, layout_refuses, beyond}
use Rattle.model.proofs.RecordsAgree.{nodes_plainly, steps_plainly, regions_refuse, maps_refuse, supplied_refuse, nodes_refuse, steps_refuse}
use Rattle.model.proofs.Demand2Loops.{statements_pass, assignments_pass, statements_refuse, loops_refuse, assignment_count_refuses, assignments_refuse, needs_refuse}
use Rattle.model.proofs.DataAgrees.{data_refuses}

module _ (p : Bytes) (r : Refusal) where
  pub plan_refuses : plan_check p ≡ Err r → PlanGiven p r
  unfolding plan_check records_check
  plan_refuses h =
      then_cases _ _ r h (layout_refuses p r) λ layout h.
      then_cases _ _ r h (regions_refuse p r) λ regions h.
      then_cases _ _ r h (maps_refuse p r) λ maps h.
      then_cases _ _ r h (supplied_refuse p r) λ supplied h.
      then_cases _ _ r h (statements_refuse p r) λ statements h.
      let S = (statements_pass (plan_of p)).0 statements in
      then_cases _ _ r h (loops_refuse p r S) λ loops h.
      then_cases _ _ r h (nodes_refuse p r) λ nodes h.
      let N = nodes_plainly (plan_of p) nodes in
      then_cases _ _ r h (assignment_count_refuses p r) λ count h.
      then_cases _ _ r h (assignments_refuse p r S) λ assignments h.
      let A = (assignments_pass (plan_of p) S N).0 assignments in
      then_cases _ _ r h (steps_refuse p r) λ steps h.
      needs_refuse p r S N A (steps_plainly (plan_of p) steps).formed h

  pub evaluation_refuses :
      (d : Bytes) (lent : ℕ) → evaluation_check p d lent ≡ Err r →
      EvaluationGivenWhen p d lent (refusal_report r).number (refusal_report r).place
  unfolding evaluation_check inputs_check
  evaluation_refuses d lent h =
      then_cases _ _ r h (λ i. then_cases _ _ r i (λ e. of_plan (plan_refuses e)) λ plan e. of_data (data_refuses (plan_of p) d r e)) λ inputs h.
      let f = require_refuse _ _ r h in
      let few = beyond (lacks f.0) in
      rw (← f.1) (of_output (output_too_small refl refl (omega arith)))
