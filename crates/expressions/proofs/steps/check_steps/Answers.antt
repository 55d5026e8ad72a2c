-- Before each step, the table has what the earlier ones conclude, and what is left to check decides the outcome. Assumes nothing.
use borrow.Author.Rules.{rules}
use Prim.Native.Nat.{◌+◌, ◌<◌}
use mathlib.Core.Path.{◌≡◌, refl, sym, ◌∙◌}
use native.Mathlib.Omega.{arith}
use lib.ListN.{set}
use Rattle.std.specs.Prelude.{Err}
use Rattle.model.specs.Outcomes.{require, ◌then◌}
use Rattle.model.specs.Layout.{Plan, step_count}
use Rattle.model.specs.Lemmas.{step_check}
use Rattle.model.proofs.Outcomes.{never, require_pass}
use Rattle.primitives.proofs.Scanning.{scan_passes, scan_refuses}
use Rattle.primitives.proofs.Stages.{handed_on}
use Rattle.expressions.specs.Steps.{StepSources, ConclusionKeys}
use Rattle.expressions.proofs.StepLaws.{next_keys, premise_keys, licence_known}
use Rattle.expressions.proofs.steps.check_steps.Goals as goal
use Rattle.expressions.proofs.steps.check_steps.Goals.{After-require-in-loop-t}

pub returns-in_err-require : goal.returns-in_err-require
unfolding step_check ◌then◌
returns-in_err-require c = (
  search rules,
  λ P is.
      let inside : c.loop-t.t < step_count P = rw is.steps_are (omega arith) in
      let formed = c.is_formed.ensures.read P is.nodes_are (c.step_at-step.ensures P is.steps_are) in
      let refused : step_check P c.loop-t.t ≡ Err _ = rw (← formed, ← c.require.ensures, c.in_err-require.was) in
      rw (handed_on c.from_residual.result c.from_residual.ensures.1)
      record { outcome = sym (scan_refuses (c.loop-t.invariant.passed P is).scanning inside refused); conclusions = λ h. never h },
)

-- a formed step: the table with its conclusion, and its check as it was called
checked : (c : After-require-in-loop-t) → (P : Plan) → StepSources P c.args.maps.now c.args.supplied.now c.args.nodes.now c.args.steps.now
    → ConclusionKeys P (c.loop-t.t + 1) (set c.loop-t.conclusions c.loop-t.t c.conclusion_key.result)
    × (step_check P c.loop-t.t ≡ c.require-in-loop-t.result)
unfolding step_check require ◌then◌
checked c P is =
    let read = c.step_at-step.ensures P is.steps_are in
    let passes = require_pass _ _ (sym c.require.ensures ∙ c.in_ok-require.was) in
    let formed = c.is_formed.ensures.formed passes in
    let earlier = (c.loop-t.invariant.passed P is).earlier in
    let keys = next_keys c.loop-t.conclusions (omega arith) earlier (omega arith) (omega arith) read c.lemma_row-row.ensures c.conclusion_key.ensures in
    let licensed = c.is_licensed.ensures P is (premise_keys _ keys formed refl refl) formed.from formed.to ∙ licence_known read in
    (keys, rw (← c.is_formed.ensures.read P is.nodes_are read, passes, ← licensed) (sym c.require-in-loop-t.ensures))

pub returns-in_err-require-2 : goal.returns-in_err-require-2
returns-in_err-require-2 c = (
  search rules,
  λ P is.
      let inside : c.loop-t.t < step_count P = rw is.steps_are (omega arith) in
      let check = checked (goal.at.returns-in_err-require-2 c).After-require-in-loop-t P is in
      let refused = check.1 ∙ c.in_err-require-2.was in
      rw (handed_on c.from_residual-in_err-require-2.result c.from_residual-in_err-require-2.ensures.1)
      record { outcome = sym (scan_refuses (c.loop-t.invariant.passed P is).scanning inside refused); conclusions = λ h. never h },
)

pub loop-t-preserved : goal.loop-t-preserved
loop-t-preserved c = record {
  room = search rules;
  passed = λ P is.
      let inside : c.loop-t.t < step_count P = rw is.steps_are (omega arith) in
      let check = checked (goal.at.loop-t-preserved c).After-require-in-loop-t P is in
      record { earlier = check.0; scanning = scan_passes (c.loop-t.invariant.passed P is).scanning inside (check.1 ∙ c.in_ok-require-2.was) };
}
