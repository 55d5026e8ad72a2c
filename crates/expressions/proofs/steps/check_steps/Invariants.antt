-- Before each step, the table has what the earlier ones conclude, and what is left to check decides the outcome. Assumes nothing.
use mathlib.Core.Path.{◌≡◌}
use lib.ListN.{length}
use Rattle.model.specs.Layout.{Plan}
use Rattle.expressions.specs.Steps.{StepSources}
use Rattle.expressions.proofs.StepLaws.{StepsPassed}
use Rattle.expressions.proofs.steps.check_steps.Given as goal

abbrev pub invariant-loop-t : goal.invariant-loop-t
invariant-loop-t l = record {
  room : length l.conclusions ≡ 128;
  passed : (P : Plan) → StepSources P l.maps l.supplied l.nodes l.steps → StepsPassed P l.conclusions l.t;
}
