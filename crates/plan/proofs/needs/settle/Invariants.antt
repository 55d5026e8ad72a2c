-- Before each need, what is left to settle decides; before each step, what is left to search finds the need's step. Assumes nothing.
use Rattle.std.proofs.Common.{get_or}
use Rattle.model.specs.Tests.{◌=?◌}
use Rattle.model.specs.Layout.{step_count}
use Rattle.primitives.proofs.Searching.{Searching}
use Rattle.plan.specs.Plans.{plan_at}
use Rattle.plan.proofs.Settling.{SettledBefore}
use Rattle.plan.proofs.needs.settle.Given as goal

abbrev pub invariant-loop-t : goal.invariant-loop-t
invariant-loop-t l = Searching (λ k. get_or l.conclusions k 0 =? l.key) (step_count (plan_at l.tables)) l.t

abbrev pub invariant-needs : goal.invariant-needs
invariant-needs l = SettledBefore (plan_at l.tables) l.needs l.conclusions l.concluding l.i
