-- The pass keeps the bounds and the needs of the statements before s in their tables. Assumes nothing.
use Rattle.plan.specs.Plans.{plan_at}
use Rattle.plan.proofs.NeedTables.{NeedsSoFar}
use Rattle.plan.proofs.needs.list_needs.Given as goal

abbrev pub invariant-loop-s : goal.invariant-loop-s
invariant-loop-s l = NeedsSoFar (plan_at l.tables) l.s l.symbol l.bounds l.needs
