-- The symbol so far is that of statement t. Assumes nothing.
use Rattle.std.proofs.Common.{◌≡◌, ◌≤◌}
use Rattle.model.specs.Needs.{symbol}
use Rattle.plan.specs.Plans.{plan_at}
use Rattle.plan.proofs.assignments.symbol_of.Given as goal

abbrev pub invariant-loop-t : goal.invariant-loop-t
invariant-loop-t l = (l.symbol ≡ symbol (plan_at l.tables) l.t) × (l.symbol ≤ l.t)
