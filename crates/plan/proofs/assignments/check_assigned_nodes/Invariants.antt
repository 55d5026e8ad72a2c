-- Before each statement, what is left to check decides the outcome (Scanning), and the symbol so far is its own. Assumes nothing.
use Rattle.std.proofs.Common.{◌≡◌, ◌≤◌}
use Rattle.model.specs.Layout.{statement_count}
use Rattle.model.specs.Needs.{symbol, assignment_check}
use Rattle.primitives.proofs.Scanning.{Scanning}
use Rattle.plan.specs.Plans.{plan_at}
use Rattle.plan.proofs.assignments.check_assigned_nodes.Given as goal

abbrev pub invariant-loop-s : goal.invariant-loop-s
invariant-loop-s l = record {
  symbol_is : l.symbol ≡ symbol (plan_at l.tables) l.s;
  symbol_few : l.symbol ≤ l.s;
  scanning : Scanning (assignment_check (plan_at l.tables)) (statement_count (plan_at l.tables)) l.s;
}
