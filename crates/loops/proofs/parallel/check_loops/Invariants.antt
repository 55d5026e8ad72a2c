-- Before each statement, what is left to check decides the outcome (Scanning). Assumes nothing.
use Rattle.model.specs.Layout.{Plan, statement_count}
use Rattle.model.specs.Parallel.{loop_check}
use Rattle.primitives.proofs.Scanning.{Scanning}
use Rattle.loops.specs.Parallel.{LoopsKnown}
use Rattle.loops.proofs.parallel.check_loops.Given as goal

abbrev pub invariant-loop-f : goal.invariant-loop-f
invariant-loop-f l = (P : Plan) → LoopsKnown P l.statements l.operands l.variable_regions l.centered → Scanning (loop_check P) (statement_count P) l.f
