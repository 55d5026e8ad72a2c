-- The pass keeps what is held of the statements before s equal to the definitions; at its end the tables hold what the
-- check of the loops asks of them. Assumes nothing.
use Rattle.model.specs.Layout.{Plan}
use Rattle.loops.specs.Section.{StatementSources}
use Rattle.loops.proofs.StatementLaws.{StatementPass}
use Rattle.loops.proofs.section.check_statements_and_loops.Given as goal

abbrev pub invariant-loop-s : goal.invariant-loop-s
invariant-loop-s l = (P : Plan) → StatementSources P l.regions l.maps l.statements → StatementPass P l.s l.variables l.tables
