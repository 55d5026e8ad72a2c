-- Before each partition, what is left to check decides the outcome (Scanning). Assumes nothing.
use Rattle.model.specs.Layout.{Plan, supplied_count}
use Rattle.model.specs.Declarations.{supplied_check}
use Rattle.primitives.proofs.Scanning.{Scanning}
use Rattle.layout.specs.Declarations.{SuppliedDeclarations}
use Rattle.layout.proofs.supplied.check_supplied.Given as goal

abbrev pub invariant-loop-partition : goal.invariant-loop-partition
invariant-loop-partition l = (P : Plan) → SuppliedDeclarations P l.regions l.supplied → Scanning (supplied_check P) (supplied_count P) l.partition
