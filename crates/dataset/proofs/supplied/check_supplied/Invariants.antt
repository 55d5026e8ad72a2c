-- Before each partition, what is left to check decides the outcome (Scanning). Assumes nothing.
use Rattle.model.specs.Layout.{Plan, supplied_count}
use Rattle.model.specs.DataSets.{DataSet}
use Rattle.primitives.proofs.Scanning.{Scanning}
use Rattle.dataset.specs.Layout.{MembersPlaced}
use Rattle.dataset.specs.Supplied.{SuppliedSources, partition_check}
use Rattle.dataset.proofs.supplied.check_supplied.Given as goal

abbrev pub invariant-loop-partition : goal.invariant-loop-partition
invariant-loop-partition l = (P : Plan) (D : DataSet) → SuppliedSources P D l.supplied l.layout → MembersPlaced P D l.layout → Scanning (partition_check P D) (supplied_count P) l.partition
