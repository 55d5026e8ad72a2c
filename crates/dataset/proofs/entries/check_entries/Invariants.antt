-- Before each map, what is left to check decides the outcome (Scanning). Assumes nothing.
use Rattle.model.specs.Layout.{Plan, map_count}
use Rattle.model.specs.DataSets.{DataSet, entries_check}
use Rattle.primitives.proofs.Scanning.{Scanning}
use Rattle.dataset.specs.Layout.{EntriesPlaced}
use Rattle.dataset.specs.Entries.{EntrySources}
use Rattle.dataset.proofs.entries.check_entries.Given as goal

abbrev pub invariant-loop-map : goal.invariant-loop-map
invariant-loop-map l = (P : Plan) (D : DataSet) → EntrySources P D l.maps l.layout → EntriesPlaced P D l.layout → Scanning (entries_check P D) (map_count P) l.map
