-- The loop has the size of each node passed in its place. Assumes nothing.
use Rattle.std.proofs.Common.{◌≡◌, length}
use Rattle.model.specs.Bytes.{Bytes}
use Rattle.model.specs.Layout.{Plan}
use Rattle.model.specs.DataSets.{data_of}
use Rattle.subregions.specs.Fill.{SizeSources, NodeSizes}
use Rattle.subregions.proofs.sources.Sources.node_sizes.Given as goal

abbrev pub invariant-loop-j : goal.invariant-loop-j
invariant-loop-j l = (length l.table ≡ 48)
    × ((P : Plan) (d : Bytes) → SizeSources P d l.self l.count → NodeSizes P (data_of d) l.table l.j)
