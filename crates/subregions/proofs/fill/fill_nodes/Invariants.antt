-- The loop has the members of each needed node passed in its words. Assumes nothing.
use mathlib.Core.Path.{◌≡◌}
use lib.ListN.{length}
use Rattle.model.specs.Bytes.{Bytes}
use Rattle.model.specs.Layout.{Plan}
use Rattle.model.specs.DataSets.{data_of}
use Rattle.subregions.specs.Fill.{filled_up_to, FillSources}
use Rattle.subregions.proofs.fill.fill_nodes.Given as goal

abbrev pub invariant-loop-j : goal.invariant-loop-j
invariant-loop-j l = (length l.words ≡ length l.initial.words)
    × ((P : Plan) (d : Bytes) → FillSources P d l.sources l.span (length l.initial.words) → l.words ≡ filled_up_to P (data_of d) l.span l.initial.words l.j)
