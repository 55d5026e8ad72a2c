-- The size of a node's region, as it is read. Assumes nothing.
use Prim.Native.Nat.{ℕ, ◌+◌, ◌*◌}
use mathlib.Core.Path.{◌≡◌, ◌∙◌}
use native.Mathlib.Omega.{arith}
use lib.ListN.{get_or}
use Rattle.model.specs.Bytes.{Bytes, u16}
use Rattle.model.specs.Layout.{Plan}
use Rattle.model.specs.Nodes.{node_region}
use Rattle.model.specs.DataSets.{data_of, size}
use Rattle.subregions.specs.declared.sources.Sources.{Sources}
use Rattle.subregions.specs.Fill.{SizeSources}

pub size_read : (P : Plan) (d : Bytes) (read : Sources) (j region n : ℕ) → SizeSources P d read (j + 1)
    → region ≡ get_or read.node_regions.now j 0 → n ≡ u16 read.sizes.now (2 * region) → n ≡ size (data_of d) (node_region P j)
unfolding size
size_read P d read j region n S r q = q ∙ rw (r, S.node_regions_are j (omega arith), S.sizes_are)
