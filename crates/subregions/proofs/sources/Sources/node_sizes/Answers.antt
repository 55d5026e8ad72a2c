-- The loop has the size of each node passed in its place. Assumes nothing.
use Rattle.std.proofs.Common.{◌≡◌, refl, length-set, arith}
use Rattle.model.specs.Nodes.{node_region}
use Rattle.model.specs.DataSets.{data_of, size}
use Rattle.primitives.proofs.Filling.{entry_next}
use Rattle.subregions.proofs.sources.Sources.node_sizes.Goals as goal

pub loop-j-preserved : goal.loop-j-preserved
loop-j-preserved c =
    let l = c.loop-j in (
      simp length-set l.invariant.0,
      λ P d S. entry_next 0 (λ j n. n ≡ size (data_of d) (node_region P j)) l.table l.j _ (omega arith) (l.invariant.1 P d S)
          (c.node_size.ensures.size P d (record { sizes_are = S.sizes_are; node_regions_are = λ j lt. S.node_regions_are j (omega arith) })),
    )
