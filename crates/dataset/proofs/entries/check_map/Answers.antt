-- The numbers handed on are those of the map's record and of the sizes. Assumes nothing.
use Rattle.std.proofs.Common.{◌∙◌, ap}
use Rattle.model.specs.Tests.{◌=?◌}
use Rattle.model.specs.DataSets.{size}
use Rattle.dataset.proofs.Scans.{entries_checked}
use Rattle.dataset.proofs.entries.check_map.Goals as goal

pub returns : goal.returns
unfolding ◌=?◌
returns c =
    λ P D known placed.
    c.check.ensures
    ∙ entries_checked _ _ _ (c.map_entries.ensures P D known placed)
    (c.region_size.ensures.0 D known.sizes_are ∙ ap (size D) (c.map_target.ensures.0 P known.maps_are))
    (rw (c.map_totality.ensures.0 P known.maps_are))
