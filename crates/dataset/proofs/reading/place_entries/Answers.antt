-- Each part is as wide as the definition says. Assumes nothing.
use Rattle.std.proofs.Common.{◌≡◌, ◌*◌, ◌/◌, length, refl, rules}
use Rattle.model.specs.Layout.{map_count, source}
use Rattle.model.specs.DataSets.{entry_start, size}
use Rattle.dataset.proofs.reading.place_entries.Goals as goal

pub returns : goal.returns
unfolding entry_start
returns c =
    λ P D known.
    let e : map_count P ≡ length c.args.maps.now / 3 = rw known.maps_are in
    rw e
    (c.place_parts.ensures (entry_start P D) refl (λ part bytes lt read.
    let wide : bytes ≡ 2 * size D (source P part) = search (rules, known.maps_are, known.sizes_are) in
    rw wide))
