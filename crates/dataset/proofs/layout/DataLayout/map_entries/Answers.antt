-- The map's entries lie in their section, from where the layout says. Assumes nothing.
use Rattle.std.proofs.Common.{rules, refl, ◌≡◌, ◌≤◌, length, get_or, ◌+◌, ◌*◌, arith}
use Rattle.model.specs.Layout.{Plan, source}
use Rattle.model.specs.DataSets.{DataSet, size}
use Rattle.dataset.specs.Layout.{set_of}
use Rattle.dataset.specs.Entries.{EntrySources}
use Rattle.dataset.proofs.Starts.{entries_inside, entries_of}
use Rattle.dataset.proofs.layout.DataLayout.map_entries.Goals as goal
use Rattle.dataset.proofs.layout.DataLayout.map_entries.Goals.{After-region_size}

-- so many
counted : (c : After-region_size) (P : Plan) (D : DataSet) → EntrySources P D c.args.maps.now c.args.self.now → c.region_size.result ≡ size D (source P c.args.map)
counted c P D known = rw (c.region_size.ensures.0 D known.sizes_are, c.map_source.ensures.0 P known.maps_are)

inside : (c : After-region_size) → get_or c.args.self.now.entry_starts c.args.map 0 + 2 * c.region_size.result ≤ length c.args.self.now.entries.now
inside c =
    let ready = c.requires.ready in
    rw (counted c ready.plan (set_of c.args.self.now) (record { maps_are = ready.maps_are; sizes_are = refl; entries_are = refl })) (entries_inside c.args.map ready c.requires.listed)

pub overflow_add-end : goal.overflow_add-end
overflow_add-end c = omega (arith, inside c)

pub slice_bounds-result-end : goal.slice_bounds-result-end
slice_bounds-result-end c = search (rules, inside (goal.at.slice_bounds-result-end c).After-region_size)

pub returns : goal.returns
returns c =
    let x = (goal.at.returns c).After-region_size in
    λ P D known placed.
    entries_of P D c.args.self.now c.args.map known.entries_are (inside x) (counted x P D known) (placed.begin c.args.map (rw known.maps_are c.requires.listed))
