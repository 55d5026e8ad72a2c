-- The starts of parts in a row, as a loop stores them, and that each part lies in the section that all of them fill; a map's entries there. Assumes nothing.
use Rattle.std.proofs.Common.{ℕ, suc, ◌+◌, ◌-◌, ◌*◌, ◌/◌, ◌≤◌, ◌<◌, ◌≡◌, List, length, get_or, set, drop, refl, ◌∙◌, add-one, length-take, length-drop, get_or-take, get_or-drop, arith}
use Rattle.std.specs.List.{slice_range}
use Rattle.model.specs.Bytes.{Bytes}
use Rattle.model.specs.Layout.{Plan, map_count, supplied_count, source}
use Rattle.model.specs.DataSets.{DataSet, size, entry_start, entry, member_start}
use Rattle.primitives.proofs.Filling.{entry_next}
use Rattle.dataset.specs.declared.layout.DataLayout.{DataLayout}
use Rattle.dataset.specs.Layout.{PartsPlaced, set_of}
use Rattle.dataset.specs.Entries.{EntriesReady, EntrySources, EntriesOf}
use Rattle.dataset.specs.Supplied.{SuppliedReady, SuppliedSources}
use Rattle.dataset.proofs.Framing.{grows}

module _ (start : ℕ → ℕ) where
  pub next_placed : (n width : ℕ) {starts : List ℕ} {end : ℕ} → n < length starts → PartsPlaced start n starts end → start (suc n) ≡ start n + width
      → PartsPlaced start (n + 1) (set starts n end) (end + width)
  next_placed n width {starts} {end} lt p h =
      record { begin = entry_next 0 (λ k v. v ≡ start k) starts n end lt p.begin p.end_is; end_is = rw (add-one n, h, p.end_is) }

module _ (P : Plan) (D : DataSet) where
  entry_start_grows : (m n : ℕ) → m ≤ n → entry_start P D m ≤ entry_start P D n
  unfolding entry_start
  entry_start_grows = grows (entry_start P D) (λ k. omega arith)

  member_start_grows : (m n : ℕ) → m ≤ n → member_start P D m ≤ member_start P D n
  unfolding member_start
  member_start_grows = grows (member_start P D) (λ k. omega arith)

-- the entries of a map lie in a section that the maps fill
pub entries_inside : {maps : Bytes} {layout : DataLayout} (m : ℕ) (ready : EntriesReady maps layout) → m < length maps / 3
    → get_or layout.entry_starts m 0 + 2 * size (set_of layout) (source ready.plan m) ≤ length layout.entries.now
unfolding entry_start
entries_inside {maps} {layout} m ready lt =
    let last = map_count ready.plan in
    let at : m < last = rw ready.maps_are lt in
    omega (arith, ready.placed.begin m at, ready.placed.end_is, entry_start_grows ready.plan (set_of layout) (suc m) last at)

-- an element of a part of a list, and the length of the part
pub in_part : {A : Type 0} (l : List A) (from to k : ℕ) (d : A) → from + k < to → get_or (slice_range l from to) k d ≡ get_or l (from + k) d
in_part l from to k d lt = let inside : k < to - from = omega arith in get_or-take (to - from) (drop from l) k d inside ∙ get_or-drop from l k d

pub part_long : {A : Type 0} (l : List A) (from to : ℕ) → from ≤ to → to ≤ length l → length (slice_range l from to) + from ≡ to
part_long l from to le inside = omega (arith, length-take (to - from) (drop from l), length-drop from l)

-- a part of the section, from where a map's entries begin and as long as they are
pub entries_of : (P : Plan) (D : DataSet) (layout : DataLayout) (map : ℕ) {start count : ℕ} → D.entries ≡ layout.entries.now
    → start + 2 * count ≤ length layout.entries.now → count ≡ size D (source P map) → start ≡ entry_start P D map
    → EntriesOf P D map (slice_range layout.entries.now start (start + 2 * count))
unfolding entry
entries_of P D layout map {start} {count} entries inside counted begins =
    let part = λ (k : ℕ). in_part layout.entries.now start (start + 2 * count) k 0 in
    record {
      long = omega (arith, counted, part_long layout.entries.now start (start + 2 * count));
      entry_at = λ k lt.
          let next : start + (2 * k + 1) ≡ start + 2 * k + 1 = omega arith in
          rw (part (2 * k) (omega (arith, counted)), part (2 * k + 1) (omega (arith, counted)), next, begins, entries);
    }

-- the members of a partition begin in a section that the partitions fill
pub members_inside : {supplied : Bytes} {layout : DataLayout} (k : ℕ) → SuppliedReady supplied layout → k < length supplied / 2
    → get_or layout.member_starts k 0 ≤ length layout.members.now
members_inside {supplied} {layout} k ready lt =
    let last = supplied_count ready.plan in
    let at : k < last = rw ready.supplied_are lt in
    omega (arith, ready.placed.begin k at, ready.placed.end_is, member_start_grows ready.plan (set_of layout) k last (omega arith))

-- the data set that a layout has is of its parts
pub own_entries : {P : Plan} {layout : DataLayout} → EntrySources P (set_of layout) P.maps layout
own_entries = record { maps_are = refl; sizes_are = refl; entries_are = refl }

pub own_members : {P : Plan} {layout : DataLayout} → SuppliedSources P (set_of layout) P.supplied layout
own_members = record { supplied_are = refl; pieces_are = refl; sizes_are = refl; members_are = refl }
