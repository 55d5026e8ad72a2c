-- The entries of a data set's maps: of one map, as numbers, and of all.
use Rattle.std.specs.Prelude.{ℕ, ◌+◌, ◌*◌, ◌/◌, ◌≤◌, ◌<◌, ◌≡◌, Bool, length}
use Rattle.model.specs.Tests.{every, pick, ◌=?◌, ◌<?◌}
use Rattle.model.specs.Bytes.{Bytes, u16}
use Rattle.model.specs.Outcomes.{require, scan, Outcome}
use Rattle.model.specs.Layout.{Plan, map_count, source}
use Rattle.model.specs.DataSets.{DataSet, NONE, size, entry, entries_check}
use Rattle.model.specs.declared.Refusal.TheVariants.{InvalidEntry}
use Rattle.dataset.specs.declared.layout.DataLayout.{DataLayout}
use Rattle.dataset.specs.Layout.{set_of, EntriesPlaced}

-- the entries of one map
pub record EntriesOf (P : Plan) (D : DataSet) (map : ℕ) (entries : Bytes) : Type 0 where
  pub long : length entries ≡ 2 * size D (source P map)
  pub entry_at : (k : ℕ) → k < size D (source P map) → u16 entries (2 * k) ≡ entry P D map k

-- whether an entry leads below the limit, or is none where the map is partial
abbrev pub entry_fitting : ℕ → Bool → ℕ → Bool
entry_fitting limit partial entry = pick (entry =? NONE) partial (entry <? limit)

module _ (entries : Bytes) (limit : ℕ) (partial : Bool) where
  -- whether entry k of the entries of one map does
  abbrev pub entry_fits_at : ℕ → Bool
  entry_fits_at k = entry_fitting limit partial (u16 entries (2 * k))

  abbrev pub entries_fitting : Bool
  entries_fitting = every (length entries / 2) entry_fits_at

  -- their check
  abbrev pub entries_from : ℕ → Outcome
  entries_from m = scan (λ k. require (entry_fits_at k) (InvalidEntry (m * 512 + k))) 0 (length entries / 2)

-- refusal 13 of a data set
abbrev pub all_entries : Plan → DataSet → Outcome
all_entries P D = scan (entries_check P D) 0 (map_count P)

-- a plan of these maps, and a data set of the layout's sizes and entries, whatever else it has
pub record EntrySources (P : Plan) (D : DataSet) (maps : Bytes) (layout : DataLayout) : Type 0 where
  pub maps_are : P.maps ≡ maps
  pub sizes_are : D.sizes ≡ layout.sizes.now
  pub entries_are : D.entries ≡ layout.entries.now

-- the entries of all maps can be read: they lie in their section, where the layout says
pub record EntriesReady (maps : Bytes) (layout : DataLayout) : Type 0 where
  pub few_maps : length maps / 3 ≤ 16
  pub plan : Plan
  pub maps_are : plan.maps ≡ maps
  pub placed : EntriesPlaced plan (set_of layout) layout
