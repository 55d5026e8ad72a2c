-- The layout of a data set: where its parts begin, and what reading it gives.
use Rattle.std.specs.Prelude.{ℕ, ◌*◌, ◌/◌, ◌≤◌, ◌<◌, ◌≡◌, List, [], ◌∷◌, get_or, length, Result, Ok, Err}
use Rattle.model.specs.Bytes.{Bytes, u16}
use Rattle.model.specs.Outcomes.{require, Outcome}
use Rattle.model.specs.Layout.{Plan, map_count, supplied_count}
use Rattle.model.specs.DataSets.{DataSet, data_of, pieces, entry_start, member_start, well_framed}
use Rattle.model.specs.declared.Refusal.{Refusal}
use Rattle.model.specs.declared.Refusal.TheVariants.{InvalidData}
use Rattle.dataset.specs.declared.layout.DataLayout.{DataLayout}

-- no more maps and supplied partitions than an accepted plan has
pub record FewDeclarations (maps supplied : Bytes) : Type 0 where
  pub few_maps : length maps / 3 ≤ 16
  pub few_supplied : length supplied / 2 ≤ 8

-- n parts in a row begin at these places of their section, and the last one ends at that one
pub record PartsPlaced (start : ℕ → ℕ) (n : ℕ) (starts : List ℕ) (end : ℕ) : Type 0 where
  pub begin : (k : ℕ) → k < n → get_or starts k 0 ≡ start k
  pub end_is : end ≡ start n

-- the data set whose parts a layout has
abbrev pub set_of : DataLayout → DataSet
set_of layout = record { piece_count = layout.pieces ∷ []; sizes = layout.sizes.now; entries = layout.entries.now; members = layout.members.now }

-- no region of it has more than 512 elements
abbrev pub SmallRegions : DataLayout → Type 0
SmallRegions layout = (region : ℕ) → u16 layout.sizes.now (2 * region) ≤ 512

module _ (P : Plan) where
  -- a plan of these sections
  pub record DeclarationSources (regions maps supplied : Bytes) : Type 0 where
    pub regions_are : P.regions ≡ regions
    pub maps_are : P.maps ≡ maps
    pub supplied_are : P.supplied ≡ supplied

  module _ (D : DataSet) where
    -- a plan and a data set of the sections that say where entries begin
    pub record EntryStartSources (maps sizes : Bytes) : Type 0 where
      pub maps_are : P.maps ≡ maps
      pub sizes_are : D.sizes ≡ sizes

    -- and of those that say where members begin, for N pieces
    pub record MemberStartSources (supplied : Bytes) (N : ℕ) (sizes : Bytes) : Type 0 where
      pub supplied_are : P.supplied ≡ supplied
      pub pieces_are : pieces D ≡ N
      pub sizes_are : D.sizes ≡ sizes

    module _ (layout : DataLayout) where
      -- the maps' entries begin where the layout says, and fill their section
      abbrev pub EntriesPlaced : Type 0
      EntriesPlaced = PartsPlaced (entry_start P D) (map_count P) layout.entry_starts (length layout.entries.now)

      -- and so do the supplied partitions' members
      abbrev pub MembersPlaced : Type 0
      MembersPlaced = PartsPlaced (member_start P D) (supplied_count P) layout.member_starts (length layout.members.now)

  -- refusal 12 of a data set
  abbrev pub frame_check : Bytes → Outcome
  frame_check d = require (well_framed P d) InvalidData

  module _ (d : Bytes) where
    -- the layout has the data set's parts, with entries and members where it says
    pub record DataPlaced (layout : DataLayout) : Type 0 where
      pub parts : set_of layout ≡ data_of d
      pub entries : EntriesPlaced (set_of layout) layout
      pub members : MembersPlaced (set_of layout) layout
      pub few_pieces : layout.pieces ≤ 16
      pub small_regions : SmallRegions layout

    -- what reading the layout gives
    pub record LaidOut (layout : DataLayout) : Type 0 where
      pub passes : frame_check d ≡ Ok tt
      pub placed : DataPlaced layout

    abbrev pub LayoutRead : Result DataLayout Refusal → Type 0
    LayoutRead (Ok layout) = LaidOut layout
    LayoutRead (Err r) = frame_check d ≡ Err r
