-- When a data set fits a plan, as a plain statement.
use Rattle.std.specs.Prelude.{ℕ, suc, ◌*◌, ◌≤◌, ◌<◌, ◌≡◌, ◌⊎◌, length}
use Rattle.model.specs.Tests.{Is}
use Rattle.model.specs.Bytes.{Bytes, byte, boundary, body}
use Rattle.model.specs.Partitions.{PairwiseDisjoint, Covering}
use Rattle.model.specs.Layout.{Plan, region_count, map_count, supplied_count, source, target, totality, supplied_region, supplied_flags}
use Rattle.model.specs.DataSets.{DataSet, data_of, pieces, size, entry_start, entry, piece_bytes, member_start, supplied_bit, supplied}

-- edition, lengths, N and sizes are right, and no bytes are left over
pub record WellFramed (P : Plan) (d : Bytes) : Type 0 where
  pub some_byte : 1 ≤ length d
  pub edition : byte d 0 ≡ 1
  pub sections_end : (n : ℕ) → n < 4 → boundary d (suc n) ≤ length d
  pub nothing_after : length d ≡ boundary d 4
  pub one_piece_count : length (body d 0) ≡ 1
  pub piece_count_lem : (1 ≤ pieces (data_of d)) × (pieces (data_of d) ≤ 16)
  pub size_each : length (body d 1) ≡ 2 * region_count P
  pub sizes : (r : ℕ) → r < region_count P → size (data_of d) r ≤ 512
  pub entry_each : length (body d 2) ≡ entry_start P (data_of d) (map_count P)
  pub member_bytes_lem : length (body d 3) ≡ member_start P (data_of d) (supplied_count P)

module _ (P : Plan) (D : DataSet) where
  -- element k of map m's source has element e as its entry, which is not none
  pub record PointsTo (m k e : ℕ) : Type 0 where
    pub from : k < size D (source P m)
    pub entry_is : entry P D m k ≡ e
    pub some : e ≡ 65535 → ⊥

  -- an entry is none, where the map is partial, or an element of the target
  abbrev pub EntryFits : ℕ → ℕ → Type 0
  EntryFits m k = ((entry P D m k ≡ 65535) × (totality P m ≡ 0)) ⊎ ((entry P D m k ≡ 65535 → ⊥) × (entry P D m k < size D (target P m)))

  -- the declared flags are true of the supplied sets, and pad bits are 0
  pub record DeclarationsHold (k : ℕ) : Type 0 where
    pub disjoint : (supplied_flags P k ≡ 1) ⊎ (supplied_flags P k ≡ 3) → PairwiseDisjoint (supplied P D k)
    pub complete :
        (supplied_flags P k ≡ 2) ⊎ (supplied_flags P k ≡ 3) → Covering (pieces D) (size D (supplied_region P k)) (supplied P D k)
    pub pad_bits :
        (i e : ℕ) → i < pieces D → size D (supplied_region P k) ≤ e → e < 8 * piece_bytes P D k → Is (supplied_bit P D k i e) → ⊥

-- "A data set fits a plan"
pub record Fits (P : Plan) (d : Bytes) : Type 0 where
  pub frame : WellFramed P d
  pub entries : (m k : ℕ) → m < map_count P → k < size (data_of d) (source P m) → EntryFits P (data_of d) m k
  pub supplied : (k : ℕ) → k < supplied_count P → DeclarationsHold P (data_of d) k
