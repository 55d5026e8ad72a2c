-- "Data sets": the four sections' bodies, what they hold, and the refusals 12 to 14.
use Rattle.std.specs.Prelude.{ℕ, zero, suc, ◌+◌, ◌-◌, ◌*◌, ◌/◌, ◌%◌, ◌^◌, Bool, get_or, length}
use Rattle.model.specs.Tests.{◌and◌, ◌or◌, non, any, every, pick, ◌=?◌, ◌<?◌, ◌≤?◌}
use Rattle.model.specs.Bytes.{Bytes, byte, u16, boundary, body}
use Rattle.model.specs.Outcomes.{require, ◌then◌, scan, Outcome}
use Rattle.model.specs.Partitions.{Partition, Map}
use Rattle.model.specs.Layout.{Plan, region_count, map_count, supplied_count, source, target, totality, supplied_region, supplied_flags}
use Rattle.model.specs.declared.Refusal.TheVariants.{InvalidData, InvalidEntry, InvalidPartition}

-- the bodies of the four sections
pub record DataSet : Type 0 where
  pub piece_count : Bytes
  pub sizes : Bytes
  pub entries : Bytes
  pub members : Bytes

-- the data set in the bytes d
abbrev pub data_of : Bytes → DataSet
data_of d =
    record {
      piece_count = body d 0;
      sizes = body d 1;
      entries = body d 2;
      members = body d 3;
    }

-- "65535 for none"
abbrev pub NONE : ℕ
NONE = 65535

module _ (D : DataSet) where
  -- N: "one byte"
  abbrev pub pieces : ℕ
  pieces = get_or D.piece_count 0 0

  -- "a u16 size per region"
  unfoldable pub size : ℕ → ℕ
  size r = u16 D.sizes (2 * r)

module _ (P : Plan) (D : DataSet) where
  -- "the maps in order, a u16 entry per source element": where map m's entries begin, and its entry for element k
  unfoldable pub entry_start : ℕ → ℕ
  entry_start zero = 0
  entry_start (suc m) = entry_start m + 2 * size D (source P m)

  unfoldable pub entry : ℕ → ℕ → ℕ
  entry m k = u16 D.entries (entry_start m + 2 * k)

  -- an entry as the range of the elements that it leads to, past not included: none leads to no element
  unfoldable pub low : ℕ → ℕ → ℕ
  low m k = entry m k

  unfoldable pub past : ℕ → ℕ → ℕ
  past m k = pick (entry m k =? NONE) (entry m k) (entry m k + 1)

  -- map m, over its source's elements
  unfoldable pub maps_to : ℕ → Map
  maps_to m k e = k <? size D (source P m) and low m k ≤? e and e <? past m k

  -- "each piece in (n + 7) div 8 bytes for a region of size n"
  unfoldable pub piece_bytes : ℕ → ℕ
  piece_bytes k = (size D (supplied_region P k) + 7) / 8

  -- "the supplied partitions in order, piece by piece"
  unfoldable pub member_start : ℕ → ℕ
  member_start zero = 0
  member_start (suc k) = member_start k + pieces D * piece_bytes k

  -- "one bit per element from element 0, highest bit first"
  unfoldable pub supplied_bit : ℕ → Partition
  supplied_bit k i e = byte D.members (member_start k + i * piece_bytes k + e / 8) / 2 ^ (7 - e % 8) % 2 =? 1

  -- supplied partition k, over the pieces and its region's elements
  unfoldable pub supplied : ℕ → Partition
  supplied k i e = i <? pieces D and e <? size D (supplied_region P k) and supplied_bit k i e

  -- Dangling: "entry not none and at or above the target's size, or none in a total map"
  unfoldable pub entry_fits : ℕ → ℕ → Bool
  entry_fits m k = pick (entry m k =? NONE) (totality P m =? 0) (entry m k <? size D (target P m))

  -- map m, entry by entry: the place is "map × 512 + element"
  unfoldable pub entries_check : ℕ → Outcome
  entries_check m = scan (λ k. require (entry_fits m k) (InvalidEntry (m * 512 + k))) 0 (size D (source P m))

  -- Untrue: "supplied partition breaks a declared flag or has a pad bit"
  unfoldable pub supplied_disjoint : ℕ → Bool
  supplied_disjoint k =
      every (size D (supplied_region P k)) (λ e. every (pieces D) (λ i. every i (λ j. non (supplied_bit k i e and supplied_bit k j e))))

  -- COMP: each element is in some piece
  unfoldable pub supplied_complete : ℕ → Bool
  supplied_complete k = every (size D (supplied_region P k)) (λ e. any (pieces D) (λ i. supplied_bit k i e))

  -- "pad bits 0": the bits of a piece's last byte behind the last element
  unfoldable pub pad_bits_clear : ℕ → Bool
  pad_bits_clear k =
      every (pieces D) (λ i. every (8 * piece_bytes k - size D (supplied_region P k))
      (λ b. non (supplied_bit k i (size D (supplied_region P k) + b))))

  -- the declared flags, 1 disjoint, 2 complete, 3 both, and the pad bits
  unfoldable pub declarations_hold : ℕ → Bool
  declarations_hold k =
      (non (supplied_flags P k =? 1 or supplied_flags P k =? 3) or supplied_disjoint k)
      and (non (supplied_flags P k =? 2 or supplied_flags P k =? 3) or supplied_complete k)
      and pad_bits_clear k

-- Misframed: "data set empty, edition, lengths, N or sizes wrong, or bytes left over"
unfoldable pub well_framed : Plan → Bytes → Bool
well_framed P d =
    1 ≤? length d and byte d 0 =? 1
    and every 4 (λ n. boundary d n + 2 ≤? length d and boundary d (suc n) ≤? length d)
    and length d =? boundary d 4
    and length (body d 0) =? 1 and 1 ≤? pieces (data_of d) and pieces (data_of d) ≤? 16
    and length (body d 1) =? 2 * region_count P and every (region_count P) (λ r. size (data_of d) r ≤? 512)
    and length (body d 2) =? entry_start P (data_of d) (map_count P)
    and length (body d 3) =? member_start P (data_of d) (supplied_count P)

-- "A data set fits a plan when it draws none of 12 to 14"
unfoldable pub data_check : Plan → Bytes → Outcome
data_check P d =
    require (well_framed P d) InvalidData
    then scan (entries_check P (data_of d)) 0 (map_count P)
    then scan (λ k. require (declarations_hold P (data_of d) k) (InvalidPartition k)) 0 (supplied_count P)
