-- Plans and data sets written: the bytes of "The plan's bytes" and of "Data sets" from the numbers that they hold, and the limits of those
-- numbers, each written here again from the paper.
use Rattle.std.specs.Prelude.{ℕ, zero, suc, ◌+◌, ◌-◌, ◌*◌, ◌/◌, ◌%◌, ◌≤◌, ◌<◌, ◌≡◌, Bool, false, List, [], ◌∷◌, ◌++◌, map, get_or, length}
use Rattle.model.specs.Bytes.{Bytes, byte}
use Rattle.model.specs.Words.{from_bits}
use Rattle.model.specs.Layout.{Plan, region_count, map_count, supplied_count, source, supplied_region}

-- lists one after the other
abbrev pub concatenation : {A : Type 0} → List (List A) → List A
concatenation [] = []
concatenation (list ∷ lists) = list ++ concatenation lists

-- the values at the numbers below n, in order
abbrev pub tabulate : {A : Type 0} → ℕ → (ℕ → A) → List A
tabulate zero value = []
tabulate (suc n) value = value 0 ∷ tabulate n (λ k. value (suc k))

-- numbers that fit a byte each
abbrev pub Octets : Bytes → Type 0
Octets s = (at : ℕ) → byte s at < 256

-- "All multi-byte numbers are big-endian"
abbrev pub u16_bytes : ℕ → Bytes
u16_bytes n = n / 256 ∷ n % 256 ∷ []

-- "a u16 length, then a body"
abbrev pub section : Bytes → Bytes
section body = u16_bytes (length body) ++ body

-- an edition byte, then the sections in order: the frame of plans and of data sets
abbrev pub framed_bytes : ℕ → List Bytes → Bytes
framed_bytes edition bodies = edition ∷ concatenation (map section bodies)

-- the seven sections of a plan: "fixed-width records, numbered from 0", each the list of its numbers
pub record PlanRecords : Type 0 where
  pub regions : List (List ℕ)
  pub maps : List (List ℕ)
  pub supplied : List (List ℕ)
  pub statements : List (List ℕ)
  pub nodes : List (List ℕ)
  pub assignments : List (List ℕ)
  pub steps : List (List ℕ)

-- the sections' bodies, and the bytes of a plan with these records
abbrev pub plan_bodies : PlanRecords → List Bytes
plan_bodies R =
    concatenation R.regions ∷ concatenation R.maps ∷ concatenation R.supplied ∷ concatenation R.statements
    ∷ concatenation R.nodes ∷ concatenation R.assignments ∷ concatenation R.steps ∷ []

abbrev pub plan_bytes : ℕ → PlanRecords → Bytes
plan_bytes edition R = framed_bytes edition (plan_bodies R)

-- number c of record r
abbrev pub cell : List (List ℕ) → ℕ → ℕ → ℕ
cell records r c = get_or (get_or records r []) c 0

-- records of one width in bytes, and how many there may be
pub record RecordsWithin (width least most : ℕ) (records : List (List ℕ)) : Type 0 where
  pub at_least : least ≤ length records
  pub at_most : length records ≤ most
  pub widths : (r : ℕ) → r < length records → length (get_or records r []) ≡ width
  pub octets : (r : ℕ) → Octets (get_or records r [])

-- the table of sections: "record bytes", "least 1" of the regions, and "most" of each
pub record PlanWithinLimits (R : PlanRecords) : Type 0 where
  pub regions : RecordsWithin 1 1 16 R.regions
  pub maps : RecordsWithin 3 0 16 R.maps
  pub supplied : RecordsWithin 2 0 8 R.supplied
  pub statements : RecordsWithin 4 0 64 R.statements
  pub nodes : RecordsWithin 4 0 48 R.nodes
  pub assignments : RecordsWithin 1 0 64 R.assignments
  pub steps : RecordsWithin 5 0 128 R.steps

-- what a data set holds: N, the regions' sizes, each map's entries, and of each piece of each supplied partition, whether each element is in it
pub record DataContents : Type 0 where
  pub piece_count : ℕ
  pub sizes : List ℕ
  pub entries : List (List ℕ)
  pub members : List (List (List Bool))

-- "each piece in (n + 7) div 8 bytes .., one bit per element from element 0, highest bit first, pad bits 0": bit b of byte q is of element
-- q * 8 + (7 - b)
abbrev pub member_bytes : List Bool → Bytes
member_bytes elements =
    tabulate ((length elements + 7) / 8) (λ q. from_bits 8 (λ b. get_or elements (q * 8 + (7 - b)) false))

-- "piece by piece"
abbrev pub partition_bytes : List (List Bool) → Bytes
partition_bytes pieces = concatenation (map member_bytes pieces)

-- the sections' bodies, and the bytes of a data set with these contents
abbrev pub data_bodies : DataContents → List Bytes
data_bodies C =
    (C.piece_count ∷ [])
    ∷ concatenation (map u16_bytes C.sizes)
    ∷ concatenation (map u16_bytes (concatenation C.entries))
    ∷ concatenation (map partition_bytes C.members)
    ∷ []

abbrev pub data_bytes : ℕ → DataContents → Bytes
data_bytes edition C = framed_bytes edition (data_bodies C)

-- contents that suit the plan: N "1 to 16"; "a u16 size per region, 0 to 512"; "a u16 entry per source element"; for each supplied partition
-- N pieces, "one bit per element"
pub record ContentsWithinLimits (P : Plan) (C : DataContents) : Type 0 where
  pub some_piece : 1 ≤ C.piece_count
  pub few_pieces : C.piece_count ≤ 16
  pub size_each : length C.sizes ≡ region_count P
  pub sizes : (r : ℕ) → get_or C.sizes r 0 ≤ 512
  pub map_each : length C.entries ≡ map_count P
  pub entry_each : (m : ℕ) → m < map_count P → length (get_or C.entries m []) ≡ get_or C.sizes (source P m) 0
  pub entries : (m k : ℕ) → cell C.entries m k < 65536
  pub partition_each : length C.members ≡ supplied_count P
  pub piece_each : (k : ℕ) → k < supplied_count P → length (get_or C.members k []) ≡ C.piece_count
  pub element_each :
      (k i : ℕ) → k < supplied_count P → i < C.piece_count →
      length (get_or (get_or C.members k []) i []) ≡ get_or C.sizes (supplied_region P k) 0
