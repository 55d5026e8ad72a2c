-- What the operators on one piece ask of the places they read and write.
use Rattle.std.specs.Prelude.{ℕ, ◌+◌, ◌*◌, ◌≤◌, ◌<◌, ◌^◌, min, ◌≡◌, Bool, false, List, length, get_or}
use Rattle.model.specs.Tests.{Is}
use Rattle.model.specs.Bytes.{u16}
use Rattle.model.specs.Words.{bit, holds}
use Rattle.bitsets.specs.Elements.{masked, adding_entries, through, PieceOf}

-- a word without an element
abbrev pub no_word : ℕ → ℕ
no_word w = 0

-- a range of elements written
pub record RangeRoom (words : List ℕ) (at low high : ℕ) : Type 0 where
  pub room : at + 8 ≤ length words
  pub low_inside : low ≤ 512
  pub high_inside : high ≤ 512

-- eight of a piece's bytes, all of them inside where that is said
pub record PieceBytesRoom (members : List ℕ) (at : ℕ) (inside : Bool) : Type 0 where
  pub near : at < 2 ^ 32
  pub there : Is inside → at + 8 ≤ length members

-- a piece made from two others
pub record CombinedPieceRoom (left right : List ℕ) (at : ℕ) : Type 0 where
  pub left_there : at + 8 ≤ length left
  pub right_there : at + 8 ≤ length right

-- the entries of a word's elements are there
pub record EntriesRoom (entries : List ℕ) (start members : ℕ) : Type 0 where
  pub inside : (b : ℕ) → b < 64 → Is (bit members b) → start + 2 * b + 2 ≤ length entries

-- a set's words, and a spare one for entries that lead to no element
pub record SetOf (elements : ℕ → Bool) (words : List ℕ) : Type 0 where
  pub nine : length words ≡ 9
  pub small : (i : ℕ) → i < 9 → get_or words i 0 < 2 ^ 64
  pub holds_is : (e : ℕ) → e < 512 → holds words 0 e ≡ elements e

-- the entries of a word's elements are added
abbrev pub EntriesAdded : List ℕ → ℕ → ℕ → List ℕ → List ℕ → Type 0
EntriesAdded entries start members old new = (elements : ℕ → Bool) → SetOf elements old → SetOf (adding_entries entries start members elements) new

-- the image of a piece within a mask, whose elements have entries
pub record ImagePieceRoom (operand entries masks : List ℕ) (at : ℕ) : Type 0 where
  pub room : at + 8 ≤ length operand
  pub inside : (k : ℕ) → k < 512 → Is (holds masks 0 k) → 2 * k + 2 ≤ length entries

-- the elements that a map's entries lead to, one after the other; 512 for none, and behind the last entry
pub record TargetsTable (entries : List ℕ) (count : ℕ) (table : List ℕ) : Type 0 where
  pub all : length table ≡ 512
  pub target_is : (k : ℕ) → k < count → get_or table k 0 ≡ min (u16 entries (2 * k)) 512
  pub rest : (k : ℕ) → count ≤ k → k < 512 → get_or table k 0 ≡ 512

-- the elements of a piece within a mask, element 512 not among them
pub record OperandSet (operand masks : List ℕ) (at : ℕ) (set : List ℕ) : Type 0 where
  pub nine : length set ≡ 9
  pub holds_is : (e : ℕ) → e < 512 → holds set 0 e ≡ masked masks (holds operand at) e
  pub spare : holds set 0 512 ≡ false

-- a table of elements, 512 for none
abbrev pub ElementsTable : List ℕ → Type 0
ElementsTable table = (k : ℕ) → k < 512 → get_or table k 0 ≤ 512

-- and none from the count on
pub record TargetsRoom (table : List ℕ) (count : ℕ) : Type 0 where
  pub few_elements : count ≤ 512
  pub small : ElementsTable table
  pub rest : (k : ℕ) → count ≤ k → k < 512 → get_or table k 0 ≡ 512

-- a table of elements, and a set that has none of those from the count on
pub record PreimagePieceRoom (table set : List ℕ) (count : ℕ) : Type 0 where
  pub small : ElementsTable table
  pub few_elements : count ≤ 512
  pub past : (k : ℕ) → count ≤ k → k < 512 → through table set k ≡ false

-- the places whose element, by a table, is in the set of a piece within a mask
pub record PreimagePieceOf (operand masks table : List ℕ) (at : ℕ) (piece : List ℕ) : Type 0 where
  pub set : List ℕ
  pub held : OperandSet operand masks at set
  pub places : PieceOf (through table set) piece
