-- The pieces that the fills make, from numbers, bytes and words alone, and the places they need.
use Rattle.std.specs.Prelude.{ℕ, ◌+◌, ◌*◌, ◌/◌, ◌%◌, ◌≤◌, ◌<◌, ◌≡◌, Bool, List, length, get_or}
use Rattle.model.specs.Tests.{◌and◌, ◌<?◌}
use Rattle.model.specs.Bytes.{Bytes}
use Rattle.model.specs.Partitions.{Partition, equal_start}
use Rattle.model.specs.Words.{holds, word}
use Rattle.bitsets.specs.Elements.{between, combined, word_at, supplied_elements, entries_of, leading_to}
use Rattle.subregions.specs.declared.Span.{Span}

-- eight words for each piece: word w of all of them
unfoldable pub piece_words : Partition → ℕ → ℕ
piece_words partition w = word (partition (w / 8)) (w % 8)

-- the pieces from one of them on
abbrev pub pieces_from : ℕ → Partition → Partition
pieces_from first partition i = partition (first + i)

-- the first n pieces of some words are made, and the words behind them are as they were
pub record PiecesMade (made : ℕ → List ℕ → Type 0) (old : List ℕ) (n : ℕ) (new : List ℕ) : Type 0 where
  pub as_long : length new ≡ length old
  pub piece : (i : ℕ) → i < n → (r : List ℕ) × made i r × ((w : ℕ) → w < 8 → get_or new (i * 8 + w) 0 ≡ word_at r w)
  pub rest : (k : ℕ) → n * 8 ≤ k → get_or new k 0 ≡ get_or old k 0

unfoldable pub supplied_pieces : Bytes → ℕ → Partition
supplied_pieces members size i e = e <? size and supplied_elements members (i * ((size + 7) / 8)) e

unfoldable pub equal_pieces : ℕ → ℕ → Partition
equal_pieces size pieces i = between (equal_start pieces size i) (equal_start pieces size (i + 1))

unfoldable pub combined_pieces : List ℕ → List ℕ → (Bool → Bool → Bool) → ℕ → Partition
combined_pieces left right combination size i e = e <? size and combined combination (holds left (i * 8)) (holds right (i * 8)) e

unfoldable pub image_pieces : List ℕ → Bytes → ℕ → Partition
image_pieces operand entries elements i = entries_of elements entries 0 (holds operand (i * 8))

unfoldable pub preimage_pieces : List ℕ → Bytes → ℕ → ℕ → Partition
preimage_pieces operand entries elements size i = leading_to elements entries 0 size (holds operand (i * 8))

pub record SuppliedRoom (words : List ℕ) (size : ℕ) (span : Span) : Type 0 where
  pub few_pieces : span.first + span.count ≤ 16
  pub few_elements : size ≤ 512
  pub room : span.count * 8 ≤ length words

pub record EqualRoom (words : List ℕ) (size : ℕ) (span : Span) : Type 0 where
  pub some_piece : 1 ≤ span.pieces
  pub few_pieces : span.pieces ≤ 16
  pub pieces_listed : span.first + span.count ≤ span.pieces
  pub few_elements : size ≤ 512
  pub room : span.count * 8 ≤ length words

pub record CombinedRoom (words left right : List ℕ) (count : ℕ) : Type 0 where
  pub room : count * 8 ≤ length words
  pub left_there : count * 8 ≤ length left
  pub right_there : count * 8 ≤ length right

pub record ImageRoom (words operand entries : List ℕ) (elements count : ℕ) : Type 0 where
  pub room : count * 8 ≤ length words
  pub operand_there : count * 8 ≤ length operand
  pub few_elements : elements ≤ 512
  pub entries_there : 2 * elements ≤ length entries

pub record PreimageRoom (words operand entries : List ℕ) (elements size count : ℕ) : Type 0 where
  pub room : count * 8 ≤ length words
  pub operand_there : count * 8 ≤ length operand
  pub few_elements : elements ≤ 512
  pub few_targets : size ≤ 512
  pub entries_there : 2 * elements ≤ length entries
