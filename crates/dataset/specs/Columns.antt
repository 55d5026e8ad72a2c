-- Supplied members by columns of words: eight bytes of each piece, so 64 elements at once.
use Rattle.std.specs.Prelude.{ℕ, zero, suc, ◌+◌, ◌*◌, ◌/◌, Bool}
use Rattle.std.specs.Int.Bits.{bit_and, bit_or}
use Rattle.model.specs.Tests.{◌and◌, ◌or◌, non, every, ◌=?◌}
use Rattle.model.specs.Bytes.{Bytes}
use Rattle.model.specs.Words.{from_bits, word}
use Rattle.bitsets.specs.Elements.{up_to, between, bytes_bits, reversed_bits}
use Rattle.dataset.specs.declared.supplied.Column.{Column}

-- the bits in some of the first n words
unfoldable pub united : (ℕ → ℕ) → ℕ → ℕ
united words zero = 0
united words (suc n) = bit_or (united words n) (words n)

-- the bits in two of them
unfoldable pub repeated : (ℕ → ℕ) → ℕ → ℕ
repeated words zero = 0
repeated words (suc n) = bit_or (repeated words n) (bit_and (united words n) (words n))

-- the bytes of piece i in column c, of pieces of so many bytes
abbrev pub piece_word : Bytes → ℕ → ℕ → ℕ → ℕ
piece_word members width c i = from_bits 64 (bytes_bits members (i * width + 8 * c))

-- the elements in some of the first n pieces, and those in two; each byte has its highest bit first
abbrev pub column_of : (ℕ → ℕ) → ℕ → Column
column_of words n =
    record { seen = from_bits 64 (reversed_bits (united words n)); repeated = from_bits 64 (reversed_bits (repeated words n)) }

-- a column keeps the flags: no element in two pieces, no element missing, no bit behind the last element
abbrev pub column_keeps_flags : Bool → Bool → ℕ → ℕ → Column → Bool
column_keeps_flags disjoint complete size c bits =
    (non disjoint or bit_and bits.repeated (word (up_to size) c) =? 0)
    and (non complete or bit_and bits.seen (word (up_to size) c) =? word (up_to size) c)
    and bit_and bits.seen (word (between size (8 * ((size + 7) / 8))) c) =? 0

-- each column does, of the pieces of a region of so many elements
abbrev pub column_at : Bytes → ℕ → ℕ → Bool → Bool → ℕ → Bool
column_at members size pieces disjoint complete c =
    column_keeps_flags disjoint complete size c (column_of (piece_word members ((size + 7) / 8) c) pieces)

abbrev pub columns_keep_flags : Bytes → ℕ → ℕ → Bool → Bool → Bool
columns_keep_flags members size pieces disjoint complete = every ((size + 63) / 64) (column_at members size pieces disjoint complete)
