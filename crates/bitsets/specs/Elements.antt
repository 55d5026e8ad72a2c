-- Sets of elements as the fills make them, from numbers, bytes and words alone.
use Rattle.std.specs.Prelude.{ℕ, ◌+◌, ◌-◌, ◌*◌, ◌/◌, ◌%◌, ◌≤◌, ◌<◌, ◌≡◌, List, length, get_or, Bool, false, refl}
use Rattle.model.specs.Tests.{Is, ◌and◌, ◌or◌, non, any, pick, ◌=?◌, ◌<?◌, ◌≤?◌}
use Rattle.model.specs.Bytes.{Bytes, byte, u16}
use Rattle.model.specs.Words.{bit, holds, word}

-- the elements below n
unfoldable pub up_to : ℕ → ℕ → Bool
up_to n e = e <? n

-- the elements from low up to, not including, high
unfoldable pub between : ℕ → ℕ → ℕ → Bool
between low high e = low ≤? e and e <? high

-- one element of a union, an intersection and a difference
abbrev pub union : Bool → Bool → Bool
union s t = s or t

abbrev pub intersection : Bool → Bool → Bool
intersection s t = s and t

abbrev pub difference : Bool → Bool → Bool
difference s t = s and non t

-- each has no element that neither set has
pub neither-union : union false false ≡ false
unfolding ◌or◌
neither-union = refl

pub neither-intersection : intersection false false ≡ false
unfolding ◌and◌
neither-intersection = refl

pub neither-difference : difference false false ≡ false
unfolding ◌and◌
neither-difference = refl

-- the bits of two words combined
unfoldable pub combined_bits : (Bool → Bool → Bool) → ℕ → ℕ → ℕ → Bool
combined_bits combination x y b = combination (bit x b) (bit y b)

-- the bits of eight bytes from a place on, the first byte's lowest; bytes past the end are 0
unfoldable pub bytes_bits : Bytes → ℕ → ℕ → Bool
bytes_bits s at b = bit (byte s (at + b / 8)) (b % 8)

-- places of bits: those of the mask change with the places so many higher
unfoldable pub exchanged : ℕ → ℕ → ℕ → ℕ
exchanged mask by b = pick (bit mask b) (b + by) (b - by)

unfoldable pub exchanged_bits : ℕ → ℕ → ℕ → ℕ → Bool
exchanged_bits mask by x b = bit x (exchanged mask by b)

-- the mask has the lower of each two places that change
pub record LowerPlaces (mask by : ℕ) : Type 0 where
  pub few : by < 64
  pub lowest : (b : ℕ) → b < by → Is (bit mask b)
  pub higher : (b : ℕ) → by ≤ b → b < 64 → bit mask b ≡ non (bit mask (b - by))

-- the bits of a word with each byte's in reverse order
unfoldable pub reversed_bits : ℕ → ℕ → Bool
reversed_bits x b = bit x (b / 8 * 8 + (7 - b % 8))

-- the number of one bit, and of no other
pub record OneBit (place n : ℕ) : Type 0 where
  pub its_bit : place < 64 → Is (bit n place)
  pub no_other : (b : ℕ) → Is (bit n b) → b ≡ place

-- a word of a piece
abbrev pub word_at : List ℕ → ℕ → ℕ
word_at piece w = get_or piece w 0

-- eight words of a set; spare ones may stand behind them
pub record PieceOf (elements : ℕ → Bool) (piece : List ℕ) : Type 0 where
  pub eight : 8 ≤ length piece
  pub word_is : (w : ℕ) → w < 8 → word_at piece w ≡ word elements w

-- the elements of a set that eight words hold
unfoldable pub masked : List ℕ → (ℕ → Bool) → ℕ → Bool
masked masks elements e = holds masks 0 e and elements e

-- a set made of two, as a union, an intersection or a difference is
unfoldable pub combined : (Bool → Bool → Bool) → (ℕ → Bool) → (ℕ → Bool) → ℕ → Bool
combined combination A B e = combination (A e) (B e)

-- the bytes of a piece, "one bit per element from element 0, highest bit first"
unfoldable pub supplied_elements : Bytes → ℕ → ℕ → Bool
supplied_elements members at e = bit (byte members (at + e / 8)) (7 - e % 8)

-- the entries of the first n elements of a set
unfoldable pub entries_of : ℕ → Bytes → ℕ → (ℕ → Bool) → ℕ → Bool
entries_of n entries start elements e = any n (λ k. elements k and u16 entries (start + 2 * k) =? e)

-- a set with the entries of the elements of a word
unfoldable pub adding_entries : Bytes → ℕ → ℕ → (ℕ → Bool) → ℕ → Bool
adding_entries entries start members elements e = elements e or entries_of 64 entries start (bit members) e

-- the first n elements whose entry is below the size and in a set
unfoldable pub leading_to : ℕ → Bytes → ℕ → ℕ → (ℕ → Bool) → ℕ → Bool
leading_to n entries start size elements k =
    k <? n and u16 entries (start + 2 * k) <? size and elements (u16 entries (start + 2 * k))

-- the places of a table whose element is in a set
unfoldable pub through : List ℕ → List ℕ → ℕ → Bool
through table set k = holds set 0 (get_or table k 0)
