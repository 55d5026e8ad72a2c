-- Bytes of a plan or a data set.
use Rattle.std.specs.Prelude.{ℕ, zero, suc, ◌+◌, ◌-◌, ◌*◌, List, get_or, take, drop}

-- a file as the list of its bytes
abbrev pub Bytes : Type 0
Bytes = List ℕ

-- the byte at a place; 0 past the end
abbrev pub byte : Bytes → ℕ → ℕ
byte s at = get_or s at 0

-- "All multi-byte numbers are big-endian"
abbrev pub u16 : Bytes → ℕ → ℕ
u16 s at = get_or s at 0 * 256 + get_or s (at + 1) 0

-- the bytes from a up to, not including, e
abbrev pub part : Bytes → ℕ → ℕ → Bytes
part s a e = take (e - a) (drop a s)

-- the place after n sections, each "a u16 length, then a body", behind the edition byte
unfoldable pub boundary : Bytes → ℕ → ℕ
boundary s zero = 1
boundary s (suc n) = boundary s n + 2 + u16 s (boundary s n)

-- the body of the section that stands after n others
unfoldable pub body : Bytes → ℕ → Bytes
body s n = part s (boundary s n + 2) (boundary s (suc n))
