-- How much of a buffer a read filled.
use Rattle.std.specs.Prelude.{◌≡◌, ℕ, ◌≤◌, List, length, take}

-- `&bytes[..n]` is in bounds and has n bytes; the second part follows from the first, and spares a caller a proof
abbrev pub IsPrefixLen : ℕ → List ℕ → Type 0
IsPrefixLen n bytes = (n ≤ length bytes) × (n ≡ length (take n bytes))
