-- The elements of a set whose entry is a given element. The set is eight words, and element k's entry two bytes from place 2 * k on.
use Rattle.std.specs.Prelude.{ℕ, ◌+◌, ◌*◌, ◌/◌, ◌≤◌, ◌<◌, ◌≡◌, Bool, false, List, length, Option, Some, None}
use Rattle.model.specs.Tests.{Is, ◌and◌, ◌=?◌, first}
use Rattle.model.specs.Bytes.{Bytes, u16}
use Rattle.model.specs.Words.{bit, holds}

-- the first of n numbers that passes a test; none where none does
abbrev pub FirstOf : (ℕ → Bool) → ℕ → Option ℕ → Type 0
FirstOf test n (Some k) = (k < n) × (k ≡ first test 0 n)
FirstOf test n None = first test 0 n ≡ n

-- member b of a word has this element as its entry
unfoldable pub bit_leads_to : ℕ → Bytes → ℕ → ℕ → Bool
bit_leads_to members entries element b = bit members b and u16 entries (2 * b) =? element

-- so does element k of the set
unfoldable pub leads_to : List ℕ → Bytes → ℕ → ℕ → Bool
leads_to set entries element k = holds set 0 k and u16 entries (2 * k) =? element

-- the entries of a word's members are there
abbrev pub WordRoom : ℕ → Bytes → Type 0
WordRoom members entries = (b : ℕ) → b < 64 → Is (bit members b) → 2 * b + 2 ≤ length entries

-- so are those of the set's
pub record SourcesRoom (set : List ℕ) (entries : Bytes) : Type 0 where
  pub eight : 8 ≤ length set
  pub few : length entries ≤ 1024
  pub none_past : (k : ℕ) → length entries / 2 ≤ k → k < 512 → holds set 0 k ≡ false
