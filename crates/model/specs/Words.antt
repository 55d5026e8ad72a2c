-- Sets of elements as 64-bit words: "element e is bit e mod 64 (value 2 to that power) of word e div 64".
use Rattle.std.specs.Prelude.{ℕ, zero, suc, ◌+◌, ◌*◌, ◌/◌, ◌%◌, ◌^◌, Bool, true, false, List, get_or, set, Ok, Err}
use Rattle.model.specs.Outcomes.{Written}
use Rattle.model.specs.Tests.{◌=?◌}

-- bit b of the number w
unfoldable pub bit : ℕ → ℕ → Bool
bit w b = w / 2 ^ b % 2 =? 1

-- whether the set whose words stand from `at` on holds element e
unfoldable pub holds : List ℕ → ℕ → ℕ → Bool
holds words at e = bit (get_or words (at + e / 64) 0) (e % 64)

-- a bit as a number
abbrev pub digit : Bool → ℕ
digit true = 1
digit false = 0

-- the number of n bits whose bit b is `bits b`
unfoldable pub from_bits : ℕ → (ℕ → Bool) → ℕ
from_bits zero bits = 0
from_bits (suc n) bits = from_bits n (λ b. bits (suc b)) * 2 + digit (bits 0)

-- word w of a set: its elements w * 64 to w * 64 + 63
unfoldable pub word : (ℕ → Bool) → ℕ → ℕ
word elements w = from_bits 64 (λ b. elements (w * 64 + b))

-- the words with n of them, from `at` on, replaced: value 0, value 1, ..
unfoldable pub store : List ℕ → ℕ → ℕ → (ℕ → ℕ) → List ℕ
store words at zero value = words
store words at (suc n) value = set (store words at n value) (at + n) (value n)

-- a lent list after an answer: the values up to the length written, the rest as before; "a refusal changes none of it"
unfoldable pub list_after : (ℕ → ℕ) → List ℕ → Written → List ℕ
list_after value old (Ok n) = store old 0 n value
list_after value old (Err r) = old
