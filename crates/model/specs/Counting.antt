-- Counting: how many elements, and how many one bits of words.
use Rattle.std.specs.Prelude.{ℕ, zero, suc, ◌+◌, Bool, List, get_or}
use Rattle.model.specs.Tests.{◌and◌, non}
use Rattle.model.specs.Words.{bit, digit, from_bits}

-- how many numbers below n pass
unfoldable pub count : ℕ → (ℕ → Bool) → ℕ
count zero test = 0
count (suc n) test = count n test + digit (test n)

-- the values at the numbers below n, added up
unfoldable pub sum : ℕ → (ℕ → ℕ) → ℕ
sum zero value = 0
sum (suc n) value = sum n value + value n

-- the number of one bits in a word
unfoldable pub ones : ℕ → ℕ
ones w = count 64 (bit w)

-- the bits of a word that another lacks
unfoldable pub without : ℕ → ℕ → ℕ
without v w = from_bits 64 (λ b. bit v b and non (bit w b))

-- the number of one bits in a set's eight words, from `at` on, that those from `from` on lack
unfoldable pub ones_lacking : List ℕ → ℕ → ℕ → ℕ
ones_lacking words at from = sum 8 (λ w. ones (without (get_or words (at + w) 0) (get_or words (from + w) 0)))
