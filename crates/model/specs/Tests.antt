-- Tests that compute. A test is a Bool, and `Is` says that it passes. The laws are in proofs/Tests.
use Rattle.std.specs.Prelude.{ℕ, zero, suc, ◌≡◌, Bool, true, false, not, ◌&&◌, ◌||◌, eqb, ltb, leb}

infix 50 ◌=?◌
infix 50 ◌<?◌
infix 50 ◌≤?◌
infixr 40 ◌and◌
infixr 35 ◌or◌
-- the test passes
abbrev pub Is : Bool → Type 0
Is b = b ≡ true

-- both
unfoldable pub ◌and◌ : Bool → Bool → Bool
a and b = a && b

-- one of the two
unfoldable pub ◌or◌ : Bool → Bool → Bool
a or b = a || b

-- not
unfoldable pub non : Bool → Bool
non a = not a

-- equal
unfoldable pub ◌=?◌ : ℕ → ℕ → Bool
a =? b = eqb a b

-- less
unfoldable pub ◌<?◌ : ℕ → ℕ → Bool
a <? b = ltb a b

-- less or equal
unfoldable pub ◌≤?◌ : ℕ → ℕ → Bool
a ≤? b = leb a b

-- some number below n passes
unfoldable pub any : ℕ → (ℕ → Bool) → Bool
any zero test = false
any (suc n) test = any n test or test n

-- each number below n passes
unfoldable pub every : ℕ → (ℕ → Bool) → Bool
every zero test = true
every (suc n) test = every n test and test n

-- one of two values, by a test
unfoldable pub pick : {A : Type 0} → Bool → A → A → A
pick true a b = a
pick false a b = b

-- the first of the n numbers from k on that passes; k + n where none does
unfoldable pub first : (ℕ → Bool) → ℕ → ℕ → ℕ
first test k zero = k
first test k (suc n) = let rest = first test (suc k) n in pick (test k) k rest
