-- "The first met is given": checks in a row.
use Rattle.std.specs.Prelude.{ℕ, zero, suc, Bool, true, false, ⊤, Result, Ok, Err}
use Rattle.model.specs.declared.Refusal.{Refusal}
use Rattle.model.specs.declared.Acceptance.{Acceptance}
use Rattle.model.specs.declared.Charge.{Charge}

-- what one check of several says
abbrev pub Outcome : Type 0
Outcome = Result ⊤ Refusal

-- what checking and evaluating answer
abbrev pub Answer : Type 0
Answer = Result Acceptance Refusal

-- what an entry point that writes a list answers: how long the list is
abbrev pub Written : Type 0
Written = Result ℕ Refusal

-- what charging answers
abbrev pub Charged : Type 0
Charged = Result Charge Refusal

infixr 20 ◌then◌
-- a test that must pass
unfoldable pub require : Bool → Refusal → Outcome
require true r = Ok tt
require false r = Err r

-- a check, and after a pass the next
unfoldable pub ◌then◌ : Outcome → Outcome → Outcome
(Ok _) then next = next
(Err r) then next = Err r

-- the check of n records, from record k on
unfoldable pub scan : (ℕ → Outcome) → ℕ → ℕ → Outcome
scan check k zero = Ok tt
scan check k (suc n) = let rest = scan check (suc k) n in check k then rest

-- what is answered after the last check
unfoldable pub conclude : {A : Type 0} → Outcome → A → Result A Refusal
conclude (Ok _) answer = Ok answer
conclude (Err r) answer = Err r
