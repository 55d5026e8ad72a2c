-- Checks in a row: while every stage passed, what is left decides; the first refusal is that of the whole. Assumes nothing.
use mathlib.Core.Path.{◌≡◌, ap, ◌∙◌}
use Rattle.std.specs.Prelude.{Result, Ok, Err}
use Rattle.std.specs.Result.{IsErrAnd}
use Rattle.std.proofs.lemmas.Result.{err_from_is_err_and}
use mathlib.Core.Bool.{Bool, true, false}
use Rattle.model.specs.Outcomes.{require, ◌then◌, Outcome}
use Rattle.model.specs.declared.Refusal.{Refusal}

-- a test that must pass, and the next check after one
pub require_true : {b : Bool} (r : Refusal) → b ≡ true → require b r ≡ Ok tt
unfolding require
require_true r h = rw h

pub require_false : {b : Bool} (r : Refusal) → b ≡ false → require b r ≡ Err r
unfolding require
require_false r h = rw h

pub then_ok : {a : Outcome} (b : Outcome) → a ≡ Ok tt → (a then b) ≡ b
unfolding ◌then◌
then_ok b h = rw h

pub then_err : {a : Outcome} {r : Refusal} (b : Outcome) → a ≡ Err r → (a then b) ≡ Err r
unfolding ◌then◌
then_err b h = rw h

-- what `?` hands on is the refusal that it met
pub handed_on : {T : Type 0} (r : Result T Refusal) {e : Refusal} → IsErrAnd r (λ y. y ≡ e) → r ≡ Err e
handed_on r h = let p = err_from_is_err_and r h in p.1 ∙ ap (λ (y : Refusal). Err y) p.2

pub ruleset stages = (require_true, require_false, then_ok, then_err, handed_on)
