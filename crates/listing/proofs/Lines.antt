-- The line of an answer by its two cases: what it tells, or the refusal. Assumes nothing.
use mathlib.Core.Path.{◌≡◌, refl}
use mathlib.Core.List.{[], ◌∷◌, ◌++◌, append_assoc}
use Prim.Native.Nat.{ℕ}
use native.Mathlib.Omega.{arith}
use borrow.Author.Tests.{ne_eqb}
use Rattle.std.specs.Prelude.{Ok, Err, codes}
use Rattle.std.specs.Fmt.{decimal}
use Rattle.model.specs.Tests.{◌=?◌, pick}
use Rattle.model.specs.Answers.{refusal_report, report, written_report, charge_report}
use Rattle.model.specs.declared.Acceptance.{Acceptance}
use Rattle.model.specs.declared.Charge.{Charge}
use Rattle.model.specs.declared.Refusal.{Refusal}
use Rattle.model.proofs.Tests.{pick-false}
use Rattle.model.proofs.Answers.{number_in_table}
use Rattle.listing.specs.Text.{Text, spaced, numbers_text, refused_text, answer_text, explained_text, explanation_text, charge_text}

-- a word and three numbers, part by part
numbers_line : (word : Text) (first second third : ℕ) → numbers_text word first second third ≡ word ++ (32 ∷ (decimal first ++ (32 ∷ (decimal second ++ (32 ∷ (decimal third ++ (10 ∷ [])))))))
unfolding numbers_text spaced
numbers_line word first second third = simp append_assoc

pub accepted_numbers : (a : Acceptance) → answer_text (report (Ok a)) ≡ numbers_text (codes "accepted") a.symbols a.nodes a.steps
unfolding answer_text report pick ◌=?◌
accepted_numbers a = refl

pub charged_numbers : (c : Charge) → charge_text (charge_report (Ok c)) ≡ numbers_text (codes "charged") c.count c.cents c.remainder
unfolding charge_text charge_report pick ◌=?◌
charged_numbers c = refl

pub accepted_line : (a : Acceptance) → answer_text (report (Ok a)) ≡ codes "accepted" ++ (32 ∷ (decimal a.symbols ++ (32 ∷ (decimal a.nodes ++ (32 ∷ (decimal a.steps ++ (10 ∷ [])))))))
unfolding answer_text report pick ◌=?◌
accepted_line a = numbers_line _ _ _ _

pub explained_line : (n : ℕ) → explanation_text (written_report (Ok n)) ≡ explained_text n
unfolding explanation_text written_report pick ◌=?◌
explained_line n = refl

pub charged_line : (c : Charge) → charge_text (charge_report (Ok c)) ≡ codes "charged" ++ (32 ∷ (decimal c.count ++ (32 ∷ (decimal c.cents ++ (32 ∷ (decimal c.remainder ++ (10 ∷ [])))))))
unfolding charge_text charge_report pick ◌=?◌
charged_line c = numbers_line _ _ _ _

module _ (r : Refusal) where
  -- no refusal has number 0
  otherwise : {A : Type 0} (a b : A) → pick ((refusal_report r).number =? 0) a b ≡ b
  unfolding ◌=?◌
  otherwise a b = pick-false _ _ _ (ne_eqb _ _ (λ h. omega (arith, (number_in_table r).0)))

  pub refused_answer_line : answer_text (report (Err r)) ≡ refused_text (refusal_report r).number (refusal_report r).place
  unfolding answer_text report
  refused_answer_line = otherwise _ _

  pub refused_explanation_line : explanation_text (written_report (Err r)) ≡ refused_text (refusal_report r).number (refusal_report r).place
  unfolding explanation_text written_report
  refused_explanation_line = otherwise _ _

  pub refused_charge_line : charge_text (charge_report (Err r)) ≡ refused_text (refusal_report r).number (refusal_report r).place
  unfolding charge_text charge_report
  refused_charge_line = otherwise _ _
