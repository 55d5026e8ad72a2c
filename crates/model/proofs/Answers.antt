-- No value of an answer is free: what it tells determines it. Assumes nothing.
use Prim.Native.Nat.{ℕ, zero, suc, ◌≤◌, ◌<◌}
use mathlib.Core.Path.{◌≡◌, refl, sym, ◌∙◌, ap, ap₂}
use mathlib.Core.Logic.{inl, inr}
use mathlib.Core.List.{List, [], ◌∷◌, map}
use native.Mathlib.Omega.{arith}
use lib.ListN.{get_or, get_or-eq_default}
use Rattle.std.specs.Prelude.{Ok, Err}
use Rattle.model.specs.Outcomes.{Outcome, Answer, Written, Charged}
use Rattle.model.specs.Tests.{◌<?◌}
use Rattle.model.specs.Answers.{refusal, refusal_report, report, written_report, charge_report}
use Rattle.model.specs.declared.Refusal.{Refusal}
use Rattle.model.specs.declared.Refusal.TheVariants.{Truncated, UnknownEdition, TrailingBytes, InvalidLength, InvalidRecord, RegionMismatch, DuplicateNode, NotParallelizable, AssignmentCount, UnlicensedStep, UnmetNeed, InvalidData, InvalidEntry, InvalidPartition, OutputTooSmall, NotFound, InvalidCharge}
use Rattle.model.proofs.Tests.{split, lacks, less, less! }

-- the refusals in the order of their numbers, each by its place
unfoldable refusals : List (ℕ → Refusal)
refusals =
    Truncated ∷ (λ p. UnknownEdition) ∷ TrailingBytes ∷ InvalidLength ∷ InvalidRecord ∷ RegionMismatch ∷ DuplicateNode ∷ NotParallelizable ∷
    AssignmentCount ∷ UnlicensedStep ∷ UnmetNeed ∷ (λ p. InvalidData) ∷ InvalidEntry ∷ InvalidPartition ∷ OutputTooSmall ∷ NotFound ∷ InvalidCharge ∷ []

-- the refusal of a number at a place; 0 and the numbers past the last stand for none
unfoldable refusal_at : ℕ → ℕ → Outcome
refusal_at n p = get_or ((Ok tt) ∷ map (λ make. Err (make p)) refusals) n (Ok tt)

-- what a refusal tells has no counts, and its number and place stand for it
abbrev StandsFor : Refusal → Type 0
StandsFor r =
    (refusal_report r ≡ refusal (refusal_report r).number (refusal_report r).place)
    × (refusal_at (refusal_report r).number (refusal_report r).place ≡ Err r)

stands_for : (r : Refusal) → StandsFor r
unfolding refusals refusal_at
stands_for (Truncated p) = (refl, refl)
stands_for UnknownEdition = (refl, refl)
stands_for (TrailingBytes p) = (refl, refl)
stands_for (InvalidLength p) = (refl, refl)
stands_for (InvalidRecord p) = (refl, refl)
stands_for (RegionMismatch p) = (refl, refl)
stands_for (DuplicateNode p) = (refl, refl)
stands_for (NotParallelizable p) = (refl, refl)
stands_for (AssignmentCount p) = (refl, refl)
stands_for (UnlicensedStep p) = (refl, refl)
stands_for (UnmetNeed p) = (refl, refl)
stands_for InvalidData = (refl, refl)
stands_for (InvalidEntry p) = (refl, refl)
stands_for (InvalidPartition p) = (refl, refl)
stands_for (OutputTooSmall p) = (refl, refl)
stands_for (NotFound p) = (refl, refl)
stands_for (InvalidCharge p) = (refl, refl)

-- a number that stands for a refusal is one of the table's: 0 is left to acceptance, 255 to no answer of these
number_of : (r : Refusal) (n p : ℕ) → refusal_at n p ≡ Err r → (1 ≤ n) × (n < 255)
unfolding refusal_at refusals
number_of r zero p e = let z : ◌≡◌ {A = ℕ} 0 1 = cc in absurd (omega arith)
number_of r (suc n) p e =
    elim (split (suc n <? 255)) [
      | inl few ↦ (omega arith, less few)
      | inr many ↦
          let far : suc n < 255 → ⊥ = λ h. lacks many (less! h) in
          let none : ◌≡◌ {A = Outcome} (Ok tt) (Err r) = sym (get_or-eq_default (map (λ make. Err (make p)) refusals) (Ok tt) {n = n} (omega arith)) ∙ e in
          let z : ◌≡◌ {A = ℕ} 0 1 = cc in
          absurd (omega arith)
    ]

module _ (r : Refusal) where
  stands : refusal_at (refusal_report r).number (refusal_report r).place ≡ Err r
  stands = (stands_for r).1

  pub no_counts : refusal_report r ≡ refusal (refusal_report r).number (refusal_report r).place
  no_counts = (stands_for r).0

  pub number_in_table : (1 ≤ (refusal_report r).number) × ((refusal_report r).number < 255)
  number_in_table = number_of r _ _ stands

-- number and place determine it
pub place_injective :
    (a b : Refusal) → (refusal_report a).number ≡ (refusal_report b).number → (refusal_report a).place ≡ (refusal_report b).place → a ≡ b
place_injective a b n p = let both : ◌≡◌ {A = Outcome} (Err a) (Err b) = sym (stands a) ∙ ap₂ refusal_at n p ∙ stands b in cc

pub refusal_injective : (a b : Refusal) → refusal_report a ≡ refusal_report b → a ≡ b
refusal_injective a b e = place_injective a b (ap (λ t. t.number) e) (ap (λ t. t.place) e)

pub report_injective : (a b : Answer) → report a ≡ report b → a ≡ b
unfolding report
report_injective (Ok a) (Ok b) e =
    let symbols = ap (λ t. t.symbols) e in let nodes = ap (λ t. t.nodes) e in let steps = ap (λ t. t.steps) e in rw (symbols, nodes, steps)
report_injective (Ok a) (Err b) e = absurd (omega (arith, ap (λ t. t.number) e, (number_in_table b).0))
report_injective (Err a) (Ok b) e = absurd (omega (arith, ap (λ t. t.number) e, (number_in_table a).0))
report_injective (Err a) (Err b) e = ap Err (refusal_injective a b e)

-- and of an answer about what was written
pub written_injective : (a b : Written) → written_report a ≡ written_report b → a ≡ b
unfolding written_report
written_injective (Ok n) (Ok m) e = ap Ok (ap (λ t. t.length) e)
written_injective (Ok n) (Err b) e = absurd (omega (arith, ap (λ t. t.number) e, (number_in_table b).0))
written_injective (Err a) (Ok m) e = absurd (omega (arith, ap (λ t. t.number) e, (number_in_table a).0))
written_injective (Err a) (Err b) e =
    ap Err (place_injective a b (ap (λ t. t.number) e) (ap (λ t. t.place) e))

-- and of a charge
pub charge_injective : (a b : Charged) → charge_report a ≡ charge_report b → a ≡ b
unfolding charge_report
charge_injective (Ok a) (Ok b) e =
    let counts = ap (λ t. t.count) e in let cents = ap (λ t. t.cents) e in let remainders = ap (λ t. t.remainder) e in rw (counts, cents, remainders)
charge_injective (Ok a) (Err b) e = absurd (omega (arith, ap (λ t. t.number) e, (number_in_table b).0))
charge_injective (Err a) (Ok b) e = absurd (omega (arith, ap (λ t. t.number) e, (number_in_table a).0))
charge_injective (Err a) (Err b) e =
    ap Err (place_injective a b (ap (λ t. t.number) e) (ap (λ t. t.place) e))
