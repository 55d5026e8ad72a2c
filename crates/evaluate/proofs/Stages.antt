-- Plan and data set in the paper's order: the stage that refuses, and what is known once all passed; the promise of an evaluation. Assumes nothing.
use Prim.Native.Nat.{ℕ, ◌≤◌, ◌<◌}
use mathlib.Core.Path.{◌≡◌, refl, sym, ap, ap₂, ◌∙◌}
use mathlib.Core.List.{List}
use mathlib.Core.Bool.{false}
use native.Mathlib.Omega.{arith}
use lib.ListN.{length}
use Rattle.std.specs.Prelude.{Ok, Err}
use Rattle.model.specs.Tests.{◌≤?◌}
use Rattle.model.specs.Bytes.{Bytes}
use Rattle.model.specs.Outcomes.{require, ◌then◌, conclude, Outcome}
use Rattle.model.specs.Layout.{Plan, plan_of}
use Rattle.model.specs.Verdict.{accepted, plan_check, verdict}
use Rattle.model.specs.DataSets.{DataSet, data_of, data_check}
use Rattle.model.specs.Evaluation.{words_needed, inputs_check, evaluation_check, evaluation, filled_words}
use Rattle.model.specs.Promises.{EvaluationPromise}
use Rattle.model.specs.declared.Acceptance.{Acceptance}
use Rattle.model.specs.declared.Refusal.{Refusal}
use Rattle.model.specs.declared.Refusal.TheVariants.{OutputTooSmall}
use Rattle.model.proofs.Tests.{most, most!, fails, refuted}
use Rattle.model.proofs.Outcomes.{passes_then, required, conclude_ok, conclude_refused}
use Rattle.model.proofs.EvaluationPromise.{evaluation_promise}
use Rattle.layout.specs.Sections.{plan_in}
use Rattle.plan.specs.declared.reading.Reading.{Reading}
use Rattle.plan.specs.Reading.{AcceptedReading}
use Rattle.dataset.specs.declared.layout.DataLayout.{DataLayout}
use Rattle.dataset.specs.Layout.{set_of, frame_check, LaidOut}
use Rattle.dataset.specs.Entries.{all_entries}
use Rattle.dataset.specs.Supplied.{all_supplied}
use Rattle.dataset.proofs.Stages.{data_in_parts}
use Rattle.evaluate.specs.Inputs.{plan_given, data_given, InputsOf}
use Rattle.evaluate.specs.declared.inputs.Inputs.{Inputs}

-- a plan that is refused
pub plan_refused : (p d : Bytes) {r : Refusal} → verdict p ≡ Err r → inputs_check p d ≡ Err r
unfolding verdict inputs_check ◌then◌
plan_refused p d h = rw (conclude_refused (plan_check p) _ _ h)

-- one that is accepted leaves the data set's checks
module _ {p : Bytes} (d : Bytes) {reading : Reading} (read : AcceptedReading p reading) where
  abbrev P : Plan
  P = plan_in reading.sections

  plan_passes : plan_check p ≡ Ok tt
  unfolding verdict
  plan_passes = (conclude_ok _ _ _ read.accepts).0

  pub data_left : inputs_check p d ≡ (frame_check P d then all_entries P (data_of d) then all_supplied P (data_of d))
  unfolding inputs_check ◌then◌
  data_left = rw plan_passes (ap (λ (Q : Plan). data_check Q d) (sym read.sections_are) ∙ data_in_parts P d)

  pub layout_refused : {r : Refusal} → frame_check P d ≡ Err r → inputs_check p d ≡ Err r
  unfolding ◌then◌
  layout_refused h = data_left ∙ rw h

  module _ {layout : DataLayout} (laid : LaidOut P d layout) where
    pub contents_left : inputs_check p d ≡ (all_entries P (set_of layout) then all_supplied P (set_of layout))
    unfolding ◌then◌
    contents_left = data_left ∙ rw (laid.passes, laid.placed.parts)

    pub entries_refused : {r : Refusal} → all_entries P (set_of layout) ≡ Err r → inputs_check p d ≡ Err r
    unfolding ◌then◌
    entries_refused h = contents_left ∙ rw h

    module _ (entries : all_entries P (set_of layout) ≡ Ok tt) where
      pub supplied_decides : inputs_check p d ≡ all_supplied P (set_of layout)
      unfolding ◌then◌
      supplied_decides = contents_left ∙ rw entries

      -- all passed
      module _ (supplied : all_supplied P (set_of layout) ≡ Ok tt) where
        pub inputs_pass : inputs_check p d ≡ Ok tt
        inputs_pass = supplied_decides ∙ supplied

        pub data_fits : data_check P d ≡ Ok tt
        unfolding data_check
        data_fits = passes_then laid.passes (rw laid.placed.parts at (passes_then entries supplied))

-- the stages in a row, whatever is checked after them: the refusal of one that refuses, and what is left once all passed
module _ (p d : Bytes) (rest : Outcome) where
  pub refused_before : {r : Refusal} → inputs_check p d ≡ Err r → (inputs_check p d then rest) ≡ Err r
  unfolding ◌then◌
  refused_before h = rw h

  pub rest_decides : inputs_check p d ≡ Ok tt → (inputs_check p d then rest) ≡ rest
  unfolding ◌then◌
  rest_decides h = rw h

-- the rest of an evaluation
module _ {p d : Bytes} {inputs : Inputs} (read : InputsOf p d inputs) (lent : ℕ) {needed : ℕ} (counted : needed ≡ words_needed (plan_given inputs) (data_given inputs)) where
  needed_is : needed ≡ words_needed (plan_of p) (data_of d)
  needed_is = counted ∙ ap₂ words_needed read.plan_is (ap data_of read.data_is)

  pub words_lacking : lent < needed → evaluation p d lent ≡ Err (OutputTooSmall needed)
  unfolding evaluation evaluation_check conclude require ◌then◌
  words_lacking few =
      let e = needed_is in
      let short : (words_needed (plan_of p) (data_of d) ≤? lent) ≡ false = fails (refuted (λ m. let l = most m in absurd (omega arith))) in
      rw (read.passes, short, e)

  pub words_enough : needed ≤ lent → evaluation p d lent ≡ Ok (accepted (plan_of p))
  unfolding evaluation evaluation_check conclude ◌then◌
  words_enough enough =
      let e = needed_is in
      rw (read.passes, required (words_needed (plan_of p) (data_of d) ≤? lent) (OutputTooSmall (words_needed (plan_of p) (data_of d))) (most! (omega arith)))

pub inputs_refused : (p d : Bytes) (lent : ℕ) {r : Refusal} → inputs_check p d ≡ Err r → evaluation p d lent ≡ Err r
unfolding evaluation evaluation_check conclude ◌then◌
inputs_refused p d lent h = rw h

-- the promise of one that is refused, and of one whose words are filled
module _ (p d : Bytes) (old : List ℕ) where
  pub refusal_given : {r : Refusal} → evaluation p d (length old) ≡ Err r → EvaluationPromise p d old old (Err r)
  refusal_given h = evaluation_promise p d old old _ (sym h) refl

  pub words_filled : {inputs : Inputs} → InputsOf p d inputs → evaluation p d (length old) ≡ Ok (accepted (plan_of p)) →
      {new : List ℕ} → new ≡ filled_words (plan_given inputs) (data_given inputs) old → {a : Acceptance} → a ≡ accepted (plan_given inputs) →
      EvaluationPromise p d old new (Ok a)
  words_filled read is filled a = rw (a ∙ ap accepted read.plan_is) (evaluation_promise p d old _ _ (sym is) (filled ∙ ap₂ (λ (P : Plan) (D : DataSet). filled_words P D old) read.plan_is (ap data_of read.data_is)))
