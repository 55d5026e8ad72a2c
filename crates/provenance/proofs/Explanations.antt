-- The promise of an explanation, where its inputs are refused and where the question is answered. Assumes nothing.
use Prim.Native.Nat.{ℕ}
use mathlib.Core.Path.{◌≡◌, refl, ◌∙◌}
use mathlib.Core.List.{List}
use Rattle.std.specs.Prelude.{Err}
use Rattle.model.specs.Bytes.{Bytes}
use Rattle.model.specs.Outcomes.{conclude, Written}
use Rattle.model.specs.Layout.{plan_of}
use Rattle.model.specs.DataSets.{data_of}
use Rattle.model.specs.Evaluation.{inputs_check}
use Rattle.model.specs.Words.{list_after}
use Rattle.model.specs.Provenance.{explanation_check, explanation}
use Rattle.model.specs.Promises.{ExplanationPromise}
use Rattle.model.specs.declared.Refusal.{Refusal}
use Rattle.model.specs.declared.Question.{Question}
use Rattle.model.proofs.ExplanationPromise.{explanation_promise}
use Rattle.evaluate.specs.Inputs.{plan_given, data_given, InputsOf}
use Rattle.evaluate.specs.declared.inputs.Inputs.{Inputs}
use Rattle.evaluate.proofs.Stages.{refused_before, rest_decides}
use Rattle.provenance.specs.Question.{Answered}

module _ (p d : Bytes) (q : Question) (old_nodes old_elements : List ℕ) where
  pub inputs_refused : {r : Refusal} → inputs_check p d ≡ Err r → ExplanationPromise p d q old_nodes old_nodes old_elements old_elements (Err r)
  unfolding explanation explanation_check conclude list_after
  inputs_refused h = explanation_promise p d q old_nodes old_nodes old_elements old_elements _ (rw (refused_before p d _ h)) refl refl

  pub question_answered : {inputs : Inputs} → InputsOf p d inputs → {new_nodes new_elements : List ℕ} {r : Written} →
      Answered (plan_given inputs) (data_given inputs) q old_nodes new_nodes old_elements new_elements r → ExplanationPromise p d q old_nodes new_nodes old_elements new_elements r
  unfolding explanation explanation_check
  question_answered {inputs} read {new_nodes} {new_elements} {r} answered =
      let a : Answered (plan_of p) (data_of d) q old_nodes new_nodes old_elements new_elements r = rw (read.plan_is, read.data_is) at answered in
      explanation_promise p d q old_nodes new_nodes old_elements new_elements r (a.answer ∙ rw (rest_decides p d _ read.passes)) a.nodes_are a.elements_are
