-- Refused where the inputs are, else as the question is answered. Assumes nothing.
use Rattle.primitives.proofs.Stages.{handed_on}
use Rattle.provenance.proofs.Explanations.{inputs_refused, question_answered}
use Rattle.provenance.proofs.explain.Goals as goal

pub returns-in_err-inputs : goal.returns-in_err-inputs
returns-in_err-inputs c = rw (handed_on _ c.from_residual.ensures.1) (inputs_refused _ _ _ _ _ c.in_err-inputs.ensures)

pub returns : goal.returns
returns c = question_answered _ _ _ _ _ c.in_ok-inputs.ensures c.answer_question.ensures
