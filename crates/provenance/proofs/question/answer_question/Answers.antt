-- What exists is asked about further, in words enough for the nodes up to it. Assumes nothing.
use mathlib.Core.Path.{sym, ◌∙◌}
use native.Mathlib.Omega.{arith}
use Rattle.primitives.proofs.Stages.{handed_on}
use Rattle.evaluate.specs.Inputs.{plan_given, data_given}
use Rattle.provenance.proofs.Questions.{exists, existence_refused}
use Rattle.provenance.proofs.question.answer_question.Goals as goal

pub returns-in_err-check_existence : goal.returns-in_err-check_existence
returns-in_err-check_existence c =
    rw (handed_on _ c.from_residual.ensures.1) (existence_refused _ _ _ _ _ (sym c.check_existence.ensures ∙ c.in_err-check_existence.was))

pub answer_with-requires-else-question-lt8 : goal.answer_with-requires-else-question-lt8
answer_with-requires-else-question-lt8 c =
    let there = sym c.check_existence.ensures ∙ c.in_ok-check_existence.was in
    (record { exists = there; room = omega (arith, (exists (plan_given c.args.inputs.now) (data_given c.args.inputs.now) c.args.question there).node_listed, c.args.inputs.now.reading.sections.limits.few_nodes) }, omega arith)
