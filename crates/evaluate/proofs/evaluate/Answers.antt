-- Refused where the inputs are, or where too few words are lent; else filled (Stages). Assumes nothing.
use Rattle.primitives.proofs.Stages.{handed_on}
use Rattle.evaluate.proofs.Stages.{inputs_refused, words_lacking, words_enough, refusal_given, words_filled}
use Rattle.evaluate.proofs.evaluate.Goals as goal

pub returns-in_err-inputs : goal.returns-in_err-inputs
returns-in_err-inputs c =
    rw (handed_on _ c.from_residual.ensures.1) (refusal_given _ _ _ (inputs_refused _ _ _ c.in_err-inputs.ensures))

pub returns-then-words-needed : goal.returns-then-words-needed
returns-then-words-needed c = refusal_given _ _ _ (words_lacking c.in_ok-inputs.ensures _ c.words_needed-needed.ensures c.if-words-needed.true)

pub returns : goal.returns
returns c =
    words_filled _ _ _ c.in_ok-inputs.ensures (words_enough c.in_ok-inputs.ensures _ c.words_needed-needed.ensures c.if-words-needed.false) c.fill_words.ensures c.acceptance.ensures
