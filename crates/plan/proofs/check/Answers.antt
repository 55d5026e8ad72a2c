-- The answer is the verdict, from which the whole promise follows. Assumes nothing.
use Rattle.std.proofs.Common.{sym, ◌∙◌}
use Rattle.model.proofs.Demand2.{check_promise}
use Rattle.primitives.proofs.Stages.{handed_on}
use Rattle.plan.proofs.check.Goals as goal

pub returns-in_err-reading : goal.returns-in_err-reading
returns-in_err-reading c = check_promise _ _ (handed_on _ c.from_residual.ensures.1 ∙ sym c.in_err-reading.ensures)

pub returns : goal.returns
returns c = check_promise _ _ (rw c.acceptance.ensures (sym c.in_ok-reading.ensures.accepts))
