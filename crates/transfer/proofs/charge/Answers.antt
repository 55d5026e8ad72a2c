-- What passes is counted and priced; the first refusal is handed on (Bills). Assumes nothing.
use mathlib.Core.Path.{sym, ap, ◌∙◌}
use Rattle.model.specs.Transfers.{transferring, priced}
use Rattle.primitives.proofs.Stages.{handed_on}
use Rattle.transfer.proofs.Bills.{inputs_refused, transfer_refused, charged}
use Rattle.transfer.proofs.charge.Goals as goal

pub returns-in_err-inputs : goal.returns-in_err-inputs
returns-in_err-inputs c = rw (handed_on _ c.from_residual.ensures.1) (inputs_refused _ _ (transferring c.args.accessed c.args.owned c.args.price) c.in_err-inputs.ensures)

pub returns-in_err-check_transfer : goal.returns-in_err-check_transfer
returns-in_err-check_transfer c =
    rw (handed_on _ c.from_residual-in_err-check_transfer.ensures.1)
    (transfer_refused _ _ (transferring c.args.accessed c.args.owned c.args.price) c.in_ok-inputs.ensures (sym c.check_transfer.ensures ∙ c.in_err-check_transfer.was))

pub returns : goal.returns
returns c =
    charged _ _ (transferring c.args.accessed c.args.owned c.args.price) c.in_ok-inputs.ensures (sym c.check_transfer.ensures ∙ c.in_ok-check_transfer.was)
    (c.price_elements.ensures ∙ ap (λ n. priced n c.args.price) c.count_fetched-count.ensures.0)
