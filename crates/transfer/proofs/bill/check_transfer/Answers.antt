-- The regions are asked of nodes that exist (Bills). Assumes nothing.
use mathlib.Core.Path.{sym, ◌∙◌}
use native.Mathlib.Omega.{arith}
use Rattle.primitives.proofs.Stages.{then_err, handed_on}
use Rattle.primitives.proofs.OpenTests.{same_is}
use Rattle.transfer.proofs.Bills.{past_nodes}
use Rattle.transfer.proofs.bill.check_transfer.Goals as goal

pub returns-in_err-require : goal.returns-in_err-require
returns-in_err-require c =
    let count = c.node_count-nodes.ensures.0 in
    handed_on _ c.from_residual.ensures.1
    ∙ sym (past_nodes _ _ (omega (arith, count, c.if-transfer-nodes.false)) (omega (arith, count, c.if-transfer-nodes-2.false))
    ∙ then_err _ (rw (← c.node_region.ensures, ← c.node_region-2.ensures, same_is) (sym c.require.ensures ∙ c.in_err-require.was)))
