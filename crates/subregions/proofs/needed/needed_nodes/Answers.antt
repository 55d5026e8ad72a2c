-- From the last node down (NeededNodes). Assumes nothing.
use native.Mathlib.Omega.{arith}
use Rattle.subregions.proofs.NeededNodes.{passed_with}
use Rattle.subregions.proofs.needed.needed_nodes.Goals as goal

pub loop-j-preserved-then-has_bit : goal.loop-j-preserved-then-has_bit
loop-j-preserved-then-has_bit c =
    let l = c.loop-j in
    λ P R. passed_with c.loop-j-test.true (l.invariant P R)
    (c.operand_bits-needed.ensures P (record { facts = R.facts; nodes_are = R.nodes_are; listed = omega (arith, R.listed, l.auto.j) }))
