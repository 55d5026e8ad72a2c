-- By the kind; the table has the regions of the operands, which are earlier nodes. Assumes nothing.
use mathlib.Core.Path.{◌≡◌, sym, ◌∙◌}
use native.Mathlib.Omega.{arith}
use Rattle.model.specs.Recursion.{below}
use Rattle.primitives.proofs.OpenTests.{tests_open}
use Rattle.model.specs.Tests.{Is}
use Rattle.model.specs.Layout.{node_a}
use Rattle.model.specs.Nodes.{operands_of_one_region, node_region, node_formed, node_formed_by, node_region_by, node_agrees, node_agrees_by}
use Rattle.model.proofs.Recursion.{below_at}
use Rattle.model.proofs.Tests.{both, less}
use Rattle.expressions.proofs.NodeLaws.{two_operands, region_at}
use Rattle.expressions.proofs.nodes.Declarations.region_of.Goals as goal

pub returns-in-Union-clause-read : goal.returns-in-Union-clause-read
unfolding node_formed node_agrees
returns-in-Union-clause-read c P j is read formed earlier =
    let two = two_operands P c.args.node.kind j (omega arith) (omega arith) in
    let kind : Is (node_formed_by P c.args.node.kind j) = rw read.kind (both formed).1 in
    let (left, right) = both (rw two.formed at kind) in
    let first = below_at 0 j (node_region P) (node_a P j) (less left) in
    let region = region_at P j ∙ rw (← read.kind) (two.region (below 0 j (node_region P))) ∙ first ∙ sym (earlier.region _ (less left)) in
    let agrees : node_agrees P j ≡ operands_of_one_region P j = rw (← read.kind) two.agrees in
    rw (region, agrees, ← earlier.region _ (less left), ← earlier.region _ (less right)) (grind (arith, tests_open))

pub returns-in-Image-clause-read : goal.returns-in-Image-clause-read
unfolding node_formed node_formed_by node_region_by node_agrees node_agrees_by
returns-in-Image-clause-read c P j is read formed earlier =
    grind (arith, tests_open, region_at, below_at)

pub returns-in-Preimage-clause-read : goal.returns-in-Preimage-clause-read
unfolding node_formed node_formed_by node_region_by node_agrees node_agrees_by
returns-in-Preimage-clause-read c P j is read formed earlier =
    grind (arith, tests_open, region_at, below_at)
