-- Its checks, as they were called, are the definition's. Assumes nothing.
use mathlib.Core.Path.{◌≡◌, sym, ◌∙◌}
use native.Mathlib.Omega.{arith}
use Rattle.std.specs.Prelude.{Ok}
use Rattle.model.specs.Tests.{non}
use Rattle.model.specs.Outcomes.{require, ◌then◌}
use Rattle.model.specs.Layout.{Plan}
use Rattle.model.specs.Nodes.{node_check}
use Rattle.model.proofs.Outcomes.{require_pass}
use Rattle.primitives.proofs.Stages.{stages}
use Rattle.expressions.specs.Nodes.{Declared, EarlierNodes, NodePasses}
use Rattle.expressions.proofs.NodeLaws.{test_passed, own_key, duplicate_known}
use Rattle.expressions.proofs.nodes.Declarations.check_node.Goals as goal
use Rattle.expressions.proofs.nodes.Declarations.check_node.Goals.{After-require-2}

-- a node that is formed and of one region: its check is the last of the three, and after a pass this is known of it
last : (c : After-require-2) (P : Plan) → Declared P c.args.self.now → P.nodes ≡ c.args.nodes.now → EarlierNodes P c.args.earlier.now c.args.j
    → (node_check P c.args.j ≡ c.require-2.result) × (node_check P c.args.j ≡ Ok tt → NodePasses P c.args.j (record { region = c.in_ok-region.region; key = c.key-key.result }))
unfolding node_check require ◌then◌ non
last c P is nodes earlier =
    let node = c.read_node-node.ensures P nodes in
    let formed = sym (c.is_formed.ensures P is node) ∙ require_pass _ _ (sym c.require.ensures ∙ c.in_ok-require.was) in
    let region = c.region_of.ensures.read P c.args.j is node formed earlier.regions in
    let agrees = test_passed _ _ _ (rw (c.ok_or.ensures.value, region) at c.in_ok-region.was) in
    let duplicate = duplicate_known node formed c.key-key.ensures (omega arith) (omega arith) earlier (omega arith) in (
      rw (formed, agrees.0, ← duplicate, ← c.contains.ensures.value) (sym c.require-2.ensures),
      λ passes. record { passes = passes; region = agrees.1; key = own_key node formed c.key-key.ensures (omega arith) (omega arith) },
    )

pub returns-in_err-require-2 : goal.returns-in_err-require-2
returns-in_err-require-2 c P is nodes earlier =
    let last = last (goal.at.returns-in_err-require-2 c).After-require-2 P is nodes earlier in let refused = last.0 ∙ c.in_err-require-2.was in grind (arith, stages)

pub returns : goal.returns
returns c P is nodes earlier = let last = last (goal.at.returns c).After-require-2 P is nodes earlier in last.1 (last.0 ∙ c.in_ok-require-2.was)
