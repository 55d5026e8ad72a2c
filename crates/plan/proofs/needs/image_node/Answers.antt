-- The image is at the first key that is its own (Images). Assumes nothing.
use Rattle.std.proofs.Common.{arith, ◌∙◌}
use Rattle.plan.specs.Plans.{plan_at}
use Rattle.plan.proofs.Images.{image_at, image_most}
use Rattle.plan.proofs.needs.image_node.Goals as goal

pub returns : goal.returns
returns c =
    let t = c.args.tables in
    let count = c.node_count-nodes.ensures in
    let at = image_at (plan_at t) t.nodes.now.keys c.args.node c.args.map t.known.node_keys_are c.requires.0 c.requires.1
    (omega (arith, t.known.keys_room)) in
    let most = image_most (plan_at t) c.args.node c.args.map in
    let is = c.unwrap_or.ensures ∙ rw (c.position_of.ensures, c.key_of-wanted.ensures, count.0) at in
    (is, omega arith)
