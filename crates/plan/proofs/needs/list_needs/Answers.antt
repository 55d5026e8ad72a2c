-- The pass keeps the bounds and the needs of the statements before s in their tables (NeedTables). Assumes nothing.
use Rattle.std.proofs.Common.{◌≡◌, ◌<◌, ◌∙◌, get_or, take, arith, rules}
use Rattle.model.specs.Layout.{node_count}
use Rattle.model.specs.Statements.{operand_definition}
use Rattle.model.specs.Needs.{symbol_node, operand_bound}
use Rattle.plan.specs.Plans.{plan_at}
use Rattle.plan.proofs.NeedTables.{needs_start, operand_bound_is, needs_next}
use Rattle.plan.proofs.needs.list_needs.Goals as goal

pub loop-s-init : goal.loop-s-init
loop-s-init c = needs_start _ _ (search rules)

pub loop-s-preserved : goal.loop-s-preserved
loop-s-preserved c =
    let P = plan_at c.args.tables in
    let l = c.loop-s in
    let past = l.invariant in
    let few : l.s < 64 = omega (arith, c.statement_count-s-end.ensures) in
    let count = c.node_count-nodes.ensures.0 in
    let operand = c.operand-operand.ensures.0 in
    let node : c.assigned-node.result ≡ symbol_node P l.s = c.assigned-node.ensures.0 ∙ rw past.symbol_is in
    let follows : c.from-followed.result ≡ get_or (take l.s l.bounds) (operand_definition P l.s) (node_count P) =
    rw (c.from-followed.ensures, c.entry_or.ensures, operand, count) in
    let defines = c.variable_bound.ensures.0 in
    let bound : c.byte_at-bound.result ≡ operand_bound P l.s =
    c.byte_at-bound.ensures.0 ∙ rw operand (operand_bound_is past few follows defines) in
    let after = c.next_symbol-symbol.ensures in
    needs_next past few follows defines
    (c.first_need.ensures ∙ rw (c.kind.ensures, node, bound, count))
    (c.second_need.ensures ∙ rw (c.needs_disjoint.ensures, node))
    (omega (arith, node, c.assigned-node.ensures.1))
    after.0 after.1
