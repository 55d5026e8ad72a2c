-- Each reader speaks of every plan of its sections, and so of this one; the readers in a row are the plan's checks (Stages). Assumes nothing.
use mathlib.Core.Path.{◌≡◌, refl, subst}
use Rattle.std.proofs.Common.{arith, rules}
use Rattle.std.specs.Prelude.{Ok}
use Rattle.model.specs.Outcomes.{◌then◌}
use Rattle.model.specs.Verdict.{records_check, steps_check, needs_check}
use Rattle.primitives.proofs.Stages.{stages}
use Rattle.layout.specs.Sections.{plan_in}
use Rattle.loops.specs.Section.{StatementsChecked}
use Rattle.expressions.specs.Nodes.{NodesChecked, NodesPass}
use Rattle.expressions.specs.Steps.{StepsRead}
use Rattle.expressions.specs.declared.nodes.NodeTables.{NodeTables}
use Rattle.plan.specs.Assignments.{counted_assignments_check}
use Rattle.plan.proofs.Stages.{statement_sources, node_sources, step_sources, in_stages}
use Rattle.plan.proofs.records.check_records.Goals as goal
use Rattle.plan.proofs.records.check_records.Goals.{After-check_nodes, After-check_steps}

-- what section 4 answered where it passed
four : (c : After-check_nodes) → StatementsChecked (plan_in c.args.sections.now) (Ok c.in_ok-statements.statements)
four c = c.in_ok-statements.ensures _ (statement_sources c.args.sections.now (c.check_regions.ensures _ refl) c.in_ok-check_regions.was)

-- what section 5 answered where it passed; after sections 1 to 5 the other checks decide
five : (c : After-check_nodes) {nodes : NodeTables} → c.check_nodes.result ≡ Ok nodes → NodesPass (plan_in c.args.sections.now) nodes
    × (records_check (plan_in c.args.sections.now)
    ≡ (counted_assignments_check (plan_in c.args.sections.now) then steps_check (plan_in c.args.sections.now) then needs_check (plan_in c.args.sections.now)))
five c passed =
    let four = four c in
    let five = subst (NodesChecked _) passed (c.check_nodes.ensures _ (node_sources c.args.sections.now)) in
    (five, grind (arith, stages, in_stages))

-- what section 7 answered
seven : (c : After-check_steps) → StepsRead (plan_in c.args.sections.now) c.check_steps.result c.check_steps.new.conclusions
seven c = c.check_steps.ensures.1 _ (step_sources c.args.sections.now)

pub returns-in_err-statements : goal.returns-in_err-statements
returns-in_err-statements c =
    let four = c.in_err-statements.ensures _ (statement_sources c.args.sections.now (c.check_regions.ensures _ refl) c.in_ok-check_regions.was) in
    grind (arith, stages, in_stages)

pub returns-in_err-nodes : goal.returns-in_err-nodes
returns-in_err-nodes c =
    let four = four (goal.at.returns-in_err-nodes c).After-check_nodes in
    let five = c.in_err-nodes.ensures _ (node_sources c.args.sections.now) in
    grind (arith, stages, in_stages)

pub returns-in_err-check_assignments : goal.returns-in_err-check_assignments
returns-in_err-check_assignments c =
    let left = (five (goal.at.returns-in_err-check_assignments c).After-check_nodes c.in_ok-nodes.was).1 in
    grind (arith, stages)

pub returns-in_err-check_steps : goal.returns-in_err-check_steps
returns-in_err-check_steps c =
    let left = (five (goal.at.returns-in_err-check_steps c).After-check_nodes c.in_ok-nodes.was).1 in
    let seven = seven (goal.at.returns-in_err-check_steps c).After-check_steps in
    grind (arith, stages)

pub invariant_of-tables : goal.invariant_of-tables
invariant_of-tables c =
    let four = four (goal.at.invariant_of-tables c).After-check_nodes in
    let five = (five (goal.at.invariant_of-tables c).After-check_nodes c.in_ok-nodes.was).0 in
    record { known = record { statements_are = four.1; node_regions_are = five.regions; node_keys_are = five.keys; keys_room = search rules } }

pub returns-in_err-check_needs : goal.returns-in_err-check_needs
returns-in_err-check_needs c =
    let left = (five (goal.at.returns-in_err-check_needs c).After-check_nodes c.in_ok-nodes.was).1 in
    let seven = seven (goal.at.returns-in_err-check_needs c).After-check_steps in
    let needs = c.in_err-check_needs.ensures (seven.conclusions c.in_ok-check_steps.was) in
    grind (arith, stages)

pub returns : goal.returns
returns c =
    let (five, left) = five (goal.at.returns c).After-check_nodes c.in_ok-nodes.was in
    let seven = seven (goal.at.returns c).After-check_steps in
    let needs = c.in_ok-check_needs.ensures (seven.conclusions c.in_ok-check_steps.was) in
    (grind (arith, stages), five.regions)
