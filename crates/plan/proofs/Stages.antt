-- The checks of the records in a row, and what sections 4 and 5 hand on. Assumes nothing.
use mathlib.Core.Path.{◌≡◌, refl, sym, ◌∙◌}
use Rattle.std.specs.Prelude.{Ok}
use Rattle.model.specs.Outcomes.{◌then◌, Outcome}
use Rattle.model.specs.Layout.{Plan}
use Rattle.model.specs.Declarations.{region_check}
use Rattle.model.specs.Verdict.{records_check, regions_check, maps_check, partitions_check, statements_check, loops_check, nodes_check, steps_check, needs_check}
use Rattle.model.proofs.Tests.{both, most}
use Rattle.model.proofs.Outcomes.{then_assoc, require_pass, scan_pass}
use Rattle.layout.specs.declared.sections.PlanSections.{PlanSections}
use Rattle.layout.specs.Sections.{plan_in}
use Rattle.loops.specs.Section.{StatementSources}
use Rattle.expressions.specs.Nodes.{NodeSources}
use Rattle.expressions.specs.Steps.{StepSources}
use Rattle.plan.specs.Assignments.{counted_assignments_check}

-- the plan of these sections is one that each reader speaks of
module _ (s : PlanSections) where
  pub statement_sources : {declared : Outcome} → declared ≡ regions_check (plan_in s) → declared ≡ Ok tt → StatementSources (plan_in s) s.regions.now s.maps.now s.statements.now
  unfolding region_check
  statement_sources told passes =
      record {
        regions_are = refl;
        maps_are = refl;
        statements_are = refl;
        few_regions = s.limits.few_regions;
        few_fields = λ r lt. most (both (require_pass _ _ (scan_pass _ _ (sym told ∙ passes) r lt))).1;
      }

  pub node_sources : NodeSources (plan_in s) s.regions.now s.maps.now s.supplied.now s.nodes.now
  node_sources = record { regions_are = refl; maps_are = refl; supplied_are = refl; nodes_are = refl }

  pub step_sources : StepSources (plan_in s) s.maps.now s.supplied.now s.nodes.now s.steps.now
  step_sources = record { maps_are = refl; supplied_are = refl; nodes_are = refl; steps_are = refl }

-- the records in the paper's order are the readers in a row
pub in_stages : (P : Plan) → records_check P ≡
    (regions_check P then maps_check P then partitions_check P then (statements_check P then loops_check P) then nodes_check P
    then counted_assignments_check P then steps_check P then needs_check P)
unfolding records_check
in_stages P = simp then_assoc
