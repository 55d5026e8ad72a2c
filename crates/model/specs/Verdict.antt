-- Checking a plan: "Order: 1 for empty, 2; per section 1 then 4; 3; records by section, at each 5, 6, 7; 8 after section 4;
-- 9 before section 6; at each step 5, then 10; 11 by symbol".
use Rattle.model.specs.Bytes.{Bytes}
use Rattle.model.specs.Outcomes.{◌then◌, scan, conclude, Outcome, Answer}
use Rattle.model.specs.declared.Acceptance.{Acceptance}
use Rattle.model.specs.Layout.{Plan, plan_of, layout_check, region_count, map_count, supplied_count, statement_count, node_count, step_count}
use Rattle.model.specs.Declarations.{region_check, map_check, supplied_check}
use Rattle.model.specs.Statements.{statement_check}
use Rattle.model.specs.Parallel.{loop_check}
use Rattle.model.specs.Nodes.{node_check}
use Rattle.model.specs.Needs.{symbol_count, assignment_count_check, assignment_check, need_check}
use Rattle.model.specs.Lemmas.{step_check}

module _ (P : Plan) where
  -- the records of each section, and the loops
  abbrev pub regions_check : Outcome
  regions_check = scan (region_check P) 0 (region_count P)

  abbrev pub maps_check : Outcome
  maps_check = scan (map_check P) 0 (map_count P)

  abbrev pub partitions_check : Outcome
  partitions_check = scan (supplied_check P) 0 (supplied_count P)

  abbrev pub statements_check : Outcome
  statements_check = scan (statement_check P) 0 (statement_count P)

  abbrev pub loops_check : Outcome
  loops_check = scan (loop_check P) 0 (statement_count P)

  abbrev pub nodes_check : Outcome
  nodes_check = scan (node_check P) 0 (node_count P)

  abbrev pub assignments_check : Outcome
  assignments_check = scan (assignment_check P) 0 (statement_count P)

  abbrev pub steps_check : Outcome
  steps_check = scan (step_check P) 0 (step_count P)

  abbrev pub needs_check : Outcome
  needs_check = scan (need_check P) 0 (statement_count P)

  -- "records by section, at each 5, 6, 7; 8 after section 4; 9 before section 6; at each step 5, then 10; 11 by symbol"
  unfoldable pub records_check : Outcome
  records_check =
      regions_check then maps_check then partitions_check
      then statements_check then loops_check
      then nodes_check
      then assignment_count_check P then assignments_check
      then steps_check
      then needs_check

  -- "Acceptance carries the numbers of symbols, nodes and steps"
  abbrev pub accepted : Acceptance
  accepted = record { symbols = symbol_count P; nodes = node_count P; steps = step_count P }

-- the layout, then the records
unfoldable pub plan_check : Bytes → Outcome
plan_check p = layout_check p then records_check (plan_of p)

-- what checking a plan answers
unfoldable pub verdict : Bytes → Answer
verdict p = conclude (plan_check p) (accepted (plan_of p))
