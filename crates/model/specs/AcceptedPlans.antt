-- What is known of an accepted plan: what each of its records is, and how many there are.
use Rattle.std.specs.Prelude.{ℕ, ◌*◌, ◌≤◌, ◌<◌, ◌≡◌, length}
use Rattle.model.specs.Tests.{Is}
use Rattle.model.specs.Layout.{Plan, region_count, map_count, supplied_count, statement_count, node_count, assignment_count, step_count, fields, source, target, totality, supplied_region, supplied_flags}
use Rattle.model.specs.Statements.{opens, accesses, statement_formed, statement_agrees}
use Rattle.model.specs.Parallel.{parallelizable}
use Rattle.model.specs.Nodes.{node_formed, node_agrees, node_region, same_node}
use Rattle.model.specs.Needs.{has_symbol, symbol_count, symbol_node, symbol_region, loop_needs_met, access_need_met}
use Rattle.model.specs.Lemmas.{step_formed, step_licensed}

-- what each record of a plan is, where every record passed its check
pub record Facts (P : Plan) : Type 0 where
  pub some_field : (r : ℕ) → r < region_count P → 1 ≤ fields P r
  pub few_fields : (r : ℕ) → r < region_count P → fields P r ≤ 8
  pub source_listed : (m : ℕ) → m < map_count P → source P m < region_count P
  pub target_listed : (m : ℕ) → m < map_count P → target P m < region_count P
  pub totality_known : (m : ℕ) → m < map_count P → totality P m ≤ 1
  pub supplied_listed : (k : ℕ) → k < supplied_count P → supplied_region P k < region_count P
  pub flags_known : (k : ℕ) → k < supplied_count P → supplied_flags P k ≤ 3
  pub statement_formed_lem : (s : ℕ) → s < statement_count P → Is (statement_formed P s)
  pub statement_agrees_lem : (s : ℕ) → s < statement_count P → Is (statement_agrees P s)
  pub loop_parallelizable : (f : ℕ) → f < statement_count P → Is (opens P f) → Is (parallelizable P f)
  pub node_formed_lem : (j : ℕ) → j < node_count P → Is (node_formed P j)
  pub node_agrees_lem : (j : ℕ) → j < node_count P → Is (node_agrees P j)
  pub node_new : (j k : ℕ) → j < node_count P → k < j → Is (same_node P j k) → ⊥
  pub assignment_each : assignment_count P ≡ symbol_count P
  pub node_listed : (s : ℕ) → s < statement_count P → Is (has_symbol P s) → symbol_node P s < node_count P
  pub node_region_lem : (s : ℕ) → s < statement_count P → Is (has_symbol P s) → node_region P (symbol_node P s) ≡ symbol_region P s
  pub step_formed_lem : (t : ℕ) → t < step_count P → Is (step_formed P t)
  pub step_licensed_lem : (t : ℕ) → t < step_count P → Is (step_licensed P t)
  pub loop_met : (f : ℕ) → f < statement_count P → Is (opens P f) → Is (loop_needs_met P f)
  pub access_met : (s : ℕ) → s < statement_count P → Is (accesses P s) → Is (access_need_met P s)

-- the numbers of records, "most" and "least 1" of the table of sections, and that the bodies are whole records
pub record Limits (P : Plan) : Type 0 where
  pub some_region : 1 ≤ region_count P
  pub few_regions : region_count P ≤ 16
  pub few_maps : map_count P ≤ 16
  pub few_supplied : supplied_count P ≤ 8
  pub few_statements : statement_count P ≤ 64
  pub few_nodes : node_count P ≤ 48
  pub few_assignments : assignment_count P ≤ 64
  pub few_steps : step_count P ≤ 128
  pub whole_maps : length P.maps ≡ map_count P * 3
  pub whole_supplied : length P.supplied ≡ supplied_count P * 2
  pub whole_statements : length P.statements ≡ statement_count P * 4
  pub whole_nodes : length P.nodes ≡ node_count P * 4
  pub whole_steps : length P.steps ≡ step_count P * 5
