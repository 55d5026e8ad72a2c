-- What the tables of a plan's statements and nodes hold.
use Rattle.std.specs.Prelude.{ℕ, ◌<◌, ◌≡◌, get_or, length}
use Rattle.model.specs.Layout.{Plan, statement_count, node_count}
use Rattle.model.specs.Nodes.{node_region}
use Rattle.loops.specs.declared.tables.StatementTables.{StatementTables}
use Rattle.loops.specs.Tables.{TablesHold}
use Rattle.expressions.specs.declared.nodes.NodeTables.{NodeTables}
use Rattle.expressions.specs.Nodes.{NodeKeys}

-- the tables are those of the plan's statements and nodes
pub record TablesKnown (P : Plan) (statements : StatementTables) (nodes : NodeTables) : Type 0 where
  pub statements_are : TablesHold P (statement_count P) statements
  pub node_regions_are : (j : ℕ) → j < node_count P → get_or nodes.regions j 0 ≡ node_region P j
  pub node_keys_are : NodeKeys P nodes.keys
  pub keys_room : length nodes.keys ≡ 48
