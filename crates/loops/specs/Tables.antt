-- Tables by statement that hold the model's values.
use Rattle.std.specs.Prelude.{ℕ, ◌<◌, ◌≡◌, List, false, length, get_or, set}
use Rattle.model.specs.Layout.{Plan}
use Rattle.model.specs.Statements.{operand_definition, variable_region, centered}
use Rattle.loops.specs.declared.statements.StatementEntry.{StatementEntry}
use Rattle.loops.specs.declared.tables.StatementTables.{StatementTables}

-- a table with room for 64 statements, which holds a function's values at those below n
pub record Table {A : Type 0} (default : A) (n : ℕ) (table : List A) (value : ℕ → A) : Type 0 where
  pub room : length table ≡ 64
  pub holds : (s : ℕ) → s < n → get_or table s default ≡ value s

-- the tables hold the values of the statements below n
pub record TablesHold (P : Plan) (n : ℕ) (tables : StatementTables) : Type 0 where
  pub operands_are : Table 0 n tables.operands (operand_definition P)
  pub regions_are : Table 0 n tables.variable_regions (variable_region P)
  pub centers_are : Table false n tables.centered (centered P)

-- the tables with what they take of statement s
abbrev pub with_entry : ℕ → StatementEntry → StatementTables → StatementTables
with_entry s entry tables =
    record {
      operands = set tables.operands s entry.operand;
      variable_regions = set tables.variable_regions s entry.region;
      centered = set tables.centered s entry.centered;
    }
