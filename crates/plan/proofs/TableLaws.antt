-- What the tables tell of a statement and of a node. Assumes nothing.
use Prim.Native.Nat.{ℕ, ◌<◌}
use mathlib.Core.Path.{◌≡◌}
use native.Mathlib.Omega.{arith}
use lib.ListN.{get_or}
use Rattle.model.specs.Layout.{Plan, statement_count}
use Rattle.model.specs.Statements.{operand_definition, operand_region}
use Rattle.loops.specs.declared.tables.StatementTables.{StatementTables}
use Rattle.loops.proofs.StatementLaws.{operand_most}
use Rattle.loops.specs.Tables.{TablesHold}

module _ {P : Plan} {tables : StatementTables} (hold : TablesHold P (statement_count P) tables) (s : ℕ) (inside : s < statement_count P) where
  pub operand_is : get_or tables.operands s 0 ≡ operand_definition P s
  operand_is = hold.operands_are.holds s inside

  pub operand_region_is : get_or tables.variable_regions (operand_definition P s) 0 ≡ operand_region P s
  operand_region_is = hold.regions_are.holds (operand_definition P s) (omega (arith, operand_most P s))
