-- The plans that section 4's reader speaks of, and what it answers of them.
use Rattle.std.specs.Prelude.{ℕ, ◌≤◌, ◌<◌, ◌≡◌, Result, Ok, Err}
use Rattle.model.specs.Bytes.{Bytes}
use Rattle.model.specs.Outcomes.{◌then◌}
use Rattle.model.specs.Layout.{Plan, region_count, fields, statement_count}
use Rattle.model.specs.Verdict.{statements_check, loops_check}
use Rattle.model.specs.declared.Refusal.{Refusal}
use Rattle.loops.specs.declared.tables.StatementTables.{StatementTables}
use Rattle.loops.specs.Tables.{TablesHold}

module _ (P : Plan) where
  -- a plan of these regions, maps and statements, with at most 16 regions of at most 8 fields
  pub record StatementSources (regions maps statements : Bytes) : Type 0 where
    pub regions_are : P.regions ≡ regions
    pub maps_are : P.maps ≡ maps
    pub statements_are : P.statements ≡ statements
    pub few_regions : region_count P ≤ 16
    pub few_fields : (r : ℕ) → r < region_count P → fields P r ≤ 8

-- section 4 and its loops pass, and the tables are those of the statements; or they are refused
abbrev pub StatementsChecked : Plan → Result StatementTables Refusal → Type 0
StatementsChecked P (Ok tables) = ((statements_check P then loops_check P) ≡ Ok tt) × TablesHold P (statement_count P) tables
StatementsChecked P (Err r) = (statements_check P then loops_check P) ≡ Err r
