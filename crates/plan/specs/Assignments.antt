-- Symbols and the nodes that section 6 assigns to them, as the checker reads them.
use Rattle.std.specs.Prelude.{ℕ, ◌≤◌, ◌<◌, ◌≡◌}
use Rattle.model.specs.Outcomes.{◌then◌, Outcome}
use Rattle.model.specs.Layout.{Plan, statement_count}
use Rattle.model.specs.Needs.{symbol, assignment_count_check}
use Rattle.model.specs.Verdict.{assignments_check}

-- section 6: how many assignments there are, then each
abbrev pub counted_assignments_check : Plan → Outcome
counted_assignments_check P = assignment_count_check P then assignments_check P

-- statement s is there, and this is how many symbols stand before it, at most one for each statement
pub record SymbolAt (P : Plan) (number s : ℕ) : Type 0 where
  pub inside : s < statement_count P
  pub is : number ≡ symbol P s
  pub few : number ≤ s
