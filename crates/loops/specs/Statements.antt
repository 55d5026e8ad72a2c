-- One statement as section 4's reader holds it, and the loop's variables and the tables before it.
use Rattle.std.specs.Prelude.{ℕ, ◌+◌, ◌≡◌, List, Bool, false, length, get_or, set}
use Rattle.model.specs.Tests.{◌and◌, ◌<?◌, pick}
use Rattle.model.specs.Layout.{Plan, statement_a, statement_b, statement_c}
use Rattle.model.specs.Statements.{kind, opens_loop, defines_variable, variables, definition, operand_definition, operand_region, variable_region, centered}
use Rattle.model.specs.declared.StatementKind.{StatementKind}
use Rattle.loops.specs.declared.statements.Statement.{Statement}
use Rattle.loops.specs.declared.statements.StatementEntry.{StatementEntry}
use Rattle.loops.specs.declared.variables.Variables.{Variables}
use Rattle.loops.specs.Tables.{Table}

-- so many variables, and the statement that defines each
abbrev pub variables_of : ℕ → List ℕ → Variables
variables_of count definitions = record { count = count; definitions = definitions }

-- the loop's variables after statement s: a FOR's own is the first, a definition's the next, up to sixteen
unfoldable pub variables_after : StatementKind → ℕ → Variables → Variables
variables_after kind s v =
    pick (opens_loop kind) (variables_of 1 (set v.definitions 0 s))
    (pick (defines_variable kind and v.count <? 16) (variables_of (v.count + 1) (set v.definitions v.count s)) v)

module _ (P : Plan) (s : ℕ) where
  -- the record of statement s
  pub record StatementAt (r : Statement) : Type 0 where
    pub kind_is : r.kind ≡ kind P s
    pub a_is : r.a ≡ statement_a P s
    pub b_is : r.b ≡ statement_b P s
    pub c_is : r.c ≡ statement_c P s

  -- the number of variables that the loop has before statement s, and the region of the one that s works on
  pub record StatementContext (count region : ℕ) : Type 0 where
    pub count_is : count ≡ variables P s
    pub region_is : region ≡ operand_region P s

  -- the variables that the loop has before statement s
  pub record LoopVariables (v : Variables) : Type 0 where
    pub count_is : v.count ≡ variables P s
    pub long : length v.definitions ≡ 16
    pub defined : (k : ℕ) → get_or v.definitions k 0 ≡ definition P s k

  -- what is held of the statements before s
  pub record EarlierStatements (definitions regions : List ℕ) (centers : List Bool) : Type 0 where
    pub definitions_are : (k : ℕ) → get_or definitions k 0 ≡ definition P s k
    pub regions_are : Table 0 s regions (variable_region P)
    pub centers_are : Table false s centers (centered P)

  -- what the tables take of statement s
  pub record EntryAt (r : StatementEntry) : Type 0 where
    pub operand_is : r.operand ≡ operand_definition P s
    pub region_is : r.region ≡ variable_region P s
    pub centered_is : r.centered ≡ centered P s
