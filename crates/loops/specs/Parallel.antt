-- The accesses of loops as the checker holds them, and what it knows of the statements from section 4's reader.
use Rattle.std.specs.Prelude.{ℕ, ◌+◌, ◌*◌, ◌/◌, ◌%◌, ◌^◌, ◌≤◌, ◌<◌, ◌≡◌, List, Bool, false, length, get_or, set}
use Rattle.std.specs.Int.Bits.{bit_or}
use Rattle.model.specs.Tests.{Is, ◌and◌, ◌or◌, non, ◌=?◌, ◌≤?◌, every, pick}
use Rattle.model.specs.Bytes.{Bytes}
use Rattle.model.specs.Layout.{Plan, statement_count, statement_c}
use Rattle.model.specs.Statements.{kind, access_of, is_access, accesses, loop, operand_definition, variable_region, operand_region, access_field, centered}
use Rattle.model.specs.Parallel.{reduces, uncentered, access_of_loop}
use Rattle.model.specs.Words.{bit}
use Rattle.model.specs.declared.Access.{Access}
use Rattle.model.specs.declared.Access.TheVariants.{Nothing, Reads, Writes, Reduces}
use Rattle.loops.specs.declared.parallel.LoopAccess.{LoopAccess}
use Rattle.loops.specs.declared.tables.StatementLoops.{StatementLoops}
use Rattle.loops.specs.Tables.{Table}

-- the access of statement s
unfoldable pub access_at : Plan → ℕ → LoopAccess
access_at P s =
    record {
      access = access_of (kind P s);
      region = operand_region P s;
      field = access_field P s;
      centered = centered P (operand_definition P s);
      operator = statement_c P s;
    }

-- access s is of one of 16 regions and one of 8 fields, and a reduction's operator is one of 4
pub record AccessLimits (P : Plan) (s : ℕ) : Type 0 where
  pub region_few : operand_region P s < 16
  pub field_few : access_field P s < 8
  pub operator_few : Is (reduces P s) → statement_c P s < 4

-- a plan of these statements, of which the tables hold the values
pub record LoopsKnown (P : Plan) (statements : Bytes) (operands regions : List ℕ) (centers : List Bool) : Type 0 where
  pub section : P.statements ≡ statements
  pub operands_are : Table 0 (statement_count P) operands (operand_definition P)
  pub regions_are : Table 0 (statement_count P) regions (variable_region P)
  pub centers_are : Table false (statement_count P) centers (centered P)
  pub limits : (s : ℕ) → s < statement_count P → Is (accesses P s) → AccessLimits P s

-- a plan of the statements and tables that loops are judged by
abbrev pub LoopsOf : Plan → StatementLoops → Type 0
LoopsOf P loops = LoopsKnown P loops.statements.now loops.operands.now loops.variable_regions.now loops.centered.now

-- statement s is one of at most 64
pub record Within (statements : Bytes) (s : ℕ) : Type 0 where
  pub few : length statements / 4 ≤ 64
  pub inside : s < length statements / 4

-- the statements of the loop of FOR f are those from f to before `end`
pub record LoopSpan (P : Plan) (f end : ℕ) : Type 0 where
  pub bound : end ≤ statement_count P
  pub own : (s : ℕ) → f ≤ s → s < end → loop P s ≡ f
  pub only : (s : ℕ) → s < statement_count P → loop P s ≡ f → (f ≤ s) × (s < end)

-- the number of a region and field, of 16 regions with 8 fields each
unfoldable pub target_number : LoopAccess → ℕ
target_number a = a.region % 16 * 8 + a.field % 8

-- the class of an access: 0 a centered read, 1 another read, 2 a centered write or reduction, 3 another write, 4 to 7 another reduction, by operator
unfoldable pub class_by : Access → Bool → ℕ → ℕ
class_by Nothing centered operator = 0
class_by Reads centered operator = pick centered 0 1
class_by Writes centered operator = pick centered 2 3
class_by Reduces centered operator = pick centered 2 (4 + operator % 4)

unfoldable pub class : LoopAccess → ℕ
class a = class_by a.access a.centered a.operator

-- an access of class i cannot share its region and field with one of class j; a write that is not centered not even with itself
unfoldable pub clash : ℕ → ℕ → Bool
clash i j = i =? 3 or 4 ≤? i and non (i =? j) or i =? 1 and 2 ≤? j

-- the classes whose bits a byte has can share a region and field
unfoldable pub compatible : ℕ → Bool
compatible classes = every 8 (λ i. every 8 (λ j. non (bit classes i and bit classes j and clash i j)))

-- the classes that were seen, by region and field, with those of an access entered
unfoldable pub entered : LoopAccess → List ℕ → List ℕ
entered a seen =
    pick (is_access a.access) (set seen (target_number a) (bit_or (get_or seen (target_number a) 0) (2 ^ class a))) seen

-- an access, entered among those that were seen, can share its region and field with all of them
unfoldable pub admitted : LoopAccess → List ℕ → Bool
admitted a seen = non (is_access a.access) or compatible (get_or seen (target_number a) 0)

-- a plan of these statements, of whose variables the tables hold the values
pub record PointersKnown (P : Plan) (statements : Bytes) (operands : List ℕ) (centers : List Bool) : Type 0 where
  pub section : P.statements ≡ statements
  pub operands_are : Table 0 (statement_count P) operands (operand_definition P)
  pub centers_are : Table false (statement_count P) centers (centered P)

-- statement s is an uncentered REDUCE of the loop of FOR f
unfoldable pub pointer_reduction : Plan → ℕ → ℕ → Bool
pointer_reduction P f s = access_of_loop P f s and reduces P s and uncentered P s
