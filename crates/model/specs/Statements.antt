-- "Loops": the kinds of statement, the variables of a loop, and the checks of section 4's records.
use Rattle.std.specs.Prelude.{ℕ, zero, suc, ◌+◌, ◌*◌, [], ◌∷◌, Bool, true, false, get_or}
use Rattle.model.specs.Tests.{◌and◌, ◌or◌, ◌=?◌, ◌<?◌, pick}
use Rattle.model.specs.Recursion.{course}
use Rattle.model.specs.Outcomes.{require, ◌then◌, Outcome}
use Rattle.model.specs.Layout.{Plan, region_count, map_count, fields, source, target, statement_kind, statement_a, statement_b, statement_c}
use Rattle.model.specs.declared.Refusal.TheVariants.{InvalidRecord, RegionMismatch}
use Rattle.model.specs.declared.StatementKind.{StatementKind}
use Rattle.model.specs.declared.StatementKind.TheVariants.{For, Load, Call, Copy, Read, Write, Reduce, Unknown}
use Rattle.model.specs.declared.Access.{Access}
use Rattle.model.specs.declared.Access.TheVariants.{Nothing, Reads, Writes, Reduces}

-- "Kind 0 FOR", "1 LOAD", "2 CALL", "3 COPY", "4 READ and 5 WRITE", "6 REDUCE"
unfoldable pub kind_of : ℕ → StatementKind
kind_of k = get_or (For ∷ Load ∷ Call ∷ Copy ∷ Read ∷ Write ∷ Reduce ∷ []) k Unknown

-- "Kind 0 FOR .. opens a loop"
unfoldable pub opens_loop : StatementKind → Bool
opens_loop For = true
opens_loop Load = false
opens_loop Call = false
opens_loop Copy = false
opens_loop Read = false
opens_loop Write = false
opens_loop Reduce = false
opens_loop Unknown = false

-- "Kinds 1 to 3 define that loop's next variable"
unfoldable pub defines_variable : StatementKind → Bool
defines_variable For = false
defines_variable Load = true
defines_variable Call = true
defines_variable Copy = true
defines_variable Read = false
defines_variable Write = false
defines_variable Reduce = false
defines_variable Unknown = false

-- "LOAD is also a read"; "LOAD, READ, WRITE and REDUCE are accesses"
unfoldable pub access_of : StatementKind → Access
access_of For = Nothing
access_of Load = Reads
access_of Call = Nothing
access_of Copy = Nothing
access_of Read = Reads
access_of Write = Writes
access_of Reduce = Reduces
access_of Unknown = Nothing

-- all but `Nothing` are accesses
unfoldable pub is_access : Access → Bool
is_access Nothing = false
is_access Reads = true
is_access Writes = true
is_access Reduces = true

module _ (P : Plan) where
  -- the kind of statement s
  unfoldable pub kind : ℕ → StatementKind
  kind s = kind_of (statement_kind P s)

  -- statement s opens a loop
  unfoldable pub opens : ℕ → Bool
  opens s = opens_loop (kind s)

  -- statement s defines a variable
  unfoldable pub defines : ℕ → Bool
  defines s = defines_variable (kind s)

  -- statement s is an access
  unfoldable pub accesses : ℕ → Bool
  accesses s = is_access (access_of (kind s))

  -- the FOR nearest before statement s, and the FOR of the loop in which s stands
  unfoldable pub loop_before : ℕ → ℕ
  loop_before zero = 0
  loop_before (suc s) = pick (opens s) s (loop_before s)

  abbrev pub loop : ℕ → ℕ
  loop s = loop_before (suc s)

  -- how many variables the loop has before statement s: FOR gives it "its variable 0"
  unfoldable pub variables : ℕ → ℕ
  variables zero = 0
  variables (suc s) = pick (opens s) 1 (pick (defines s) (suc (variables s)) (variables s))

  -- the statement that defines variable v of the loop, as seen from statement s
  unfoldable pub definition : ℕ → ℕ → ℕ
  definition zero v = 0
  definition (suc s) v = pick (opens s and v =? 0 or defines s and v =? variables s) s (definition s v)

  -- the number of the variable that a statement works on: "LOAD (a = map, b = variable, ..)", "COPY (a = variable)", ..
  unfoldable pub operand_by : StatementKind → ℕ → ℕ
  operand_by For s = 0
  operand_by Load s = statement_b P s
  operand_by Call s = statement_b P s
  operand_by Copy s = statement_a P s
  operand_by Read s = statement_a P s
  operand_by Write s = statement_a P s
  operand_by Reduce s = statement_a P s
  operand_by Unknown s = 0

  -- the number of the variable that statement s works on
  unfoldable pub operand : ℕ → ℕ
  operand s = operand_by (kind s) s

  -- the variable that statement s works on, as the statement that defines it
  unfoldable pub operand_definition : ℕ → ℕ
  operand_definition s = definition s (operand s)

  -- the field of an access: "LOAD reads the field it names", "c = field holding the map"; READ, WRITE and REDUCE "b = field"
  unfoldable pub field_by : StatementKind → ℕ → ℕ
  field_by For s = 0
  field_by Load s = statement_c P s
  field_by Call s = 0
  field_by Copy s = 0
  field_by Read s = statement_b P s
  field_by Write s = statement_b P s
  field_by Reduce s = statement_b P s
  field_by Unknown s = 0

  -- the field of access s
  unfoldable pub access_field : ℕ → ℕ
  access_field s = field_by (kind s) s

  -- "A variable belongs to one region: the loop's, the map's target, or the copied one's"
  unfoldable pub region_by : StatementKind → ℕ → (ℕ → ℕ) → ℕ
  region_by For s earlier = statement_a P s
  region_by Load s earlier = target P (statement_a P s)
  region_by Call s earlier = target P (statement_a P s)
  region_by Copy s earlier = earlier (operand_definition s)
  region_by Read s earlier = 0
  region_by Write s earlier = 0
  region_by Reduce s earlier = 0
  region_by Unknown s earlier = 0

  -- the region of the variable that statement s defines
  unfoldable pub variable_region : ℕ → ℕ
  variable_region s = course 0 (λ t earlier. region_by (kind t) t earlier) s

  -- "An access is centered if its variable is 0 or reached from 0 by COPY alone"
  unfoldable pub centered_by : StatementKind → ℕ → (ℕ → Bool) → Bool
  centered_by For s earlier = true
  centered_by Load s earlier = false
  centered_by Call s earlier = false
  centered_by Copy s earlier = earlier (operand_definition s)
  centered_by Read s earlier = false
  centered_by Write s earlier = false
  centered_by Reduce s earlier = false
  centered_by Unknown s earlier = false

  -- whether the variable that statement s defines is centered
  unfoldable pub centered : ℕ → Bool
  centered s = course false (λ t earlier. centered_by (kind t) t earlier) s

  -- the region that a statement's variable belongs to
  abbrev pub operand_region : ℕ → ℕ
  operand_region s = variable_region (operand_definition s)

  -- Stray: an unknown kind, an undefined number, a field or operator out of range, an unused byte not 0, a statement before any FOR
  -- (its loop has no variables), "At most 16 variables per loop; a defining record beyond that"
  unfoldable pub statement_formed_by : StatementKind → ℕ → Bool
  statement_formed_by For s = statement_a P s <? region_count P and statement_b P s =? 0 and statement_c P s =? 0
  statement_formed_by Load s =
      statement_a P s <? map_count P and statement_b P s <? variables s and variables s <? 16
      and statement_c P s <? fields P (operand_region s)
  statement_formed_by Call s =
      statement_a P s <? map_count P and statement_b P s <? variables s and variables s <? 16 and statement_c P s =? 0
  statement_formed_by Copy s =
      statement_a P s <? variables s and variables s <? 16 and statement_b P s =? 0 and statement_c P s =? 0
  statement_formed_by Read s =
      statement_a P s <? variables s and statement_b P s <? fields P (operand_region s) and statement_c P s =? 0
  statement_formed_by Write s =
      statement_a P s <? variables s and statement_b P s <? fields P (operand_region s) and statement_c P s =? 0
  statement_formed_by Reduce s =
      statement_a P s <? variables s and statement_b P s <? fields P (operand_region s) and statement_c P s <? 4
  statement_formed_by Unknown s = false

  -- a record of section 4 by its kind
  unfoldable pub statement_formed : ℕ → Bool
  statement_formed s = statement_formed_by (kind s) s

  -- Mismatch: "LOAD and CALL need a variable of the map's source"
  unfoldable pub statement_agrees_by : StatementKind → ℕ → Bool
  statement_agrees_by For s = true
  statement_agrees_by Load s = operand_region s =? source P (statement_a P s)
  statement_agrees_by Call s = operand_region s =? source P (statement_a P s)
  statement_agrees_by Copy s = true
  statement_agrees_by Read s = true
  statement_agrees_by Write s = true
  statement_agrees_by Reduce s = true
  statement_agrees_by Unknown s = true

  -- the regions of statement s agree
  unfoldable pub statement_agrees : ℕ → Bool
  statement_agrees s = statement_agrees_by (kind s) s

  -- "at each 5, 6"
  unfoldable pub statement_check : ℕ → Outcome
  statement_check s =
      require (statement_formed s) (InvalidRecord (4 * 256 + s)) then require (statement_agrees s) (RegionMismatch (4 * 256 + s))
