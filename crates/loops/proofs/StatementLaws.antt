-- The pass of section 4's reader: its variables and tables follow the definitions from statement to statement. Assumes nothing.
use Prim.Native.Nat.{ℕ, zero, suc, ◌+◌, ◌≤◌, ◌<◌}
use mathlib.Core.Path.{◌≡◌, refl, sym, ◌∙◌}
use mathlib.Core.List.{List}
use mathlib.Core.Bool.{Bool, true, false, or-false}
use native.Mathlib.Numerals.{add-one}
use native.Mathlib.Omega.{arith}
use lib.ListN.{length, get_or, set, take, replicate, length-set}
use lib.Seq.{get_or-set_same, get_or-set_other}
use lib.Dec.{eqb}
use borrow.Author.Tests.{eqb-true, eqb-false}
use Rattle.std.specs.Prelude.{Ok}
use Rattle.model.specs.Tests.{Is, ◌and◌, ◌or◌, ◌=?◌, pick}
use Rattle.model.specs.Recursion.{below}
use Rattle.model.specs.Layout.{Plan, statement_count}
use Rattle.model.specs.Statements.{kind, opens_loop, opens, defines_variable, defines, variables, definition, operand, operand_definition, region_by, variable_region, centered_by, centered, statement_formed_by, statement_formed, statement_check}
use Rattle.model.specs.declared.StatementKind.{StatementKind}
use Rattle.model.specs.declared.StatementKind.TheVariants.{For, Load, Call, Copy, Read, Write, Reduce, Unknown}
use Rattle.model.proofs.Tests.{falsum, both, less, less!, pick_true, pick-false}
use Rattle.model.proofs.Outcomes.{then_pass, require_pass}
use Rattle.model.proofs.Recursion.{course_law}
use Rattle.primitives.proofs.Filling.{zeros}
use Rattle.primitives.proofs.Scanning.{Scanning, scanning_start, scan_passes}
use Rattle.loops.specs.declared.statements.StatementEntry.{StatementEntry}
use Rattle.loops.specs.declared.tables.StatementTables.{StatementTables}
use Rattle.loops.specs.declared.variables.Variables.{Variables}
use Rattle.loops.specs.Tables.{Table, TablesHold, with_entry}
use Rattle.loops.specs.Statements.{StatementContext, variables_of, LoopVariables, EarlierStatements, EntryAt, variables_after}
use Rattle.loops.proofs.TableLaws.{empty, stored, earlier_holds}

-- a list after a store, at every place
set-pick : (xs : List ℕ) (at v k : ℕ) → at < length xs → get_or (set xs at v) k 0 ≡ pick (k =? at) v (get_or xs k 0)
unfolding ◌=?◌
set-pick xs at v k room = go (eqb k at) refl
  where
    go : (b : Bool) → eqb k at ≡ b → get_or (set xs at v) k 0 ≡ pick (k =? at) v (get_or xs k 0)
    go true e = rw (eqb-true k at e) (get_or-set_same xs at v 0 room) ∙ sym (pick_true _ _ _ e)
    go false e = get_or-set_other xs at k v 0 (eqb-false k at e) ∙ sym (pick-false _ _ _ e)

-- a kind that opens a loop defines no further variable
opens_only : (k : StatementKind) → opens_loop k ≡ true → defines_variable k ≡ false
unfolding opens_loop defines_variable
opens_only For e = refl
opens_only Load e = falsum e
opens_only Call e = falsum e
opens_only Copy e = falsum e
opens_only Read e = refl
opens_only Write e = refl
opens_only Reduce e = refl
opens_only Unknown e = refl

module _ (P : Plan) where
  -- the definition of a variable is an earlier statement, or 0
  definition_most : (s k : ℕ) → definition P s k ≤ s
  unfolding definition pick
  definition_most zero k = omega arith
  definition_most (suc s) k = go (opens P s and k =? 0 or defines P s and k =? variables P s) (definition_most s k)
    where
      go : (b : Bool) → definition P s k ≤ s → pick b s (definition P s k) ≤ suc s
      go true h = omega arith
      go false h = omega arith

  pub operand_most : (s : ℕ) → operand_definition P s ≤ s
  unfolding operand_definition
  operand_most s = definition_most s (operand P s)

  -- before the first statement there are no variables
  pub variables_start : LoopVariables P 0 (variables_of 0 (replicate 16 0))
  unfolding variables definition
  variables_start = record { count_is = refl; long = refl; defined = λ k. zeros 16 k }

  module _ (s : ℕ) where
    opens_next : (k : ℕ) → opens P s ≡ true → defines P s ≡ false → definition P (s + 1) k ≡ pick (k =? 0) s (definition P s k)
    unfolding definition ◌and◌ ◌or◌
    opens_next k o d = rw (add-one s, definition, o, d, or-false (k =? 0))

    defines_next : (k : ℕ) → opens P s ≡ false → defines P s ≡ true → definition P (s + 1) k ≡ pick (k =? variables P s) s (definition P s k)
    unfolding definition ◌and◌ ◌or◌
    defines_next k o d = rw (add-one s, definition, o, d)

    keeps_next : (k : ℕ) → opens P s ≡ false → defines P s ≡ false → definition P (s + 1) k ≡ definition P s k
    unfolding definition ◌and◌ ◌or◌ pick
    keeps_next k o d = rw (add-one s, definition, o, d)

    -- the variables after statement s
    module _ (v : Variables) (room : Is (defines P s) → v.count < 16) (t : LoopVariables P s v) where
      pub variables_next : LoopVariables P (s + 1) (variables_after (kind P s) s v)
      unfolding opens defines variables variables_after pick ◌and◌
      variables_next = let long = t.long in go long (opens P s) (defines P s) refl refl
        where
          go : length v.definitions ≡ 16 → (o d : Bool) → opens P s ≡ o → defines P s ≡ d
              → LoopVariables P (s + 1) (variables_after (kind P s) s v)
          go long true d o e =
              rw o (record {
                count_is = rw (add-one s, variables, o);
                long = length-set v.definitions 0 s ∙ long;
                defined = λ k. set-pick v.definitions 0 s k (omega arith) ∙ rw (t.defined k) (sym (opens_next k o (opens_only (kind P s) o)));
              })
          go long false true o e =
              rw (o, e, less! (room e)) (record {
                count_is = rw (add-one s, variables, o, e, add-one v.count, t.count_is);
                long = length-set v.definitions v.count s ∙ long;
                defined =
                    λ k. set-pick v.definitions v.count s k (omega (arith, room e)) ∙ rw (t.count_is, t.defined k) (sym (defines_next k o e));
              })
          go long false false o e =
              rw (o, e) (record {
                count_is = rw (add-one s, variables, o, e) t.count_is;
                long = long;
                defined = λ k. t.defined k ∙ sym (keeps_next k o e);
              })

    -- a statement that passed defines no seventeenth variable
    pub room_left : statement_check P s ≡ Ok tt → Is (defines P s) → variables P s < 16
    unfolding statement_check statement_formed statement_formed_by defines defines_variable
    room_left h d = go (kind P s) (require_pass _ _ (then_pass _ _ h).0) d
      where
        go : (k : StatementKind) → Is (statement_formed_by P k s) → Is (defines_variable k) → variables P s < 16
        go For f d = falsum d
        go Load f d = less (both (both (both f).1).1).0
        go Call f d = less (both (both (both f).1).1).0
        go Copy f d = less (both (both f).1).0
        go Read f d = falsum d
        go Write f d = falsum d
        go Reduce f d = falsum d
        go Unknown f d = falsum d

    -- region and centeredness of the variable that statement s defines, from those of the variable that it copies
    pub region_value : s < 64 → {o copied : ℕ} {table : List ℕ} → Table 0 s table (variable_region P) → o ≡ operand_definition P s
        → copied ≡ get_or (take s table) o 0 → region_by P (kind P s) s (λ d. copied) ≡ variable_region P s
    unfolding region_by variable_region
    region_value few {o} {copied} holds e c =
        by_kind (kind P s) (rw e at (c ∙ earlier_holds 0 few holds o)) ∙ sym (course_law 0 (λ t earlier. region_by P (kind P t) t earlier) s)
      where
        by_kind : (k : StatementKind) → copied ≡ below 0 s (variable_region P) (operand_definition P s)
            → region_by P k s (λ d. copied) ≡ region_by P k s (below 0 s (variable_region P))
        by_kind For h = refl
        by_kind Load h = refl
        by_kind Call h = refl
        by_kind Copy h = h
        by_kind Read h = refl
        by_kind Write h = refl
        by_kind Reduce h = refl
        by_kind Unknown h = refl

    pub centered_value : s < 64 → {o : ℕ} {copied : Bool} {table : List Bool} → Table false s table (centered P) → o ≡ operand_definition P s
        → copied ≡ get_or (take s table) o false → centered_by P (kind P s) s (λ d. copied) ≡ centered P s
    unfolding centered_by centered
    centered_value few {o} {copied} holds e c =
        by_kind (kind P s) (rw e at (c ∙ earlier_holds false few holds o)) ∙ sym (course_law false (λ t earlier. centered_by P (kind P t) t earlier) s)
      where
        by_kind : (k : StatementKind) → copied ≡ below false s (centered P) (operand_definition P s)
            → centered_by P k s (λ d. copied) ≡ centered_by P k s (below false s (centered P))
        by_kind For h = refl
        by_kind Load h = refl
        by_kind Call h = refl
        by_kind Copy h = h
        by_kind Read h = refl
        by_kind Write h = refl
        by_kind Reduce h = refl
        by_kind Unknown h = refl

-- what the pass over the statements holds before statement s
pub record StatementPass (P : Plan) (s : ℕ) (v : Variables) (tables : StatementTables) : Type 0 where
  pub scanning : Scanning (statement_check P) (statement_count P) s
  pub variables_are : LoopVariables P s v
  pub tables_are : TablesHold P s tables

pub pass_start : (P : Plan) → StatementPass P 0 (variables_of 0 (replicate 16 0))
    (record { operands = replicate 64 0; variable_regions = replicate 64 0; centered = replicate 64 false })
pass_start P =
    record {
      scanning = scanning_start _ _;
      variables_are = variables_start P;
      tables_are = record { operands_are = empty; regions_are = empty; centers_are = empty };
    }

module _ (P : Plan) {s : ℕ} {tables : StatementTables} {v : Variables} (pass : StatementPass P s v tables) where
  pub earlier : EarlierStatements P s v.definitions tables.variable_regions tables.centered
  earlier =
      record {
        definitions_are = pass.variables_are.defined;
        regions_are = pass.tables_are.regions_are;
        centers_are = pass.tables_are.centers_are;
      }

  -- the tables with statement s entered, and what its check asks of them
  module _ {entry : StatementEntry} (few : s < 64) (e : EntryAt P s entry) where
    pub entered : TablesHold P (s + 1) (with_entry s entry tables)
    entered =
        record {
          operands_are = stored few e.operand_is pass.tables_are.operands_are;
          regions_are = stored few e.region_is pass.tables_are.regions_are;
          centers_are = stored few e.centered_is pass.tables_are.centers_are;
        }

    pub context : {region : ℕ} → region ≡ get_or (with_entry s entry tables).variable_regions entry.operand 0
        → StatementContext P s v.count region
    context r =
        record {
          count_is = pass.variables_are.count_is;
          region_is = r ∙ rw e.operand_is (entered.regions_are.holds _ (omega (arith, operand_most P s)));
        }

    pub pass_next : s < statement_count P → statement_check P s ≡ Ok tt
        → StatementPass P (s + 1) (variables_after (kind P s) s v) (with_entry s entry tables)
    pass_next lt p =
        let held = pass.variables_are in
        record {
          scanning = scan_passes pass.scanning lt p;
          variables_are = variables_next P s v (λ d. rw held.count_is (room_left P s p d)) held;
          tables_are = entered;
        }

  pub pass_end : statement_count P ≤ s → TablesHold P (statement_count P) tables
  pass_end le = let all : statement_count P ≡ s = omega (arith, pass.scanning.few) in rw all pass.tables_are
