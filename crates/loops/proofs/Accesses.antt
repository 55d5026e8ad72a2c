-- The accesses of loops, read from section 4's bytes and tables. Assumes nothing.
use Prim.Native.Nat.{ℕ, ◌≤◌, ◌<◌}
use mathlib.Core.Path.{◌≡◌, refl, sym, ◌∙◌}
use mathlib.Core.Bool.{Bool, true, false, not, ◌&&◌}
use mathlib.Core.List.{List}
use native.Mathlib.Omega.{arith}
use lib.Dec.{ltb}
use lib.ListN.{get_or, get_or-eq_default}
use borrow.Author.Tests.{ltb-true, ltb-false}
use Rattle.std.specs.Prelude.{Ok}
use Rattle.model.specs.Tests.{Is, ◌and◌, non}
use Rattle.model.specs.Bytes.{Bytes}
use Rattle.model.specs.Layout.{Plan, region_count, fields, statement_count, statement_b, statement_c}
use Rattle.model.specs.Statements.{kind, access_of, is_access, accesses, loop, operand_definition, operand_region, field_by, access_field, statement_formed_by, statement_formed, statement_check}
use Rattle.model.specs.Parallel.{is_reduce, reduces, uncentered}
use Rattle.model.specs.declared.Access.{Access}
use Rattle.model.specs.declared.StatementKind.{StatementKind}
use Rattle.model.specs.declared.StatementKind.TheVariants.{For, Load, Call, Copy, Read, Write, Reduce, Unknown}
use Rattle.model.proofs.Tests.{falsum, both, less}
use Rattle.model.proofs.Outcomes.{then_pass, require_pass}
use Rattle.loops.specs.declared.statements.Statement.{Statement}
use Rattle.loops.specs.declared.tables.StatementLoops.{StatementLoops}
use Rattle.loops.specs.Statements.{StatementAt}
use Rattle.loops.specs.Parallel.{access_at, AccessLimits, LoopsOf, PointersKnown, pointer_reduction}
use Rattle.loops.proofs.StatementLaws.{operand_most}
use Rattle.loops.proofs.Parallelizable.{own_reduction}

module _ (P : Plan) (loops : StatementLoops) (known : LoopsOf P loops) where
  pub access_is : {s : ℕ} → s < statement_count P → {r : Statement} → StatementAt P s r → {access : Access} {o region field : ℕ} {z : Bool}
      → access ≡ access_of r.kind → field ≡ access_field P s → o ≡ get_or loops.operands.now s 0 → region ≡ get_or loops.variable_regions.now o 0 → z ≡ get_or loops.centered.now o false
      → record { access = access; region = region; field = field; centered = z; operator = r.c } ≡ access_at P s
  unfolding access_at
  access_is {s} lt is a g o r z =
      let at : _ ≡ operand_definition P s = o ∙ known.operands_are.holds s lt in
      let earlier : operand_definition P s < statement_count P = omega (arith, operand_most P s) in
      rw (
        a,
        is.kind_is,
        g,
        r,
        z,
        at,
        known.regions_are.holds (operand_definition P s) earlier,
        known.centers_are.holds (operand_definition P s) earlier,
        is.c_is,
      )

module _ (P : Plan) {statements : Bytes} {operands : List ℕ} {centers : List Bool} (known : PointersKnown P statements operands centers) where
  -- statement s in its own loop, from what is read of its kind and of the variable that it works on
  pub reduction_is : {s : ℕ} → s < statement_count P → {k : StatementKind} {a : Access} {o : ℕ} {r z : Bool}
      → r ≡ is_reduce a → a ≡ access_of k → k ≡ kind P s → z ≡ get_or centers o false → o ≡ get_or operands s 0
      → (r && not z) ≡ pointer_reduction P (loop P s) s
  unfolding reduces uncentered non ◌and◌
  reduction_is {s} lt r a k z o =
      let earlier : operand_definition P s < statement_count P = omega (arith, operand_most P s) in
      rw (r, a, k, z, o, known.operands_are.holds s lt, known.centers_are.holds (operand_definition P s) earlier) (sym (own_reduction P s))

-- an access that passed its check is within the limits
module _ (P : Plan) (few_regions : region_count P ≤ 16) (few_fields : (r : ℕ) → r < region_count P → fields P r ≤ 8) (s : ℕ) where
  -- a field that is there is one of eight, of one of sixteen regions
  field_limits : (g : ℕ) → g < fields P (operand_region P s) → (operand_region P s < 16) × (g < 8)
  field_limits g h = go (ltb (operand_region P s) (region_count P)) refl
    where
      go : (b : Bool) → ltb (operand_region P s) (region_count P) ≡ b → (operand_region P s < 16) × (g < 8)
      go true e =
          let listed = ltb-true (operand_region P s) (region_count P) e in
          let few = few_fields (operand_region P s) listed in
          (omega (arith, few_regions), omega arith)
      go false e =
          let none = get_or-eq_default P.regions 0 (ltb-false (operand_region P s) (region_count P) e) in absurd (omega arith)

  limits_of : (g : ℕ) → access_field P s ≡ g → g < fields P (operand_region P s) → (Is (reduces P s) → statement_c P s < 4) → AccessLimits P s
  limits_of g e h o =
      let few = field_limits g h in
      record { region_few = few.0; field_few = rw e few.1; operator_few = o }

  pub access_limits : statement_check P s ≡ Ok tt → Is (accesses P s) → AccessLimits P s
  unfolding statement_check statement_formed statement_formed_by accesses is_access access_of access_field field_by reduces is_reduce
  access_limits h a = go (kind P s) refl (require_pass _ _ (then_pass _ _ h).0) a
    where
      go : (k : StatementKind) → kind P s ≡ k → Is (statement_formed_by P k s) → Is (is_access (access_of k)) → AccessLimits P s
      go For e f a = falsum a
      go Load e f a = limits_of (statement_c P s) (rw e) (less (both (both (both f).1).1).1) (λ r. falsum (rw e at r))
      go Call e f a = falsum a
      go Copy e f a = falsum a
      go Read e f a = limits_of (statement_b P s) (rw e) (less (both (both f).1).0) (λ r. falsum (rw e at r))
      go Write e f a = limits_of (statement_b P s) (rw e) (less (both (both f).1).0) (λ r. falsum (rw e at r))
      go Reduce e f a = limits_of (statement_b P s) (rw e) (less (both (both f).1).0) (λ r. less (both (both f).1).1)
      go Unknown e f a = falsum a
