-- The pass keeps what is held of the statements before s equal to the definitions; at its end the tables hold what the
-- check of the loops asks of them. Assumes nothing.
use Prim.Native.Nat.{◌≤◌, ◌<◌}
use mathlib.Core.Path.{◌≡◌, sym, ◌∙◌}
use native.Mathlib.Omega.{arith}
use Rattle.std.specs.Prelude.{Ok}
use Rattle.model.specs.Outcomes.{◌then◌}
use Rattle.model.specs.Layout.{Plan, statement_count}
use Rattle.model.specs.Statements.{statement_check}
use Rattle.model.specs.Verdict.{statements_check, loops_check}
use Rattle.model.proofs.Outcomes.{scan_pass}
use Rattle.primitives.proofs.Scanning.{scan_refuses, scan_ends}
use Rattle.loops.specs.Tables.{TablesHold}
use Rattle.loops.specs.Section.{StatementSources}
use Rattle.loops.specs.Statements.{EntryAt}
use Rattle.loops.proofs.Accesses.{access_limits}
use Rattle.primitives.proofs.Stages.{handed_on}
use Rattle.loops.proofs.StatementLaws.{earlier, context, pass_next, pass_end}
use Rattle.loops.proofs.section.check_statements_and_loops.Goals as goal
use Rattle.loops.proofs.section.check_statements_and_loops.Goals.{After-check, After-check_loops}

-- what is entered of statement s, and what its check says
read_is : (c : After-check) (P : Plan) → StatementSources P c.args.regions.now c.args.maps.now c.args.statements.now
    → (c.loop-s.s < 64) × EntryAt P c.loop-s.s c.entry-entry.result × (c.check.result ≡ statement_check P c.loop-s.s)
read_is c P from =
    let pass = c.loop-s.invariant P from in
    let few : c.loop-s.s < 64 = omega (arith, c.loop-s-test.true, c.requires) in
    let at = c.statement_at-statement.ensures P from.statements_are in
    let entry = c.entry-entry.ensures P from.maps_are at (earlier P pass) in
    let asked = context P pass few entry (c.byte_at-region.ensures.0 ∙ rw (c.enter.ensures, c.from.ensures)) in
    (few, entry, c.check.ensures P from.regions_are from.maps_are at asked)

pub returns-in_err-check : goal.returns-in_err-check
unfolding ◌then◌
returns-in_err-check c =
    λ P from.
    let (few, entry, outcome) = read_is (goal.at.returns-in_err-check c).After-check P from in
    let first = scan_refuses (c.loop-s.invariant P from).scanning (rw from.statements_are c.loop-s-test.true) (sym outcome ∙ c.in_err-check.was) in
    rw (handed_on _ c.from_residual.ensures.1, first)

pub loop-s-preserved : goal.loop-s-preserved
loop-s-preserved c =
    λ P from.
    let (few, entry, outcome) = read_is (goal.at.loop-s-preserved c).After-check P from in
    rw (c.enter-in-loop-s.ensures, c.enter.ensures, (c.statement_at-statement.ensures P from.statements_are).kind_is)
    (pass_next P (c.loop-s.invariant P from) few entry (rw from.statements_are c.loop-s-test.true) (sym outcome ∙ c.in_ok-check.was))

-- all statements passed, and what the check of the loops says
all_passed : (c : After-check_loops) (P : Plan) → StatementSources P c.args.regions.now c.args.maps.now c.args.statements.now →
    (statements_check P ≡ Ok tt) × TablesHold P (statement_count P) c.loop-s.tables × (c.check_loops.result ≡ loops_check P)
all_passed c P from =
    let pass = c.loop-s.invariant P from in
    let end : statement_count P ≤ c.loop-s.s = rw from.statements_are c.loop-s-test.false in
    let passed = scan_ends pass.scanning end in
    let tables = pass_end P pass end in (
      passed,
      tables,
      c.check_loops.ensures P (record {
        section = from.statements_are;
        operands_are = tables.operands_are;
        regions_are = tables.regions_are;
        centers_are = tables.centers_are;
        limits = λ s lt. access_limits P from.few_regions from.few_fields s (scan_pass _ _ passed s lt);
      }),
    )

pub returns-in_err-check_loops : goal.returns-in_err-check_loops
unfolding ◌then◌
returns-in_err-check_loops c =
    λ P from.
    let all = all_passed (goal.at.returns-in_err-check_loops c).After-check_loops P from in
    rw (handed_on _ c.from_residual-in_err-check_loops.ensures.1, all.0) (sym all.2 ∙ c.in_err-check_loops.was)

pub returns : goal.returns
unfolding ◌then◌
returns c =
    λ P from.
    let all = all_passed (goal.at.returns c).After-check_loops P from in
    (rw (all.0) (sym all.2 ∙ c.in_ok-check_loops.was), all.1)
