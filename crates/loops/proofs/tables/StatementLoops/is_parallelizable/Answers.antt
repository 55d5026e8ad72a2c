-- What was seen are the classes of the loop's accesses so far; one that is not admitted decides. Assumes nothing.
use Prim.Native.Nat.{ℕ, ◌<◌}
use mathlib.Core.Path.{◌≡◌, sym, ◌∙◌}
use native.Mathlib.Omega.{arith}
use Rattle.model.specs.Layout.{Plan}
use Rattle.loops.specs.Parallel.{access_at, entered, admitted, LoopsOf}
use Rattle.loops.proofs.SeenClasses.{seen_start, seen_next, not_parallelizable, seen_end}
use Rattle.loops.proofs.tables.StatementLoops.is_parallelizable.Goals as goal
use Rattle.loops.proofs.tables.StatementLoops.is_parallelizable.Goals.{After-enter}

-- statement s of the loop: its access is entered among those that were seen, and admitted or not
module _ (c : After-enter) (P : Plan) (known : LoopsOf P c.args.self.now) where
  abbrev s : ℕ
  s = c.loop-s.s-iterator.start

  access_is : c.access.result ≡ access_at P s
  access_is = rw (← c.in-Some.ensures.steps.1.1) (c.access.ensures P known)

  entered_is : c.enter.new.seen ≡ entered (access_at P s) c.loop-s.seen
  entered_is = rw access_is at c.enter.ensures.0

  admitted_is : admitted (access_at P s) (entered (access_at P s) c.loop-s.seen) ≡ c.enter.result
  admitted_is = cc (c.enter.ensures.1, entered_is, access_is)

pub loop-s-init : goal.loop-s-init
loop-s-init c =
    let items = c.loop_statements-s-items.ensures in
    rw (c.into_iter-s-iterator.ensures.into_iter_gives, items.0) (omega arith, items.1, λ P known o. (items.2 P known.section o, seen_start P _))

pub returns-then-not-enter : goal.returns-then-not-enter
returns-then-not-enter c =
    λ P known o.
    let point = (goal.at.returns-then-not-enter c).After-enter in
    let (span, seen) = c.loop-s.invariant.2 P known o in
    let lt : c.loop-s.s-iterator.start < c.loop-s.s-iterator.end = omega (arith, c.in-Some.ensures.steps.1.0) in
    sym (not_parallelizable P _ known.limits seen (span.own _ c.loop-s.invariant.0 lt) (omega (arith, span.bound)) (admitted_is point P known ∙ c.if-not-enter.true))

pub loop-s-preserved : goal.loop-s-preserved
loop-s-preserved c =
    let steps = c.in-Some.ensures.steps in
    let lt : c.loop-s.s-iterator.start < c.loop-s.s-iterator.end = omega (arith, c.in-Some.ensures.steps.1.0) in
    let point = (goal.at.loop-s-preserved c).After-enter in
    rw (steps.0, steps.1.2) (
      omega arith,
      c.loop-s.invariant.1,
      λ P known o.
          let (span, seen) = c.loop-s.invariant.2 P known o in
          (span, rw (entered_is point P known) (seen_next P _ seen (span.own _ c.loop-s.invariant.0 lt) (admitted_is point P known ∙ c.if-not-enter.false))),
    )

pub returns : goal.returns
returns c =
    λ P known o.
    let (span, seen) = c.loop-s.invariant.2 P known o in
    sym (seen_end P _ known.limits span (omega (arith, c.in-None.ensures.steps.1.0)) seen)
