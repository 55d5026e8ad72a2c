-- Before each need, what is left to settle decides (Settling); the search for its step ended at the first that concludes it, or at none
-- (Searching). Assumes nothing.
use Rattle.std.proofs.Common.{◌≡◌, ◌<◌, arith}
use Rattle.model.proofs.Tests.{same! }
use Rattle.primitives.proofs.Searching.{searching_found, searching_end}
use Rattle.model.specs.Layout.{step_count}
use Rattle.plan.specs.Plans.{plan_at}
use Rattle.plan.proofs.Settling.{settling_unlisted, settling_met, settling_unmet}
use Rattle.plan.proofs.needs.settle.Goals as goal
use Rattle.plan.proofs.needs.settle.Goals.{then-loop-t-test+then-conclusions-t, else-loop-t-test}

pub returns-in-Unlisted : goal.returns-in-Unlisted
returns-in-Unlisted c = settling_unlisted _ _ _ c.needs.invariant c.unmet_need.ensures c.in-Unlisted.is (omega (arith, c.statement_count-i-end.ensures))

pub returns-in-None : goal.returns-in-None
returns-in-None c =
    elim c.loop-t-test.branch [
      | then-loop-t-test+then-conclusions-t w ↦ (let e = w.found-is in let f = c.in-None.is in cc)
      | else-loop-t-test w ↦ settling_unmet _ _ _ c.needs.invariant c.in-Conclusion.is
          (omega (arith, c.statement_count-i-end.ensures)) c.unmet_need-in-None.ensures
          (let end = searching_end c.loop-t.invariant (omega (arith, c.step_count-t-end.ensures)) in omega (arith, c.step_count-t-end.ensures))
    ]

pub needs-preserved : goal.needs-preserved
needs-preserved c =
    elim c.loop-t-test.branch [
      | then-loop-t-test+then-conclusions-t w ↦ (
          let inside : c.loop-t.t < step_count (plan_at c.args.tables) = omega (arith, c.step_count-t-end.ensures) in
          let step : c.loop-t.t ≡ c.in-Some.step = (let e = w.found-is in let f = c.in-Some.is in cc) in
          rw (← step) (settling_met _ _ _ c.needs.invariant c.in-Conclusion.is (omega (arith, c.statement_count-i-end.ensures))
          (searching_found c.loop-t.invariant inside (same! w.if-conclusions-t.true)) inside (omega (arith, c.statement_count-i-end.ensures))))
      | else-loop-t-test w ↦ (let e = w.found-is in let f = c.in-Some.is in cc)
    ]
