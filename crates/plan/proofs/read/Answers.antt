-- The records passed, so what each of them is is known. Assumes nothing.
use Rattle.std.proofs.Common.{◌≡◌, Ok, arith, rules}
use Rattle.model.specs.Verdict.{records_check}
use Rattle.model.proofs.Accepted.{facts}
use Rattle.layout.specs.Sections.{plan_in}
use Rattle.plan.proofs.read.Goals as goal

pub invariant_of-result : goal.invariant_of-result
invariant_of-result c =
    let P = plan_in c.in_ok-sections.sections in
    let passed : records_check P ≡ Ok tt = grind arith in
    record { facts = facts P passed; regions_known = search rules }
