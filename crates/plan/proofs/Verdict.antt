-- The verdict of a plan from its layout and its records. Assumes nothing.
use mathlib.Core.Path.{◌≡◌}
use Rattle.std.specs.Prelude.{Ok, Err}
use Rattle.model.specs.Bytes.{Bytes}
use Rattle.model.specs.Outcomes.{◌then◌, conclude}
use Rattle.model.specs.Layout.{Plan, plan_of, layout_check}
use Rattle.model.specs.Verdict.{records_check, plan_check, accepted, verdict}
use Rattle.model.specs.declared.Refusal.{Refusal}
use Rattle.model.proofs.Accepted.{facts}

pub layout_refused : (p : Bytes) {r : Refusal} → layout_check p ≡ Err r → verdict p ≡ Err r
unfolding verdict plan_check ◌then◌ conclude
layout_refused p refused = rw refused

-- after the layout the records decide
module _ (p : Bytes) {P : Plan} (laid-out : layout_check p ≡ Ok tt) (is : P ≡ plan_of p) where
  pub records_refused : {r : Refusal} → records_check P ≡ Err r → verdict p ≡ Err r
  unfolding verdict plan_check ◌then◌ conclude
  records_refused refused = rw (laid-out, ← is, refused)

  pub accepts : records_check P ≡ Ok tt → verdict p ≡ Ok (accepted P)
  unfolding verdict plan_check ◌then◌ conclude
  accepts passed = rw (is, laid-out, rw is at passed)

pub ruleset reading = (layout_refused, records_refused, accepts, facts)
