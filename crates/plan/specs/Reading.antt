-- What reading a plan gives.
use Rattle.std.specs.Prelude.{◌≡◌, Result, Ok, Err}
use Rattle.model.specs.Bytes.{Bytes}
use Rattle.model.specs.Layout.{plan_of}
use Rattle.model.specs.Verdict.{accepted, verdict}
use Rattle.model.specs.declared.Refusal.{Refusal}
use Rattle.layout.specs.Sections.{plan_in}
use Rattle.plan.specs.declared.reading.Reading.{Reading}

-- the plan in the bytes p is accepted, and this is its reading
pub record AcceptedReading (p : Bytes) (r : Reading) : Type 0 where
  pub accepts : verdict p ≡ Ok (accepted (plan_in r.sections))
  pub sections_are : plan_in r.sections ≡ plan_of p

-- reading the plan's bytes p gives its reading, or the refusal
abbrev pub ReadPromise : Bytes → Result Reading Refusal → Type 0
ReadPromise p (Ok r) = AcceptedReading p r
ReadPromise p (Err refusal) = verdict p ≡ Err refusal
