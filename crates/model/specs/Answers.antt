-- "What comes out": number and place of a refusal, and the counts of an acceptance.
use Rattle.std.specs.Prelude.{ℕ, Ok, Err}
use Rattle.model.specs.Outcomes.{Answer, Written, Charged}
use Rattle.model.specs.declared.Refusal.{Refusal}
use Rattle.model.specs.declared.Refusal.TheVariants.{Truncated, UnknownEdition, TrailingBytes, InvalidLength, InvalidRecord, RegionMismatch, DuplicateNode, NotParallelizable, AssignmentCount, UnlicensedStep, UnmetNeed, InvalidData, InvalidEntry, InvalidPartition, OutputTooSmall, NotFound, InvalidCharge}
use Rattle.model.specs.declared.Report.{Report}
use Rattle.model.specs.declared.WrittenReport.{WrittenReport}
use Rattle.model.specs.declared.ChargeReport.{ChargeReport}

-- "Refusal carries number and place, counts 0"
abbrev pub refusal : ℕ → ℕ → Report
refusal n p = record { number = n; place = p; symbols = 0; nodes = 0; steps = 0 }

-- the table of refusals: column "no." and the place
abbrev pub refusal_report : Refusal → Report
refusal_report (Truncated p) = refusal 1 p
refusal_report UnknownEdition = refusal 2 0
refusal_report (TrailingBytes p) = refusal 3 p
refusal_report (InvalidLength p) = refusal 4 p
refusal_report (InvalidRecord p) = refusal 5 p
refusal_report (RegionMismatch p) = refusal 6 p
refusal_report (DuplicateNode p) = refusal 7 p
refusal_report (NotParallelizable p) = refusal 8 p
refusal_report (AssignmentCount p) = refusal 9 p
refusal_report (UnlicensedStep p) = refusal 10 p
refusal_report (UnmetNeed p) = refusal 11 p
refusal_report InvalidData = refusal 12 0
refusal_report (InvalidEntry p) = refusal 13 p
refusal_report (InvalidPartition p) = refusal 14 p
refusal_report (OutputTooSmall p) = refusal 15 p
refusal_report (NotFound p) = refusal 16 p
refusal_report (InvalidCharge p) = refusal 17 p

-- what an answer tells: "Acceptance carries the numbers of symbols, nodes and steps", under number 0
unfoldable pub report : Answer → Report
report (Ok a) = record { number = 0; place = 0; symbols = a.symbols; nodes = a.nodes; steps = a.steps }
report (Err r) = refusal_report r

-- what an answer of a writing entry point tells: "the answer is the .. length", under number 0
unfoldable pub written_report : Written → WrittenReport
written_report (Ok n) = record { number = 0; place = 0; length = n }
written_report (Err r) = record { number = (refusal_report r).number; place = (refusal_report r).place; length = 0 }

-- what a charge tells: "The answer holds count, cents and remainder", under number 0
unfoldable pub charge_report : Charged → ChargeReport
charge_report (Ok c) = record { number = 0; place = 0; count = c.count; cents = c.cents; remainder = c.remainder }
charge_report (Err r) =
    record { number = (refusal_report r).number; place = (refusal_report r).place; count = 0; cents = 0; remainder = 0 }
