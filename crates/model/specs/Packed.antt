-- An answer as one number of 64 bits, for callers in C and Rust, and the way they read it.
use Rattle.std.specs.Prelude.{ℕ, ◌+◌, ◌*◌, ◌/◌, ◌%◌, ◌^◌, Result, Ok, Err}
use Rattle.model.specs.Outcomes.{Answer, Written, Charged}
use Rattle.model.specs.Tests.{pick, ◌=?◌}
use Rattle.model.specs.Answers.{refusal, refusal_report, report, written_report, charge_report}
use Rattle.model.specs.declared.Refusal.{Refusal}
use Rattle.model.specs.declared.Acceptance.{Acceptance}
use Rattle.model.specs.declared.Charge.{Charge}
use Rattle.model.specs.declared.Report.{Report}
use Rattle.model.specs.declared.WrittenReport.{WrittenReport}
use Rattle.model.specs.declared.ChargeReport.{ChargeReport}

-- what stands in the bits: a number in the low 8, and the value that goes with it in the 56 above them
pub record TaggedValue : Type 0 where
  pub number : ℕ
  pub value : ℕ

-- this value under this number
abbrev pub tagged : ℕ → ℕ → TaggedValue
tagged n v = record { number = n; value = v }

-- number and value as one number. What would not fit its bits is cut to them
unfoldable pub pack : TaggedValue → ℕ
pack t = t.number % 2 ^ 8 + t.value % 2 ^ 56 * 2 ^ 8

-- number and value from the bits
unfoldable pub unpack : ℕ → TaggedValue
unpack n = tagged (n % 2 ^ 8) (n / 2 ^ 8)

-- how answers of one type are packed: what an answer tells, its number and value, and what a caller makes of number and value
pub record Packing (A R : Type 0) : Type 0 where
  pub report : A → R
  pub tag : A → TaggedValue
  pub read : TaggedValue → R

-- an answer as one number
abbrev pub packed_by : {A R : Type 0} → Packing A R → A → ℕ
packed_by packing r = pack (packing.tag r)

-- what the caller reads from the number
abbrev pub unpacked_by : {A R : Type 0} → Packing A R → ℕ → R
unpacked_by packing n = packing.read (unpack n)

-- a refusal: its number, and the place above it
abbrev pub refusal_tag : Refusal → TaggedValue
refusal_tag r = tagged (refusal_report r).number (refusal_report r).place

-- an answer of any type: under number 0 the value that stands for what is answered, or the refusal
unfoldable pub tag_by : {A : Type 0} → (A → ℕ) → Result A Refusal → TaggedValue
tag_by value (Ok a) = tagged 0 (value a)
tag_by value (Err r) = refusal_tag r

-- an acceptance: the counts in 8 bits each
unfoldable pub acceptance_value : Acceptance → ℕ
acceptance_value a = a.symbols % 2 ^ 8 + a.nodes % 2 ^ 8 * 2 ^ 8 + a.steps % 2 ^ 8 * 2 ^ 16

abbrev pub answer_tag : Answer → TaggedValue
answer_tag = tag_by acceptance_value

-- what a caller makes of them: under number 0 the counts, under any other a refusal at the place
unfoldable pub answer_read : TaggedValue → Report
answer_read t =
    pick (t.number =? 0)
    (report (Ok (record { symbols = t.value % 2 ^ 8; nodes = t.value / 2 ^ 8 % 2 ^ 8; steps = t.value / 2 ^ 16 % 2 ^ 8 })))
    (refusal t.number t.value)

-- how answers of checking and evaluating are packed
abbrev pub answer_packing : Packing Answer Report
answer_packing = record { report = report; tag = answer_tag; read = answer_read }

-- such an answer as one number, and what the caller reads from it
abbrev pub packed : Answer → ℕ
packed = packed_by answer_packing

abbrev pub unpacked : ℕ → Report
unpacked = unpacked_by answer_packing

-- what was written: the length
abbrev pub written_tag : Written → TaggedValue
written_tag = tag_by (λ n. n)

-- what a caller makes of them: under number 0 the length, under any other a refusal at the place
unfoldable pub written_read : TaggedValue → WrittenReport
written_read t =
    pick (t.number =? 0) (written_report (Ok t.value)) (record { number = t.number; place = t.value; length = 0 })

-- how answers of entry points that write a list are packed
abbrev pub written_packing : Packing Written WrittenReport
written_packing = record { report = written_report; tag = written_tag; read = written_read }

-- a charge: the count in 16 bits, the cents in 24 and the remainder in 16
unfoldable pub charge_value : Charge → ℕ
charge_value c = c.count % 2 ^ 16 + c.cents % 2 ^ 24 * 2 ^ 16 + c.remainder % 2 ^ 16 * 2 ^ 40

abbrev pub charge_tag : Charged → TaggedValue
charge_tag = tag_by charge_value

-- what a caller makes of them: under number 0 the charge, under any other a refusal at the place
unfoldable pub charge_read : TaggedValue → ChargeReport
charge_read t =
    pick (t.number =? 0)
    (charge_report (Ok (record { count = t.value % 2 ^ 16; cents = t.value / 2 ^ 16 % 2 ^ 24; remainder = t.value / 2 ^ 40 % 2 ^ 16 })))
    (record { number = t.number; place = t.value; count = 0; cents = 0; remainder = 0 })

-- how charges are packed
abbrev pub charge_packing : Packing Charged ChargeReport
charge_packing = record { report = charge_report; tag = charge_tag; read = charge_read }
