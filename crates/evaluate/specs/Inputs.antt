-- What reading plan and data set gives.
use Rattle.std.specs.Prelude.{◌≡◌, Result, Ok, Err}
use Rattle.model.specs.Bytes.{Bytes}
use Rattle.model.specs.Layout.{Plan, plan_of}
use Rattle.model.specs.DataSets.{DataSet, data_of}
use Rattle.model.specs.Evaluation.{inputs_check}
use Rattle.model.specs.declared.Refusal.{Refusal}
use Rattle.layout.specs.Sections.{plan_in}
use Rattle.evaluate.specs.declared.inputs.Inputs.{Inputs}

-- the plan and the data set of inputs that were accepted
abbrev pub plan_given : Inputs → Plan
plan_given inputs = plan_in inputs.reading.sections

abbrev pub data_given : Inputs → DataSet
data_given inputs = data_of inputs.«data».now

-- reading plan p and data set d gives these inputs
pub record InputsOf (p d : Bytes) (inputs : Inputs) : Type 0 where
  pub passes : inputs_check p d ≡ Ok tt
  pub plan_is : plan_given inputs ≡ plan_of p
  pub data_is : inputs.«data».now ≡ d

-- or is refused
abbrev pub InputsRead : Bytes → Bytes → Result Inputs Refusal → Type 0
InputsRead p d (Ok inputs) = InputsOf p d inputs
InputsRead p d (Err r) = inputs_check p d ≡ Err r
