-- What is known of a plan and a data set that were accepted together, exactly when they are, and how many words their sets take at most.
-- Assumes nothing.
use Prim.Native.Nat.{◌≤◌}
use mathlib.Core.Path.{◌≡◌}
use mathlib.Core.Logic.{◌↔◌}
use native.Mathlib.Nat.{mul-le-mul}
use native.Mathlib.Omega.{arith}
use Rattle.std.specs.Prelude.{Ok}
use Rattle.model.specs.Bytes.{Bytes}
use Rattle.model.specs.Layout.{plan_of}
use Rattle.model.specs.Verdict.{verdict}
use Rattle.model.specs.AcceptedPlans.{Facts, Limits}
use Rattle.model.specs.DataSets.{data_of, data_check}
use Rattle.model.specs.Evaluation.{MOST_WORDS, words_needed, inputs_check}
use Rattle.model.specs.PlainPlan.{WellFormed, Parallelizable, Licensed, Concluded}
use Rattle.model.specs.PlainData.{Fits}
use Rattle.model.proofs.Outcomes.{then_pass, passes_then, conclude_ok, conclude_pass}
use Rattle.model.proofs.Accepted.{limits, plan_accepted}
use Rattle.model.proofs.Fitting.{fit}
use Rattle.model.proofs.DataAgrees.{data_fits}
use Rattle.model.proofs.Demand2.{demand_2}

-- the records and the limits of the plan, and that the data set passed
pub record AcceptedInputs (p d : Bytes) : Type 0 where
  pub facts : Facts (plan_of p)
  pub limits : Limits (plan_of p)
  pub fits : data_check (plan_of p) d ≡ Ok tt

module _ (p d : Bytes) where
  pub inputs_accepted : inputs_check p d ≡ Ok tt → AcceptedInputs p d
  unfolding inputs_check
  inputs_accepted h =
      let (plan_passes, data_passes) = then_pass _ _ h in
      let plan = plan_accepted p plan_passes in
      record { facts = plan.records; limits = limits p plan.layout; fits = data_passes }

  -- plan and data set pass exactly when the plain statements about them hold
  pub inputs_exactly :
      (inputs_check p d ≡ Ok tt) ↔ (WellFormed p × Parallelizable p × Licensed p × Concluded p × Fits (plan_of p) d)
  unfolding verdict inputs_check
  inputs_exactly = (
    λ h.
        let (plan_passes, data_passes) = then_pass _ _ h in
        let (formed, loops, steps, needs) = (demand_2 p).0 (_, conclude_pass _ _ plan_passes) in
        (formed, loops, steps, needs, (data_fits (plan_of p) d).0 data_passes),
    λ w.
        let (formed, loops, steps, needs, fits) = w in
        let (a, h) = (demand_2 p).1 (formed, loops, steps, needs) in
        passes_then (conclude_ok _ _ a h).0 ((data_fits (plan_of p) d).1 fits),
  )

  -- at most 48 nodes of at most 16 pieces
  pub words_most : AcceptedInputs p d → words_needed (plan_of p) (data_of d) ≤ MOST_WORDS
  words_most inputs =
      let few = mul-le-mul {n₂ = 48} {m₂ = 16} inputs.limits.few_nodes (fit (plan_of p) d inputs.fits).few_pieces in
      omega arith
