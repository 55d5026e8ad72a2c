-- Charges by example: of the mesh of the private part, whose image is accessed and whose private part is owned; and of two regions. By
-- computation. Assumes nothing.
use Prim.Native.Nat.{ℕ}
use mathlib.Core.Path.{◌≡◌, refl}
use mathlib.Core.List.{[], ◌∷◌}
use Rattle.model.specs.Bytes.{Bytes}
use Rattle.model.specs.Answers.{charge_report}
use Rattle.model.specs.Encoding.{framed_bytes}
use Rattle.model.specs.Transfers.{transferring, charge}
use Rattle.model.specs.declared.ChargeReport.{ChargeReport}
use Rattle.model.proofs.Computing.{definitions}
use Rattle.model.proofs.FiledPlans.{plan}
use Rattle.model.proofs.PrivateExamples.{mesh, private_filing}

-- what is told of one node against another at a price, over these inputs
abbrev told : Bytes → Bytes → ℕ → ℕ → ℕ → ChargeReport
told p d accessed owned price = charge_report (charge p d (transferring accessed owned price))

abbrev charging : ℕ → ℕ → ℕ → ChargeReport
charging = told private_filing mesh

abbrev charges : ℕ → ℕ → ℕ → ChargeReport
charges n cents remainder = record { number = 0; place = 0; count = n; cents = cents; remainder = remainder }

abbrev refuses : ℕ → ChargeReport
refuses place = record { number = 17; place = place; count = 0; cents = 0; remainder = 0 }

-- element 1 is fetched for both pieces; the other way round nothing is
pub charged_example : (charging 1 5 12345 ≡ charges 2 24 690) × (charging 5 1 12345 ≡ charges 0 0 0) × (charging 1 1 1 ≡ charges 0 0 0)
unfolding definitions
charged_example = (refl, refl, refl)

-- the highest price, and what is refused
pub unpriced_example :
    (charging 1 5 1000000 ≡ charges 2 2000 0) × (charging 1 5 1000001 ≡ refuses 3) × (charging 6 5 1000001 ≡ refuses 1) × (charging 1 6 0 ≡ refuses 1)
unfolding definitions
unpriced_example = (refl, refl, refl, refl)

-- the equal pieces of two regions of one element each
abbrev two_regions : Bytes
two_regions = plan (1 ∷ 1 ∷ []) [] [] [] (1 ∷ 0 ∷ 0 ∷ 0 ∷ 1 ∷ 1 ∷ 0 ∷ 0 ∷ []) [] []

abbrev one_each : Bytes
one_each = framed_bytes 1 ((1 ∷ []) ∷ (0 ∷ 1 ∷ 0 ∷ 1 ∷ []) ∷ [] ∷ [] ∷ [])

-- the lowest place of those that apply
pub regions_example : (told two_regions one_each 0 1 1000001 ≡ refuses 2) × (told two_regions one_each 0 2 1000001 ≡ refuses 1)
unfolding definitions
regions_example = (refl, refl)
