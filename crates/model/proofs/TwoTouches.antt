-- What the three conditions of a parallelizable loop say of touches of one region and field. Assumes nothing.
use Prim.Native.Nat.{ℕ}
use mathlib.Core.Path.{◌≡◌}
use mathlib.Core.Logic.{◌⊎◌, inl, inr}
use native.Mathlib.Omega.{arith}
use Rattle.model.specs.Layout.{Plan, statement_kind, statement_c}
use Rattle.model.specs.LoopRelations.{Centered, AccessTarget}
use Rattle.model.specs.PlainPlan.{ParallelizableLoop}
use Rattle.model.specs.DataSets.{DataSet}
use Rattle.model.specs.Undisturbed.{TouchesField}

module _ (P : Plan) (D : DataSet) where
  -- a touch's region and field are its access's
  abbrev target : {f s k r e g : ℕ} → TouchesField P D f s k r e g → AccessTarget P s r g
  target x = record { definition = x.touch.0; through = x.touch.1; region = x.region; field = x.field }

  module _ {f : ℕ} (L : ParallelizableLoop P f) where
    -- access s writes, or reduces through a centered variable
    abbrev pub Settles : {s k r e g : ℕ} → TouchesField P D f s k r e g → Type 0
    Settles {s} x = (statement_kind P s ≡ 5) ⊎ ((statement_kind P s ≡ 6) × Centered P x.touch.0)

    -- either way its variable is centered
    pub settling_centered : {s k r e g : ℕ} (x : TouchesField P D f s k r e g) → Settles x → Centered P x.touch.0
    settling_centered {s} x (inl h) = L.writes_centered s _ (omega (arith, x.inside)) x.within h x.touch.1
    settling_centered x (inr h) = h.1

    module _ {s t k l r e g : ℕ} (x : TouchesField P D f s k r e g) (y : TouchesField P D f t l r e g) where
      -- beside a REDUCE through a pointer
      pub beside_reduction :
          statement_kind P s ≡ 6 → (Centered P x.touch.0 → ⊥) →
          (statement_kind P t ≡ 6) × (Centered P y.touch.0 → ⊥) × (statement_c P t ≡ statement_c P s)
      beside_reduction h n =
          let w =
          L.reductions_alone s t r g (omega (arith, x.inside)) (omega (arith, y.inside)) x.within y.within (target x) (target y) h n in
          (omega (arith, w.0), w.1, omega (arith, w.2))

      -- beside a read through a pointer
      pub beside_read : (statement_kind P s ≡ 1) ⊎ (statement_kind P s ≡ 4) → (Centered P x.touch.0 → ⊥) → Settles y → ⊥
      beside_read h n w =
          L.reads_undisturbed s t r g (omega (arith, x.inside)) (omega (arith, y.inside)) x.within y.within (target x) (target y) h n
          (elim w [ inl a ↦ inl a | inr b ↦ inr b.0 ])
