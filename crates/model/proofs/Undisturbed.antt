-- No iteration of a parallelizable loop disturbs another, over any data set. Assumes nothing.
use Prim.Native.Nat.{ℕ}
use mathlib.Core.Path.{◌≡◌, refl}
use mathlib.Core.Logic.{◌⊎◌, inl, inr, ⊎_elim}
use native.Mathlib.Omega.{arith}
use Rattle.model.specs.Bytes.{Bytes}
use Rattle.model.specs.Layout.{Plan, plan_of}
use Rattle.model.specs.LoopRelations.{Centered, loop_centered, AccessField, of_load, of_read, of_write, of_reduce}
use Rattle.model.specs.PlainPlan.{ParallelizableLoop, Parallelizable}
use Rattle.model.specs.DataSets.{DataSet, data_of}
use Rattle.model.specs.Touches.{Value, itself, loaded, called, copied}
use Rattle.model.specs.Undisturbed.{TouchesField, UndisturbedLoop, PlainlyUndisturbedLoop, Undisturbed}
use Rattle.model.proofs.CopiedVariables.{map_uncentered, copy_is_centered, copied_centered}
use Rattle.model.proofs.TwoTouches.{Settles, settling_centered, beside_reduction, beside_read}

module _ (P : Plan) where
  module _ (D : DataSet) where
    -- a variable with a value is centered, and then its value is the iteration's own element, or it is not
    own_element : {d k e : ℕ} → Value P D d k e → (Centered P d × (e ≡ k)) ⊎ (Centered P d → ⊥)
    own_element (itself h) = inl (loop_centered h, refl)
    own_element (loaded h w v p) = inr (map_uncentered P (inl h))
    own_element (called h w v p) = inr (map_uncentered P (inr h))
    own_element (copied {s = s} h w v) =
        elim (own_element v) [
          | inl own ↦ inl (copy_is_centered P {d = s} (omega (arith, h)) w own.0, own.1)
          | inr n ↦ inr (λ c. n (copied_centered P {d = s} (omega (arith, h)) w c))
        ]

    module _ {f : ℕ} (L : ParallelizableLoop P f) where
      -- what another access writes, or reduces through a centered variable, is not touched through a pointer
      no_pointer :
          {s t k l r e g : ℕ} (x : TouchesField P D f s k r e g) (y : TouchesField P D f t l r e g) → Settles P D L x →
          AccessField P t g → (Centered P y.touch.0 → ⊥) → ⊥
      no_pointer x y w (of_load h g) n = beside_read P D L y x (inl h) n w
      no_pointer x y w (of_read h g) n = beside_read P D L y x (inr h) n w
      no_pointer x y w (of_write h g) n = n (settling_centered P D L y (inl h))
      no_pointer x y w (of_reduce h g) n = (beside_reduction P D L y x h n).1 (settling_centered P D L x w)

      -- a touch that is not through a pointer is of the iteration's own element
      own : {s k r e g : ℕ} (x : TouchesField P D f s k r e g) → ((Centered P x.touch.0 → ⊥) → ⊥) → e ≡ k
      own x centered = elim (own_element x.touch.2) [ inl it ↦ it.1 | inr n ↦ absurd (centered n) ]

      pub undisturbed_loop : UndisturbedLoop P D f
      undisturbed_loop =
          record {
            alone = λ s t k l r e g x y w.
                let first = own x (λ n. n (settling_centered P D L x w)) in
                let second = own y (no_pointer x y w y.field) in
                omega arith;
            one_operator = λ s t k l r e g x y.
                let beside = beside_reduction P D L x.touched y x.reduces x.uncentered in
                (omega (arith, beside.0), beside.1, omega (arith, beside.2));
          }

-- the claim is at least what its sentences say
pub plainly : {P : Plan} {D : DataSet} {f : ℕ} → UndisturbedLoop P D f → PlainlyUndisturbedLoop P D f
plainly U =
    record {
      alone = U.alone;
      one_operator = λ s t k l r e g x y apart. (U.one_operator s t k l r e g x y.touched).2;
      none_reads = λ s t u k l m r e g x y apart z h.
          let reduces = (U.one_operator s u k m r e g x z).0 in
          ⊎_elim (omega arith) (omega arith) h;
    }

-- the three conditions of a parallelizable loop are enough
pub undisturbed : (p d : Bytes) → Parallelizable p → Undisturbed p d
undisturbed p d loops f lt h = undisturbed_loop (plan_of p) (data_of d) (loops f (omega arith) h)
