-- The needs as they are listed, two of each statement, are settled as the definition checks them, each by its first step. Assumes nothing.
use Prim.Native.Nat.{ℕ, ◌+◌, ◌*◌, ◌/◌, ◌≤◌, ◌<◌}
use native.Mathlib.Omega.{arith}
use mathlib.Core.Path.{◌≡◌, refl, ◌∙◌}
use mathlib.Core.Logic.{inl, inr}
use mathlib.Core.List.{List}
use mathlib.Core.Bool.{true, false}
use lib.ListN.{get_or, length, set, length-set, replicate, length-replicate}
use borrow.Author.Tests.{lt-ltb, le-ltb}
use Rattle.model.specs.Tests.{◌<?◌}
use Rattle.std.specs.Prelude.{Ok, Err}
use Rattle.model.specs.Layout.{Plan, statement_count, step_count}
use Rattle.model.specs.Needs.{symbol}
use Rattle.model.specs.declared.Refusal.{Refusal}
use Rattle.model.specs.declared.Refusal.TheVariants.{UnmetNeed}
use Rattle.model.proofs.Tests.{latest}
use Rattle.primitives.proofs.Scanning.{Scanning, scanning_start, scan_passes, scan_refuses, scan_ends}
use Rattle.primitives.proofs.Stages.{require_true, require_false}
use Rattle.primitives.proofs.Filling.{entry_next}
use Rattle.plan.specs.Needs.{concluding_step, is_met, settled, NeedsSettled}
use Rattle.plan.specs.declared.needs.Need.{Need}
use Rattle.plan.specs.declared.needs.Need.TheVariants.{Nothing, Unlisted, Conclusion}

module _ (P : Plan) (needs : List Need) (conclusions : List ℕ) where
  -- before need i: what is left to settle decides, and the table has the first steps of the needs before
  pub record SettledBefore (concluding : List ℕ) (i : ℕ) : Type 0 where
    pub scanning : Scanning (settled P needs conclusions) (statement_count P * 2) i
    pub room : length concluding ≡ 128
    pub first_steps : (k key : ℕ) → k < i → get_or needs k Nothing ≡ Conclusion key
        → get_or concluding k 0 ≡ concluding_step conclusions (step_count P) key

  pub settling_starts : SettledBefore (replicate 128 0) 0
  settling_starts =
      record { scanning = scanning_start _ _; room = length-replicate {A = ℕ} 128 0; first_steps = λ k key lt. absurd (omega arith) }

  module _ {concluding : List ℕ} {i : ℕ} (past : SettledBefore concluding i) where
    settling_next : {t : Need} → get_or needs i Nothing ≡ t → i < statement_count P * 2 → is_met conclusions (step_count P) t ≡ true
        → Scanning (settled P needs conclusions) (statement_count P * 2) (i + 1)
    unfolding settled
    settling_next is inside met = scan_passes past.scanning inside (rw is (require_true _ met))

    settling_refused : {t : Need} {r : Refusal} → r ≡ UnmetNeed (symbol P (i / 2)) → get_or needs i Nothing ≡ t → i < statement_count P * 2
        → is_met conclusions (step_count P) t ≡ false → NeedsSettled P needs conclusions (Err r)
    unfolding settled
    settling_refused at is inside unmet = rw at (scan_refuses past.scanning inside (rw is (require_false _ unmet)))

    pub settling_unasked : get_or needs i Nothing ≡ Nothing → i < statement_count P * 2 → SettledBefore concluding (i + 1)
    unfolding is_met
    settling_unasked is inside =
        record {
          scanning = settling_next is inside refl;
          room = past.room;
          first_steps = λ k key lt asks. elim (latest k i (omega arith)) [ inl at ↦ (let e = rw at at asks in cc) | inr l ↦ past.first_steps k key l asks ];
        }

    pub settling_unlisted : {r : Refusal} → r ≡ UnmetNeed (symbol P (i / 2)) → get_or needs i Nothing ≡ Unlisted → i < statement_count P * 2
        → NeedsSettled P needs conclusions (Err r)
    unfolding is_met
    settling_unlisted at is inside = settling_refused at is inside refl

    module _ {key : ℕ} (asks : get_or needs i Nothing ≡ Conclusion key) (inside : i < statement_count P * 2) where
      pub settling_met : {t : ℕ} → t ≡ concluding_step conclusions (step_count P) key → t < step_count P → i < 128
          → SettledBefore (set concluding i t) (i + 1)
      unfolding is_met ◌<?◌
      settling_met {t} first-is found few =
          record {
            scanning = settling_next asks inside (rw (← first-is) (lt-ltb t (step_count P) found));
            room = length-set concluding i t ∙ past.room;
            first_steps = λ k other. entry_next 0 (λ k step. get_or needs k Nothing ≡ Conclusion other → step ≡ concluding_step conclusions (step_count P) other)
                concluding i t (omega (arith, past.room)) (λ k lt. past.first_steps k other lt) (λ e. let same : key ≡ other = cc in rw (← same) first-is) k;
          }

      pub settling_unmet : {r : Refusal} → r ≡ UnmetNeed (symbol P (i / 2)) → step_count P ≤ concluding_step conclusions (step_count P) key
          → NeedsSettled P needs conclusions (Err r)
      unfolding is_met ◌<?◌
      settling_unmet at none = settling_refused at asks inside (le-ltb _ _ none)

    pub settling_ends : statement_count P * 2 ≤ i → NeedsSettled P needs conclusions (Ok concluding)
    settling_ends end = (scan_ends past.scanning end, λ k key lt. past.first_steps k key (omega arith))

pub ruleset settling = (settling_starts, settling_unasked, settling_unlisted, settling_met, settling_unmet, settling_ends)
