-- Tables by statement: before the first store, after the next, and what is read of earlier statements. Assumes nothing.
use Prim.Native.Nat.{ℕ, ◌+◌, ◌<◌}
use mathlib.Core.Path.{◌≡◌, refl, sym, ◌∙◌}
use mathlib.Core.Logic.{inl, inr}
use mathlib.Core.List.{List}
use native.Mathlib.Omega.{arith}
use lib.ListN.{get_or, set, take, replicate, length-set}
use Rattle.std.proofs.lemmas.Bool.{cases_lt}
use Rattle.std.proofs.lemmas.List.{get_or-take, get_or_default, get_or_past, length-take}
use Rattle.model.specs.Recursion.{below}
use Rattle.model.proofs.Recursion.{below_at}
use Rattle.primitives.proofs.Filling.{below_past, entry_next}
use Rattle.loops.specs.Tables.{Table}

pub empty : {A : Type 0} {default : A} {value : ℕ → A} → Table default 0 (replicate 64 default) value
empty = record { room = refl; holds = λ s lt. absurd (omega arith) }

module _ {A : Type 0} {default : A} {s : ℕ} {table : List A} {value : ℕ → A} where
  -- a table that holds the values below s, after the value at s is stored there
  pub stored : {v : A} → s < 64 → v ≡ value s → Table default s table value → Table default (s + 1) (set table s v) value
  stored {v} few e t =
      record { room = length-set table s v ∙ t.room; holds = entry_next default (λ k x. x ≡ value k) table s v (omega (arith, t.room)) t.holds e }

  -- the earlier values, read from a table that holds them
  pub earlier_holds : (otherwise : A) → s < 64 → Table default s table value → (k : ℕ) → get_or (take s table) k otherwise ≡ below otherwise s value k
  earlier_holds otherwise few t k =
      elim (cases_lt k s) [
        | inl lt ↦
            get_or-take s table k otherwise lt ∙ get_or_default table k otherwise default (omega (arith, t.room))
            ∙ t.holds k lt ∙ sym (below_at otherwise s value k lt)
        | inr le ↦ get_or_past (take s table) k otherwise (omega (arith, length-take s table)) ∙ sym (below_past otherwise s value k le)
      ]
