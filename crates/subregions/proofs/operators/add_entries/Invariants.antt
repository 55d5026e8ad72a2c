-- The loop takes the lowest member off the rest and adds its entry. Assumes nothing.
use Prim.Native.Nat.{ℕ, ◌≤◌}
use mathlib.Core.Bool.{Bool}
use Rattle.model.specs.Tests.{Is}
use Rattle.model.specs.Words.{bit}
use Rattle.subregions.specs.Operators.{SetOf}
use Rattle.subregions.proofs.Maps.{gathered}
use Rattle.subregions.proofs.operators.add_entries.Given as goal

abbrev pub invariant-loop-rest : goal.invariant-loop-rest
invariant-loop-rest l = (l.rest ≤ l.members) × ((b : ℕ) → Is (bit l.rest b) → Is (bit l.members b))
    × ((elements : ℕ → Bool) → SetOf elements l.initial.set → SetOf (gathered l.entries l.start l.members elements l.rest) l.set)

abbrev pub decreases-loop-rest : goal.decreases-loop-rest
decreases-loop-rest l = l.rest
