-- A set by the words from its start on, and past their end. Assumes nothing.
use Prim.Native.Nat.{ℕ, ◌+◌, ◌-◌, ◌/◌, ◌%◌, ◌≤◌}
use mathlib.Core.Path.{◌≡◌, ap, ◌∙◌}
use mathlib.Core.Bool.{false}
use mathlib.Core.List.{List}
use native.Mathlib.Omega.{arith}
use lib.ListN.{length, drop, length-drop, get_or-eq_default}
use Rattle.std.proofs.lemmas.List.{get_or-drop, take_all}
use Rattle.std.specs.List.{slice_range}
use Rattle.model.specs.Words.{bit, holds}
use Rattle.model.proofs.Words.{bit_zero}

-- a word past the end is 0, which has no bit
pub holds_none : (words : List ℕ) (at e : ℕ) → length words ≤ at + e / 64 → holds words at e ≡ false
unfolding holds
holds_none words at e past =
    ap (λ (word : ℕ). bit word (e % 64)) (get_or-eq_default words 0 {n = at + e / 64} past) ∙ bit_zero (e % 64)

-- the words from a place on hold what stands there
pub holds_behind : (words set : List ℕ) (at e : ℕ) → set ≡ slice_range words at (length words) → holds set 0 e ≡ holds words at e
unfolding holds
holds_behind words set at e is =
    let place : at + (0 + e / 64) ≡ at + e / 64 = omega arith in
    rw (is, take_all (length words - at) (drop at words) (omega (arith, length-drop at words)), get_or-drop, place)
