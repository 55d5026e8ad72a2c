-- The check of a loop, and the reductions through pointers in it. Assumes nothing.
use Prim.Native.Nat.{ℕ}
use mathlib.Core.Path.{◌≡◌, refl}
use mathlib.Core.Bool.{true, false, ◌&&◌}
use Rattle.model.specs.Tests.{◌and◌}
use Rattle.model.specs.Layout.{Plan}
use Rattle.model.specs.Statements.{kind, access_of, is_access, accesses, loop}
use Rattle.model.specs.Parallel.{is_reduce, reduces, uncentered, access_of_loop}
use Rattle.model.specs.declared.Access.{Access}
use Rattle.model.specs.declared.Access.TheVariants.{Nothing, Reads, Writes, Reduces}
use Rattle.model.proofs.Tests.{both, refuted, fails, same, same! }
use Rattle.loops.specs.Parallel.{pointer_reduction}

-- an uncentered reduction of the loop stands in it
pub other_reduction : (P : Plan) (f s : ℕ) → (loop P s ≡ f → ⊥) → pointer_reduction P f s ≡ false
unfolding pointer_reduction access_of_loop
other_reduction P f s ne = fails (refuted (λ h. ne (same (both (both h).0).1)))

-- a statement in its own loop
pub own_reduction : (P : Plan) (s : ℕ) → pointer_reduction P (loop P s) s ≡ (reduces P s and uncentered P s)
unfolding pointer_reduction access_of_loop accesses reduces is_reduce is_access ◌and◌
own_reduction P s = rw (same! {a = loop P s} refl) (go (access_of (kind P s)))
  where
    go : (a : Access) → ((is_access a && true) && (is_reduce a && uncentered P s)) ≡ (is_reduce a && uncentered P s)
    go Nothing = refl
    go Reads = refl
    go Writes = refl
    go Reduces = refl
