-- The two places are the section's. Assumes nothing.
-- the places of the section's ends, as the code reads them
use Prim.Native.Nat.{ℕ, suc, ◌+◌, ◌≤◌}
use mathlib.Core.Path.{◌≡◌}
use native.Mathlib.Numerals.{add-one}
use native.Mathlib.Omega.{arith}
use lib.ListN.{get_or, length}
use Rattle.model.specs.Bytes.{Bytes, boundary}
use Rattle.primitives.specs.declared.sections.Frame.{Frame}
use Rattle.primitives.specs.Sections.{Delimits}
use Rattle.primitives.proofs.Bodies.{boundary_next, body_between}
use Rattle.primitives.proofs.sections.section_body.Goals as goal

start-at : {s : Bytes} {frame : Frame} {n : ℕ} → Delimits (suc n) s frame → get_or frame.boundaries n 0 ≡ boundary s n
start-at {n} known = known.places n (omega arith)

end-at : {s : Bytes} {frame : Frame} {n : ℕ} → Delimits (suc n) s frame → get_or frame.boundaries (n + 1) 0 ≡ boundary s (suc n)
end-at {n} known = rw (add-one n) (known.places (suc n) (omega arith))

between : {s : Bytes} {frame : Frame} {n : ℕ} → Delimits (suc n) s frame
    → (get_or frame.boundaries n 0 + 2 ≤ get_or frame.boundaries (n + 1) 0) × (get_or frame.boundaries (n + 1) 0 ≤ length s)
between {s} {frame} {n} known =
    let a = start-at known in
    let e = end-at known in
    (omega (arith, boundary_next s n), omega (arith, known.inside (suc n) (omega arith)))

pub slice_bounds-result-count : goal.slice_bounds-result-count
slice_bounds-result-count c = omega (arith, between c.requires)

pub slice_bounds-result-start : goal.slice_bounds-result-start
slice_bounds-result-start c = omega (arith, between c.requires)

pub returns : goal.returns
returns c = let known = c.requires in body_between _ c.args.n (start-at known) (end-at known)
