-- After each section the places so far are stored (Bodies). Assumes nothing.
use native.Mathlib.Omega.{arith}
use Rattle.primitives.proofs.Bodies.{located_start, located_next, boundary_most}
use Rattle.primitives.proofs.sections.read_frame.Goals as goal

pub loop-n-init : goal.loop-n-init
loop-n-init c = located_start _

pub overflow_add-at : goal.overflow_add-at
overflow_add-at c =
    let l = c.loop-n in
    let s = c.args.s.now in
    omega (arith, l.invariant.place, boundary_most s (λ i. omega (arith, c.type_inv.s i)) l.n)

pub overflow_add-at-in-loop-n : goal.overflow_add-at-in-loop-n
overflow_add-at-in-loop-n c =
    let l = c.loop-n in
    let s = c.args.s.now in
    omega (
      arith,
      l.invariant.place,
      c.u16_at.ensures.1,
      boundary_most s (λ i. omega (arith, c.type_inv.s i)) l.n,
    )

pub loop-n-preserved : goal.loop-n-preserved
loop-n-preserved c = located_next _ c.loop-n.invariant c.u16_at.ensures.0
