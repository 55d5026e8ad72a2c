-- Within the section's length the byte is one of the whole. Assumes nothing.
-- the section's two places, and how far they are at most
use Prim.Native.Nat.{ℕ, ◌+◌, ◌*◌, ◌<◌, ◌≤◌}
use mathlib.Core.Path.{◌≡◌, sym, ◌∙◌}
use native.Mathlib.Numerals.{add-one}
use native.Mathlib.Omega.{arith}
use lib.ListN.{get_or}
use borrow.Author.Rules.{rules}
use Rattle.model.specs.Bytes.{Bytes, u16, boundary}
use Rattle.primitives.specs.declared.sections.Frame.{Frame}
use Rattle.primitives.specs.Sections.{frame_of}
use Rattle.primitives.proofs.Bodies.{boundary_next, boundary_most, frame_at, body_at, body_past}
use Rattle.primitives.proofs.sections.body_byte.Goals as goal

record Ends (s : Bytes) (frame : Frame) (n : ℕ) : Type 0 where
  pub start : get_or frame.boundaries n 0 ≡ boundary s n
  pub end : get_or frame.boundaries (n + 1) 0 ≡ boundary s n + 2 + u16 s (boundary s n)
  pub near : boundary s n ≤ 1 + n * 65537

ends : (s : Bytes) {frame : Frame} {n : ℕ} → n < 8 → frame ≡ frame_of (n + 1) s → ((i : ℕ) → get_or s i 0 < 256) → Ends s frame n
ends s {frame} {n} few e bytes =
    record {
      start = rw e (frame_at s (n + 1) n (omega arith) (omega arith));
      end = rw (e, frame_at s (n + 1) (n + 1) (omega arith) (omega arith), add-one n) (boundary_next s n);
      near = boundary_most s bytes n;
    }

pub overflow_add-start : goal.overflow_add-start
overflow_add-start c =
    let known = ends c.args.s.now c.requires c.read_frame-frame.ensures (λ i. omega (arith, c.type_inv.s i)) in
    omega (arith, known.start, known.near)

pub overflow_sub-boundaries : goal.overflow_sub-boundaries
overflow_sub-boundaries c =
    let known = ends c.args.s.now c.requires c.read_frame-frame.ensures (λ i. omega (arith, c.type_inv.s i)) in
    omega (arith, known.start, known.end)

pub returns-then-place-boundaries : goal.returns-then-place-boundaries
returns-then-place-boundaries c =
    let a = c.args in
    let known = ends c.args.s.now c.requires c.read_frame-frame.ensures (λ i. search rules) in
    let inside : a.place < u16 a.s.now (boundary a.s.now a.n) = omega (arith, known.start, known.end, c.if-place-boundaries.true) in
    (c.byte_at.ensures.0 ∙ rw (known.start, body_at a.s.now a.n a.place inside), c.byte_at.ensures.1)

pub returns-else-place-boundaries : goal.returns-else-place-boundaries
returns-else-place-boundaries c =
    let a = c.args in
    let known = ends c.args.s.now c.requires c.read_frame-frame.ensures (λ i. search rules) in
    let past : u16 a.s.now (boundary a.s.now a.n) ≤ a.place = omega (arith, known.start, known.end, c.if-place-boundaries.false) in
    (sym (body_past a.s.now a.n a.place past), search rules)
