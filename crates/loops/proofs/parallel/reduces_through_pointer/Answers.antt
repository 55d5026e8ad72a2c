-- By the search among the statements of the loop. Assumes nothing.
use Prim.Native.Nat.{ℕ}
use mathlib.Core.Path.{◌≡◌, ap}
use mathlib.Core.Bool.{true, false}
use Rattle.std.specs.declared.ops.Range.{Range}
use Rattle.model.specs.Parallel.{reduces_through_pointer}
use Rattle.loops.specs.Parallel.{pointer_reduction}
use borrow.Author.Rules.{rules}
use Rattle.loops.proofs.Parallelizable.{other_reduction}
use Rattle.loops.proofs.Ranges.{any_in}
use Rattle.loops.proofs.Spans.{span_decides}
use Rattle.loops.proofs.parallel.reduces_through_pointer.Goals as goal

pub returns : goal.returns
unfolding reduces_through_pointer pointer_reduction
returns c =
    λ P known o.
    let end = c.loop_statements.result.end in
    let span = c.loop_statements.ensures.2 P known.section o in
    let from_f : ◌≡◌ {A = Range ℕ} c.loop_statements.result (record { start = c.args.f; end = end }) = ap (λ s. record { start = s; end = end }) c.loop_statements.ensures.0 in
    span_decides P span (other_reduction P _) c.any.result
    (any_in c.args.f end (λ s. pointer_reduction P c.args.f s ≡ true) (λ s. pointer_reduction P c.args.f s ≡ false) _ from_f _ c.any.ensures.ran
    (λ x q k l m. rw (← span.own x l m) (search rules))
    (λ x q k. (search rules, λ l m. rw (← span.own x l m) (search rules))))
