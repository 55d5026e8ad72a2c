-- Word by word, until one has such an element. Assumes nothing.
use Prim.Native.Nat.{◌*◌}
use Rattle.provenance.proofs.LeastSources.{NoneBefore}
use Rattle.provenance.proofs.sources.least_source.Given as goal

abbrev pub invariant-loop-w : goal.invariant-loop-w
invariant-loop-w l = NoneBefore l.set l.entries l.element (64 * l.w)
