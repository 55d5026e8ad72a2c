-- Word by word in the cleared piece, from the first that has an element; the others stay 0. Assumes nothing.
use Prim.Native.Nat.{◌-◌}
use Rattle.bitsets.specs.Elements.{between}
use Rattle.subregions.proofs.Piece.{Begun}
use Rattle.subregions.proofs.operators.write_range.Given as goal

abbrev pub invariant-loop-w : goal.invariant-loop-w
invariant-loop-w l = Begun l.initial.words l.at (between l.low l.high) l.words l.w

abbrev pub decreases-loop-w : goal.decreases-loop-w
decreases-loop-w l = 8 - l.w
