-- Word by word, as far as there is a place. Assumes nothing.
use Rattle.bitsets.specs.Elements.{through}
use Rattle.subregions.proofs.Piece.{Made}
use Rattle.subregions.proofs.operators.preimage_piece.Given as goal

abbrev pub invariant-loop-w : goal.invariant-loop-w
invariant-loop-w l = Made (through l.table l.set) l.piece l.w
