-- Word by word. Assumes nothing.
use Rattle.bitsets.specs.Elements.{word_at}
use Rattle.subregions.proofs.Piece.{Written}
use Rattle.subregions.proofs.operators.write_piece.Given as goal

abbrev pub invariant-loop-w : goal.invariant-loop-w
invariant-loop-w l = Written l.initial.words l.at (word_at l.piece) l.words l.w
