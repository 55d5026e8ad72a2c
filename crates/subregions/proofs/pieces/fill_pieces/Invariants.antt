-- Piece by piece. Assumes nothing.
use Rattle.subregions.specs.Pieces.{PiecesMade}
use Rattle.subregions.proofs.pieces.fill_pieces.Given as goal

abbrev pub invariant-loop-i : goal.invariant-loop-i
invariant-loop-i g l = PiecesMade (goal.F-post g l.piece) l.initial.words l.i l.words
