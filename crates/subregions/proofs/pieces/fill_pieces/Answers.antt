-- Piece by piece. Assumes nothing.
use native.Mathlib.Omega.{arith}
use Rattle.subregions.proofs.NodePieces.{made_more}
use Rattle.subregions.proofs.pieces.fill_pieces.Goals as goal

pub loop-i-preserved : goal.loop-i-preserved
loop-i-preserved g c = made_more c.loop-i.invariant (omega (arith, c.requires.room, c.loop-i-test.true)) c.piece.ensures c.write_piece.ensures
