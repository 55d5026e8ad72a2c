-- Piece by piece, by starts. Assumes nothing.
use Prim.Native.Nat.{◌+◌, ◌*◌, min}
use mathlib.Core.Path.{◌≡◌}
use Rattle.subregions.specs.Pieces.{pieces_from, equal_pieces}
use Rattle.subregions.proofs.NodePieces.{PiecesWritten}
use Rattle.subregions.proofs.pieces.fill_equal.Given as goal

abbrev pub invariant-loop-i : goal.invariant-loop-i
invariant-loop-i l =
    record {
      written : PiecesWritten l.initial.words (pieces_from l.first (equal_pieces l.size l.pieces)) l.i-end l.words l.i;
      starts : l.low ≡ l.quotient * (l.first + l.i) + min (l.first + l.i) l.remainder;
    }
