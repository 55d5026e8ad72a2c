-- The lines of the pieces so far are written.
use Rattle.std.specs.Io.KnownBytes.{Appends}
use Rattle.listing.specs.Text.{pieces_text}
use Rattle.listing.proofs.print_node.Given as goal

abbrev pub invariant-loop-piece : goal.invariant-loop-piece
invariant-loop-piece g l =
    Appends (g.W.Write.contents l.initial.out) (g.W.Write.contents l.out) (pieces_text l.number l.node l.pieces l.words l.piece)
