-- The operand's set can be searched. Assumes nothing.
use Rattle.provenance.proofs.NextPairs.{sources_room}
use Rattle.provenance.proofs.piece.Piece.next_pair.Goals as goal

pub least_source-requires : goal.least_source-requires
least_source-requires c = sources_room c.requires c.operands-a.ensures.these c.in-Image.ensures c.set.ensures c.entries.ensures
