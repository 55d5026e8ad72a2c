-- The set that is made is one that the table can be looked up in. Assumes nothing.
use Rattle.subregions.proofs.NodePieces.{preimage_piece_room}
use Rattle.subregions.proofs.pieces.fn.fill_preimage.fill_pieces.Goals as goal

pub preimage_piece-requires : goal.preimage_piece-requires
preimage_piece-requires c = preimage_piece_room c.requires.1 c.operand_set.ensures
