-- Each piece that is made is the image of the operand's. Assumes nothing.
use Rattle.subregions.proofs.NodePieces.{pieces_stored, image_made, image_piece_room}
use Rattle.subregions.proofs.pieces.fill_image.Goals as goal

pub fill_pieces-requires-clause-callable : goal.fill_pieces-requires-clause-callable
fill_pieces-requires-clause-callable c = λ i l. image_piece_room c.requires c.region_masks-masks.ensures l

pub returns : goal.returns
returns c = pieces_stored c.requires.room c.fill_pieces.ensures (λ i r l made. image_made _ _ i c.requires.few_elements c.region_masks-masks.ensures made)
