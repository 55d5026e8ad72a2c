-- Each piece that is made is the preimage of the operand's. Assumes nothing.
use Rattle.subregions.proofs.NodePieces.{pieces_stored, preimage_made}
use Rattle.subregions.proofs.pieces.fill_preimage.Goals as goal

pub returns : goal.returns
returns c = pieces_stored c.requires.room c.fill_pieces.ensures (λ i r l made. preimage_made i c.requires.few_targets c.region_masks-masks.ensures c.targets-table.ensures made)
