-- Each piece that is made is the operands' combined. Assumes nothing.
use Rattle.subregions.proofs.NodePieces.{pieces_stored, combined_made}
use Rattle.subregions.proofs.pieces.fill_combined.Goals as goal

pub returns : goal.returns
returns g c = pieces_stored c.requires.room c.fill_pieces.ensures (λ i r l made. combined_made _ _ _ _ i c.region_masks-masks.ensures made)
