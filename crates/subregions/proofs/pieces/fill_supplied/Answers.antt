-- Each piece that is made is the partition's. Assumes nothing.
use native.Mathlib.Omega.{arith}
use Rattle.subregions.proofs.NodePieces.{pieces_stored, supplied_made}
use Rattle.subregions.proofs.pieces.fill_supplied.Goals as goal

pub returns : goal.returns
returns c = pieces_stored c.requires.room c.fill_pieces.ensures (λ i r l made. supplied_made _ _ _ _ _ _ (omega (arith, c.div_ceil-bytes.ensures)) c.region_masks-masks.ensures made)
