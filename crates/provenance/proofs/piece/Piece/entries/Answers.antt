-- The layout has the map's entries. Assumes nothing.
use Rattle.dataset.proofs.Starts.{own_entries}
use Rattle.provenance.proofs.Parts.{entries_given}
use Rattle.provenance.proofs.piece.Piece.entries.Goals as goal

pub returns : goal.returns
returns c =
    let inputs = c.args.self.now.inputs.now in
    entries_given inputs (c.map_entries.ensures _ _ own_entries inputs.placed.entries)
