-- The nodes are the plan's. Assumes nothing.
use mathlib.Core.Path.{refl}
use Rattle.provenance.specs.Members.{plan_of_piece}
use Rattle.provenance.proofs.piece.Piece.operands.Goals as goal

pub returns-clause-these : goal.returns-clause-these
returns-clause-these c =
    let read = c.node_operands.ensures in
    let plan = plan_of_piece c.args.self.now in
    (read.left plan refl, read.right plan refl)
