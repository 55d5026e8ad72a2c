-- From the last node down (NeededNodes). Assumes nothing.
use Rattle.model.specs.Layout.{Plan}
use Rattle.subregions.specs.Needed.{NodesRead}
use Rattle.subregions.proofs.NeededNodes.{PassedDown}
use Rattle.subregions.proofs.needed.needed_nodes.Given as goal

abbrev pub invariant-loop-j : goal.invariant-loop-j
invariant-loop-j l = (P : Plan) → NodesRead P l.nodes l.count → PassedDown P l.count l.wanted l.needed l.j
