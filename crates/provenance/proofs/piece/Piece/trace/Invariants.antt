-- Pair by pair, until one ends the chain. Assumes nothing.
use Prim.Native.Nat.{◌-◌}
use lib.ListN.{length}
use Rattle.provenance.proofs.Walks.{Walk}
use Rattle.provenance.proofs.piece.Piece.trace.Given as goal

abbrev pub invariant-loop-pair : goal.invariant-loop-pair
invariant-loop-pair l = Walk l.self l.chain.items l.pair

abbrev pub decreases-loop-pair : goal.decreases-loop-pair
decreases-loop-pair l = 48 - length l.chain.items
