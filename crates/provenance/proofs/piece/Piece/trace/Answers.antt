-- Pair by pair, until one ends the chain. Assumes nothing.
use Prim.Native.Nat.{◌<◌}
use mathlib.Core.Path.{sym, ◌∙◌}
use native.Mathlib.Omega.{arith}
use lib.ListN.{length}
use Rattle.provenance.specs.Members.{MemberOf}
use Rattle.provenance.proofs.NextPairs.{few_nodes, few_elements}
use Rattle.provenance.proofs.Walks.{walk_member, walk_onward, walk_end}
use Rattle.provenance.proofs.piece.Piece.trace.Goals as goal
use Rattle.provenance.proofs.piece.Piece.trace.Goals.{After-next_pair-pair}

-- the next pair is a member, and the list has room for it
onward : (c : After-next_pair-pair) → MemberOf c.args.self.now c.next_pair-pair.result × (length c.loop-pair.chain.items < 48)
onward c = walk_onward _ _ _ c.loop-pair.invariant c.kind.ensures (sym c.ends_chain.ensures ∙ c.loop-pair-test.true) c.next_pair-pair.ensures

pub of-requires : goal.of-requires
of-requires c = (omega (arith, few_nodes c.requires), omega (arith, few_elements c.requires))

pub kind-requires : goal.kind-requires
kind-requires c = (walk_member _ _ _ c.loop-pair.invariant).node_near

pub next_pair-pair-requires : goal.next_pair-pair-requires
next_pair-pair-requires c = walk_member _ _ _ c.loop-pair.invariant

pub of-requires-in-loop-pair : goal.of-requires-in-loop-pair
of-requires-in-loop-pair c =
    let next = (onward (goal.at.of-requires-in-loop-pair c).After-next_pair-pair).0 in
    (omega (arith, few_nodes next), omega (arith, few_elements next))

pub push-requires-in-loop-pair : goal.push-requires-in-loop-pair
push-requires-in-loop-pair c = (omega arith, (onward (goal.at.push-requires-in-loop-pair c).After-next_pair-pair).1)

pub loop-pair-smaller : goal.loop-pair-smaller
loop-pair-smaller c = omega (arith, (onward (goal.at.loop-pair-smaller c).After-next_pair-pair).1, c.push-in-loop-pair.ensures.len)

pub returns : goal.returns
returns c = walk_end _ _ _ c.loop-pair.invariant c.kind.ensures (sym c.ends_chain.ensures ∙ c.loop-pair-test.false)
