-- Before position k the chain's pairs stand in both slices. Assumes nothing.
use mathlib.Core.Path.{◌≡◌}
use Rattle.model.specs.Words.{store}
use Rattle.provenance.specs.Chain.{link_in}
use Rattle.provenance.proofs.chain.write_chain.Given as goal

abbrev pub invariant-loop-k : goal.invariant-loop-k
invariant-loop-k l = record {
  nodes_are : l.nodes ≡ store l.initial.nodes 0 l.k (λ k. (link_in l.chain k).node);
  elements_are : l.elements ≡ store l.initial.elements 0 l.k (λ k. (link_in l.chain k).element);
}
