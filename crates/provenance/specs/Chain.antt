-- The chain of a membership, and where it is written.
use Rattle.std.specs.Prelude.{ℕ, ◌≤◌, ◌<◌, ◌≡◌, List, length, get_or}
use Rattle.model.specs.Layout.{Plan}
use Rattle.model.specs.DataSets.{DataSet}
use Rattle.model.specs.Words.{store}
use Rattle.model.specs.Provenance.{chain_pair, pairs_needed}
use Rattle.model.specs.declared.Question.{Question}
use Rattle.provenance.specs.declared.chain.Link.{Link}

-- the pair at a position of a list
abbrev pub link_in : List Link → ℕ → Link
link_in chain k = get_or chain k (record { node = 0; element = 0 })

-- the chain that answers a question
pub record ChainOf (P : Plan) (D : DataSet) (q : Question) (chain : List Link) : Type 0 where
  pub length_is : length chain ≡ pairs_needed P D q
  pub node_at : (k : ℕ) → k < length chain → (link_in chain k).node ≡ (chain_pair P D q k).node
  pub element_at : (k : ℕ) → k < length chain → (link_in chain k).element ≡ (chain_pair P D q k).element

-- both slices have room for it
pub record ChainRoom (chain : List Link) (nodes elements : ℕ) : Type 0 where
  pub nodes_room : length chain ≤ nodes
  pub elements_room : length chain ≤ elements

-- it stands in both from their start on
pub record ChainWritten (chain : List Link) (old_nodes new_nodes old_elements new_elements : List ℕ) : Type 0 where
  pub nodes_are : new_nodes ≡ store old_nodes 0 (length chain) (λ k. (link_in chain k).node)
  pub elements_are : new_elements ≡ store old_elements 0 (length chain) (λ k. (link_in chain k).element)
