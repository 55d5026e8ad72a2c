-- When the words of an evaluation can be filled, and what some nodes, or one piece of the first, fill them with.
use Rattle.std.specs.Prelude.{ℕ, ◌+◌, ◌*◌, ◌/◌, ◌%◌, ◌≤◌, ◌<◌, ◌≡◌, List, length}
use Rattle.model.specs.Tests.{Is}
use Rattle.model.specs.Layout.{Plan, node_count}
use Rattle.model.specs.DataSets.{DataSet, pieces}
use Rattle.model.specs.Membership.{member}
use Rattle.model.specs.Words.{bit, holds, word, store}
use Rattle.evaluate.specs.Inputs.{plan_given, data_given}
use Rattle.evaluate.specs.declared.inputs.Inputs.{Inputs}
use Rattle.subregions.specs.declared.sources.Sources.{Sources}

-- what the nodes' sets are read from is that of the inputs
pub record SourcesOf (inputs : Inputs) (read : Sources) : Type 0 where
  pub nodes_are : read.nodes.now ≡ inputs.reading.sections.nodes.now
  pub node_regions_are : read.node_regions.now ≡ inputs.reading.node_regions
  pub sizes_are : read.sizes.now ≡ inputs.layout.sizes.now
  pub entries_are : read.entries.now ≡ inputs.layout.entries.now
  pub members_are : read.members.now ≡ inputs.layout.members.now
  pub entry_starts_are : read.entry_starts.now ≡ inputs.layout.entry_starts
  pub member_starts_are : read.member_starts.now ≡ inputs.layout.member_starts

-- so many of the first nodes, and words enough for all their pieces
pub record WantedReady (inputs : Inputs) (nodes lent : ℕ) : Type 0 where
  pub nodes_listed : nodes ≤ node_count (plan_given inputs)
  pub enough : nodes * pieces (data_given inputs) * 8 ≤ lent

-- a node and a piece that exist, and words enough for one piece of the nodes up to it
pub record PieceReady (inputs : Inputs) (node piece lent : ℕ) : Type 0 where
  pub node_listed : node < node_count (plan_given inputs)
  pub piece_listed : piece < pieces (data_given inputs)
  pub enough : (node + 1) * 8 ≤ lent

-- the words of the first nodes hold the sets of those that are wanted, where the final words have them
pub record WantedFilled (P : Plan) (D : DataSet) (nodes wanted lent : ℕ) (words : List ℕ) : Type 0 where
  pub room : length words ≡ lent
  pub held :
      (j i e : ℕ) → j < nodes → Is (bit wanted j) → i < pieces D → e < 512 → holds words ((j * pieces D + i) * 8) e ≡ member P D j i e

-- one piece of the first nodes, eight words a node
unfoldable pub piece_filled : Plan → DataSet → ℕ → ℕ → List ℕ → List ℕ
piece_filled P D piece nodes old = store old 0 (nodes * 8) (λ w. word (member P D (w / 8) piece) (w % 8))
