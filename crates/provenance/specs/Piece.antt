-- The words of one piece of the nodes up to the one asked about.
use Rattle.std.specs.Prelude.{ℕ, ◌+◌, ◌*◌, ◌≤◌, ◌<◌, ◌≡◌, List, length}
use Rattle.model.specs.Layout.{node_count}
use Rattle.model.specs.Membership.{member}
use Rattle.model.specs.Words.{holds}
use Rattle.model.specs.declared.Question.{Question}
use Rattle.evaluate.specs.declared.inputs.Inputs.{Inputs}
use Rattle.evaluate.specs.Inputs.{plan_given, data_given}

-- the node is listed, and the words hold the piece of each node up to it
pub record PieceHeld (inputs : Inputs) (q : Question) (words : List ℕ) : Type 0 where
  pub node_listed : q.node < node_count (plan_given inputs)
  pub room : (q.node + 1) * 8 ≤ length words
  pub held : (j e : ℕ) → j ≤ q.node → e < 512 → holds words (j * 8) e ≡ member (plan_given inputs) (data_given inputs) j q.piece e
