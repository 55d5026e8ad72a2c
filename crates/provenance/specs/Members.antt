-- The members of a piece, by its words and its inputs.
use Rattle.std.specs.Prelude.{ℕ, ◌≤◌, ◌<◌, ◌≡◌, List, length}
use Rattle.model.specs.Tests.{Is}
use Rattle.model.specs.Layout.{Plan}
use Rattle.model.specs.DataSets.{DataSet}
use Rattle.model.specs.Membership.{member}
use Rattle.model.specs.Words.{holds}
use Rattle.model.specs.Provenance.{questioned, next_pair}
use Rattle.model.specs.declared.Pair.{Pair}
use Rattle.evaluate.specs.Inputs.{plan_given, data_given}
use Rattle.provenance.specs.declared.piece.Piece.{Piece}

module _ (piece : Piece) where
  -- the plan and the data set that it is of
  abbrev pub plan_of_piece : Plan
  plan_of_piece = plan_given piece.inputs.now

  abbrev pub data_of_piece : DataSet
  data_of_piece = data_given piece.inputs.now

  -- a pair of the piece, of one of the nodes whose words are there
  pub record MemberOf (x : Pair) : Type 0 where
    pub node_near : x.node ≤ piece.question.node
    pub member_is : Is (member plan_of_piece data_of_piece x.node piece.question.piece x.element)

  -- the pair after it
  abbrev pub pair_after : Pair → Pair
  pair_after = next_pair plan_of_piece data_of_piece piece.question.piece

  -- the pair in question
  abbrev pub pair_asked : Pair
  pair_asked = questioned plan_of_piece data_of_piece piece.question

-- the eight words of a node's set
pub record SetOf (piece : Piece) (node : ℕ) (set : List ℕ) : Type 0 where
  pub eight : length set ≡ 8
  pub held : (e : ℕ) → e < 512 → holds set 0 e ≡ member (plan_of_piece piece) (data_of_piece piece) node piece.question.piece e
