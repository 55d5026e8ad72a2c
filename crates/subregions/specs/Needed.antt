-- The nodes that some nodes are made of, as the bits of a number.
use Rattle.std.specs.Prelude.{ℕ, ◌≤◌, ◌<◌, ◌≡◌, List}
use Rattle.model.specs.Tests.{Is}
use Rattle.model.specs.Layout.{Plan, node_count, node_kind, node_a, node_b}
use Rattle.model.specs.Words.{bit}
use Rattle.model.specs.AcceptedPlans.{Facts}

-- the operands of node j, by its kind, and nothing behind them
pub record OperandBits (P : Plan) (j n : ℕ) : Type 0 where
  pub left : 2 ≤ node_kind P j → Is (bit n (node_a P j))
  pub right : 2 ≤ node_kind P j → node_kind P j ≤ 4 → Is (bit n (node_b P j))
  pub earlier : (b : ℕ) → Is (bit n b) → b < j

-- the nodes' records of an accepted plan, so many of which are read
pub record NodesRead (P : Plan) (nodes : List ℕ) (count : ℕ) : Type 0 where
  pub facts : Facts P
  pub nodes_are : P.nodes ≡ nodes
  pub listed : count ≤ node_count P

-- with a node of the first so many, its operands are needed
pub record OperandsNeeded (P : Plan) (count needed : ℕ) : Type 0 where
  pub left : (j : ℕ) → j < count → Is (bit needed j) → 2 ≤ node_kind P j → Is (bit needed (node_a P j))
  pub right : (j : ℕ) → j < count → Is (bit needed j) → 2 ≤ node_kind P j → node_kind P j ≤ 4 → Is (bit needed (node_b P j))

-- all that the wanted nodes are made of
pub record NeededFor (P : Plan) (count wanted needed : ℕ) : Type 0 where
  pub wanted_needed : (b : ℕ) → Is (bit wanted b) → Is (bit needed b)
  pub operands_needed : OperandsNeeded P count needed
