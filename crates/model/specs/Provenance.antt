-- "Grounds for membership": the chain of (node, element) pairs that says why a piece holds an element, and what explaining answers.
use Rattle.std.specs.Prelude.{ℕ, zero, suc, ◌+◌, Bool, true, false, List}
use Rattle.model.specs.Tests.{◌and◌, pick, first, ◌<?◌, ◌≤?◌}
use Rattle.model.specs.Bytes.{Bytes}
use Rattle.model.specs.Outcomes.{require, ◌then◌, conclude, Outcome, Written}
use Rattle.model.specs.Layout.{Plan, plan_of, node_count, source, target, node_a, node_b}
use Rattle.model.specs.Nodes.{node_kind_at, node_region}
use Rattle.model.specs.DataSets.{DataSet, data_of, pieces, size, maps_to}
use Rattle.model.specs.Membership.{member}
use Rattle.model.specs.Words.{list_after}
use Rattle.model.specs.Evaluation.{inputs_check}
use Rattle.model.specs.declared.NodeKind.{NodeKind}
use Rattle.model.specs.declared.NodeKind.TheVariants.{Supplied, Equal, Union, Intersection, Difference, Image, Preimage, Unknown}
use Rattle.model.specs.declared.Refusal.TheVariants.{OutputTooSmall, NotFound}
use Rattle.model.specs.declared.Question.{Question}
use Rattle.model.specs.declared.Pair.{Pair}

-- the question about these
abbrev pub asking : ℕ → ℕ → ℕ → Question
asking node piece element = record { node = node; piece = piece; element = element }

-- the pair of this node and element
abbrev pub pair_of : ℕ → ℕ → Pair
pair_of node element = record { node = node; element = element }

-- "Supplied and equal end the chain"
unfoldable pub ends_by : NodeKind → Bool
ends_by Supplied = true
ends_by Equal = true
ends_by Union = false
ends_by Intersection = false
ends_by Difference = false
ends_by Image = false
ends_by Preimage = false
ends_by Unknown = true

-- the least number below n that passes; n where none does
abbrev pub least : ℕ → (ℕ → Bool) → ℕ
least n test = first test 0 n

module _ (P : Plan) (D : DataSet) (i : ℕ) where
  -- "the least element of its operand's piece that leads there": a map to sets, from element k of the source to element e
  unfoldable pub least_source : ℕ → ℕ → ℕ
  least_source j e = least (size D (source P (node_b P j))) (λ k. member P D (node_a P j) i k and maps_to P D (node_b P j) k e)

  -- "a preimage to the entry": of a map to sets, the least element of its operand's piece that the element leads to
  unfoldable pub least_target : ℕ → ℕ → ℕ
  least_target j e = least (size D (target P (node_b P j))) (λ t. maps_to P D (node_b P j) e t and member P D (node_a P j) i t)

  -- the pair after element e of node j, in piece i: "A union goes to its first operand that holds the element; an intersection to its
  -- first operand; a difference to its left; an image to the least element .. that leads there; a preimage to the entry"
  unfoldable pub next_by : NodeKind → ℕ → ℕ → Pair
  next_by Supplied j e = pair_of j e
  next_by Equal j e = pair_of j e
  next_by Union j e = pair_of (pick (member P D (node_a P j) i e) (node_a P j) (node_b P j)) e
  next_by Intersection j e = pair_of (node_a P j) e
  next_by Difference j e = pair_of (node_a P j) e
  next_by Image j e = pair_of (node_a P j) (least_source j e)
  next_by Preimage j e = pair_of (node_a P j) (least_target j e)
  next_by Unknown j e = pair_of j e

  unfoldable pub next_pair : Pair → Pair
  next_pair x = next_by (node_kind_at P x.node) x.node x.element

  -- the pair at position k of the chain that starts with pair x
  unfoldable pub pair_at : Pair → ℕ → Pair
  pair_at x zero = x
  pair_at x (suc k) = next_pair (pair_at x k)

  -- how many pairs there are up to the first that ends the chain; as each goes to an earlier node, it is at position x's node or before
  unfoldable pub chain_length : Pair → ℕ
  chain_length x = first (λ k. ends_by (node_kind_at P (pair_at x k).node)) 0 x.node + 1

module _ (P : Plan) (D : DataSet) (q : Question) where
  -- "starting with the one in question"
  abbrev pub questioned : Pair
  questioned = pair_of q.node q.element

  -- the chain, position by position, and its length
  unfoldable pub chain_pair : ℕ → Pair
  chain_pair k = pair_at P D q.piece questioned k

  unfoldable pub pairs_needed : ℕ
  pairs_needed = chain_length P D q.piece questioned

  -- Absent: "node, piece or element does not exist, or the element is not a member; place 1, 2, 3 or 4, the lowest"
  unfoldable pub question_check : Outcome
  question_check =
      require (q.node <? node_count P) (NotFound 1)
      then require (q.piece <? pieces D) (NotFound 2)
      then require (q.element <? size D (node_region P q.node)) (NotFound 3)
      then require (member P D q.node q.piece q.element) (NotFound 4)

  -- Narrow: "Too short a slice is Narrow with the length as its place": either of the two
  unfoldable pub chain_room_check : ℕ → ℕ → Outcome
  chain_room_check lentNodes lentElements =
      require (pairs_needed ≤? lentNodes and pairs_needed ≤? lentElements) (OutputTooSmall pairs_needed)

module _ (p d : Bytes) (q : Question) where
  -- "after 14, before 15"
  unfoldable pub explanation_check : ℕ → ℕ → Outcome
  explanation_check lentNodes lentElements =
      inputs_check p d
      then question_check (plan_of p) (data_of d) q
      then chain_room_check (plan_of p) (data_of d) q lentNodes lentElements

  -- what explaining answers, where two slices of these lengths are lent: "the answer is the chain's length"
  unfoldable pub explanation : ℕ → ℕ → Written
  explanation lentNodes lentElements =
      conclude (explanation_check lentNodes lentElements) (pairs_needed (plan_of p) (data_of d) q)

  -- "a chain of (node, element) pairs into two lent u16 slices"
  abbrev pub nodes_after : List ℕ → Written → List ℕ
  nodes_after = list_after (λ k. (chain_pair (plan_of p) (data_of d) q k).node)

  abbrev pub elements_after : List ℕ → Written → List ℕ
  elements_after = list_after (λ k. (chain_pair (plan_of p) (data_of d) q k).element)
