-- The grounds of a membership as plain statements: what a chain of (node, element) pairs shows, pair by pair.
use Rattle.std.specs.Prelude.{ℕ, suc, ◌≤◌, ◌<◌, ◌≡◌, ◌⊎◌, Bool}
use Rattle.model.specs.Tests.{Is}
use Rattle.model.specs.Layout.{Plan, node_count, node_kind, node_a, node_b}
use Rattle.model.specs.DataSets.{DataSet, pieces, size}
use Rattle.model.specs.LoopRelations.{NodeRegion}
use Rattle.model.specs.PlainData.{PointsTo}
use Rattle.model.specs.PlainSets.{DefinedSets}
use Rattle.model.specs.declared.Question.{Question}

module _ (P : Plan) (D : DataSet) where
  -- the node exists, and the element in the node's region
  pub record PairExists (j e : ℕ) : Type 0 where
    pub node_exists : j < node_count P
    pub element_exists : (r : ℕ) → NodeRegion P j r → e < size D r

  module _ (In : ℕ → ℕ → ℕ → Type 0) where
    -- in piece i, that node j holds element e follows from node k holding element f "by the operator's definition with any other membership
    -- or absence this needs"; `In` says what is in the nodes' pieces
    pub data Follows (i j e k f : ℕ) : Type 0 where
      -- "A union goes to its first operand that holds the element"
      by_first_of_union : node_kind P j ≡ 2 → k ≡ node_a P j → f ≡ e → In (node_a P j) i e → Follows i j e k f
      by_second_of_union :
          node_kind P j ≡ 2 → k ≡ node_b P j → f ≡ e → (In (node_a P j) i e → ⊥) → In (node_b P j) i e → Follows i j e k f
      -- "an intersection to its first operand"
      by_intersection : node_kind P j ≡ 3 → k ≡ node_a P j → f ≡ e → In (node_a P j) i e → In (node_b P j) i e → Follows i j e k f
      -- "a difference to its left"
      by_difference : node_kind P j ≡ 4 → k ≡ node_a P j → f ≡ e → In (node_a P j) i e → (In (node_b P j) i e → ⊥) → Follows i j e k f
      -- "an image to the least element of its operand's piece that leads there"
      by_image :
          node_kind P j ≡ 5 → k ≡ node_a P j → In (node_a P j) i f → PointsTo P D (node_b P j) f e →
          ((g : ℕ) → g < f → In (node_a P j) i g → PointsTo P D (node_b P j) g e → ⊥) → Follows i j e k f
      -- "a preimage to the entry"; of several it would be the least in the operand's piece
      by_preimage :
          node_kind P j ≡ 6 → k ≡ node_a P j → PointsTo P D (node_b P j) e f → In (node_a P j) i f →
          ((g : ℕ) → g < f → PointsTo P D (node_b P j) e g → In (node_a P j) i g → ⊥) → Follows i j e k f

    -- a chain of n pairs, node and element by position, answers the question
    pub record Grounds (q : Question) (n : ℕ) (nodes elements : ℕ → ℕ) : Type 0 where
      -- "starting with the one in question"
      pub some_pair : 1 ≤ n
      pub first_node : nodes 0 ≡ q.node
      pub first_element : elements 0 ≡ q.element
      -- "Each pair is a member"
      pub exists : (k : ℕ) → k < n → PairExists (nodes k) (elements k)
      pub members : (k : ℕ) → k < n → In (nodes k) q.piece (elements k)
      -- ", follows from its successor"
      pub follows : (k : ℕ) → suc k < n → Follows q.piece (nodes k) (elements k) (nodes (suc k)) (elements (suc k))
      -- "Supplied and equal end the chain"
      pub ends : (k : ℕ) → suc k ≡ n → (node_kind P (nodes k) ≡ 0) ⊎ (node_kind P (nodes k) ≡ 1)

  -- what is asked is so, of the sets that the operators define, and its grounds fit slices of these lengths
  pub record Explainable (q : Question) (lentNodes lentElements : ℕ) : Type 0 where
    pub piece_exists : q.piece < pieces D
    pub pair_exists : PairExists q.node q.element
    pub member : (sets : ℕ → ℕ → ℕ → Bool) → DefinedSets P D sets → Is (sets q.node q.piece q.element)
    pub room :
        (sets : ℕ → ℕ → ℕ → Bool) → DefinedSets P D sets → (n : ℕ) (nodes elements : ℕ → ℕ) →
        Grounds (λ j i e. Is (sets j i e)) q n nodes elements → (n ≤ lentNodes) × (n ≤ lentElements)
