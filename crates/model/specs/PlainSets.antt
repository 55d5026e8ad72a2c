-- The sets of "Expressions" as plain statements, node by node: what each operator makes of its operands' pieces.
use Rattle.std.specs.Prelude.{ℕ, suc, ◌+◌, ◌*◌, ◌≤◌, ◌<◌, ◌≡◌, Bool, ◌⊎◌, ◌↔◌}
use Rattle.model.specs.Tests.{Is}
use Rattle.model.specs.Layout.{Plan, node_count, supplied_region, node_kind, node_a, node_b}
use Rattle.model.specs.DataSets.{DataSet, pieces, size, supplied_bit}
use Rattle.model.specs.PlainData.{PointsTo}

-- "the first r of q + 1 elements, the rest of q": so many elements are in the pieces before piece i
pub data ElementsBefore (q r : ℕ) : ℕ → ℕ → Type 0 where
  none_yet : ElementsBefore q r 0 0
  longer : {i c : ℕ} → ElementsBefore q r i c → i < r → ElementsBefore q r (suc i) (c + (q + 1))
  shorter : {i c : ℕ} → ElementsBefore q r i c → r ≤ i → ElementsBefore q r (suc i) (c + q)

-- "With N pieces, equal over n elements: q = n div N, r = n mod N; contiguous pieces": element e is in piece i
pub record InEqualPiece (N n i e : ℕ) : Type 0 where
  pub q : ℕ
  pub r : ℕ
  pub divided : n ≡ q * N + r
  pub remainder : r < N
  pub before : ℕ
  pub up_to : ℕ
  pub pieces_before : ElementsBefore q r i before
  pub pieces_up_to : ElementsBefore q r (suc i) up_to
  pub not_before : before ≤ e
  pub not_after : e < up_to

module _ (P : Plan) (D : DataSet) where
  -- element e is in piece i of node j by the node's operator, where `In` says what is in the pieces of its operands: "0 supplied a; 1 equal,
  -- region a; 2 union, 3 intersection, 4 difference (a minus b) of nodes a, b; 5 image of node a under map b; 6 preimage of node a under map b"
  pub data ByOperator (In : ℕ → ℕ → ℕ → Type 0) (j i e : ℕ) : Type 0 where
    by_supplied :
        node_kind P j ≡ 0 → e < size D (supplied_region P (node_a P j)) → Is (supplied_bit P D (node_a P j) i e) → ByOperator In j i e
    by_equal : node_kind P j ≡ 1 → InEqualPiece (pieces D) (size D (node_a P j)) i e → ByOperator In j i e
    -- "The others act piece by piece"
    by_union : node_kind P j ≡ 2 → In (node_a P j) i e ⊎ In (node_b P j) i e → ByOperator In j i e
    by_intersection : node_kind P j ≡ 3 → In (node_a P j) i e → In (node_b P j) i e → ByOperator In j i e
    by_difference : node_kind P j ≡ 4 → In (node_a P j) i e → (In (node_b P j) i e → ⊥) → ByOperator In j i e
    -- "Image in piece i: the entries, none left out, of the elements of a[i]"
    by_image : {k : ℕ} → node_kind P j ≡ 5 → In (node_a P j) i k → PointsTo P D (node_b P j) k e → ByOperator In j i e
    -- "Preimage: the source elements whose entry is not none and is in a[i]"
    by_preimage : {t : ℕ} → node_kind P j ≡ 6 → PointsTo P D (node_b P j) e t → In (node_a P j) i t → ByOperator In j i e

  -- `In` (node, piece, element) gives the sets that the operators define, of the 512 elements that a piece has bits for
  abbrev pub OperatorSets : (ℕ → ℕ → ℕ → Type 0) → Type 0
  OperatorSets In =
      (j i e : ℕ) → j < node_count P → i < pieces D → e < 512 → In j i e ↔ ByOperator In j i e

  -- sets that the operators define, by a test: whether a node's piece holds an element
  abbrev pub DefinedSets : (ℕ → ℕ → ℕ → Bool) → Type 0
  DefinedSets sets = OperatorSets (λ j i e. Is (sets j i e))
