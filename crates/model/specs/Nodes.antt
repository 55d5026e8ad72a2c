-- "Expressions": the nodes of section 5, their regions, and the checks of their records.
use Rattle.std.specs.Prelude.{ℕ, ◌+◌, ◌*◌, [], ◌∷◌, Bool, true, false, get_or}
use Rattle.model.specs.Tests.{◌and◌, non, any, ◌=?◌, ◌<?◌}
use Rattle.model.specs.Recursion.{course}
use Rattle.model.specs.Outcomes.{require, ◌then◌, Outcome}
use Rattle.model.specs.Layout.{Plan, region_count, map_count, supplied_count, source, target, supplied_region, node_kind, node_a, node_b, node_unused}
use Rattle.model.specs.declared.Refusal.TheVariants.{InvalidRecord, RegionMismatch, DuplicateNode}
use Rattle.model.specs.declared.NodeKind.{NodeKind}
use Rattle.model.specs.declared.NodeKind.TheVariants.{Supplied, Equal, Union, Intersection, Difference, Image, Preimage, Unknown}

-- "Kinds: 0 supplied a; 1 equal, region a; 2 union, 3 intersection, 4 difference ..; 5 image ..; 6 preimage .."
abbrev pub SUPPLIED : ℕ
SUPPLIED = 0

abbrev pub EQUAL : ℕ
EQUAL = 1

abbrev pub UNION : ℕ
UNION = 2

abbrev pub INTERSECTION : ℕ
INTERSECTION = 3

abbrev pub DIFFERENCE : ℕ
DIFFERENCE = 4

abbrev pub IMAGE : ℕ
IMAGE = 5

abbrev pub PREIMAGE : ℕ
PREIMAGE = 6

-- the kind that a byte stands for
unfoldable pub node_kind_of : ℕ → NodeKind
node_kind_of k = get_or (Supplied ∷ Equal ∷ Union ∷ Intersection ∷ Difference ∷ Image ∷ Preimage ∷ []) k Unknown

module _ (P : Plan) where
  -- the kind of node j
  unfoldable pub node_kind_at : ℕ → NodeKind
  node_kind_at j = node_kind_of (node_kind P j)

  -- "Node operands are earlier nodes": union, intersection and difference have two of them
  abbrev pub operands_earlier : ℕ → Bool
  operands_earlier j = node_a P j <? j and node_b P j <? j

  -- image and preimage have one, and a map
  abbrev pub operand_and_map : ℕ → Bool
  operand_and_map j = node_a P j <? j and node_b P j <? map_count P

  -- Stray: an unknown kind, an "undefined, own or later number", an unused b that is not 0
  unfoldable pub node_formed_by : NodeKind → ℕ → Bool
  node_formed_by Supplied j = node_a P j <? supplied_count P and node_b P j =? 0
  node_formed_by Equal j = node_a P j <? region_count P and node_b P j =? 0
  node_formed_by Union j = operands_earlier j
  node_formed_by Intersection j = operands_earlier j
  node_formed_by Difference j = operands_earlier j
  node_formed_by Image j = operand_and_map j
  node_formed_by Preimage j = operand_and_map j
  node_formed_by Unknown j = false

  -- a record of section 5 by its kind; its last byte is unused
  unfoldable pub node_formed : ℕ → Bool
  node_formed j = node_unused P j =? 0 and node_formed_by (node_kind_at j) j

  -- the region of a node, from those of the nodes before it: "Kinds 2 to 4 need one region. Image .. has its target; preimage the reverse"
  unfoldable pub node_region_by : NodeKind → ℕ → (ℕ → ℕ) → ℕ
  node_region_by Supplied j earlier = supplied_region P (node_a P j)
  node_region_by Equal j earlier = node_a P j
  node_region_by Union j earlier = earlier (node_a P j)
  node_region_by Intersection j earlier = earlier (node_a P j)
  node_region_by Difference j earlier = earlier (node_a P j)
  node_region_by Image j earlier = target P (node_b P j)
  node_region_by Preimage j earlier = source P (node_b P j)
  node_region_by Unknown j earlier = 0

  -- the region of node j, from those of the nodes before it
  unfoldable pub node_region_step : ℕ → (ℕ → ℕ) → ℕ
  node_region_step j earlier = node_region_by (node_kind_at j) j earlier

  -- the region of node j
  unfoldable pub node_region : ℕ → ℕ
  node_region j = course 0 node_region_step j

  -- "Kinds 2 to 4 need one region"
  abbrev pub operands_of_one_region : ℕ → Bool
  operands_of_one_region j = node_region (node_a P j) =? node_region (node_b P j)

  -- Mismatch: "Image needs a of the map's source ..; preimage the reverse"
  unfoldable pub node_agrees_by : NodeKind → ℕ → Bool
  node_agrees_by Supplied j = true
  node_agrees_by Equal j = true
  node_agrees_by Union j = operands_of_one_region j
  node_agrees_by Intersection j = operands_of_one_region j
  node_agrees_by Difference j = operands_of_one_region j
  node_agrees_by Image j = node_region (node_a P j) =? source P (node_b P j)
  node_agrees_by Preimage j = node_region (node_a P j) =? target P (node_b P j)
  node_agrees_by Unknown j = false

  -- the regions of node j and of its operands agree
  unfoldable pub node_agrees : ℕ → Bool
  node_agrees j = node_agrees_by (node_kind_at j) j

  -- Twin: "No two records are equal"
  unfoldable pub same_node : ℕ → ℕ → Bool
  same_node j k =
      node_kind P k =? node_kind P j and node_a P k =? node_a P j and node_b P k =? node_b P j and node_unused P k =? node_unused P j

  -- node j "equals an earlier one"
  unfoldable pub duplicate_node : ℕ → Bool
  duplicate_node j = any j (same_node j)

  -- "at each 5, 6, 7"
  unfoldable pub node_check : ℕ → Outcome
  node_check j =
      require (node_formed j) (InvalidRecord (5 * 256 + j))
      then require (node_agrees j) (RegionMismatch (5 * 256 + j))
      then require (non (duplicate_node j)) (DuplicateNode j)
