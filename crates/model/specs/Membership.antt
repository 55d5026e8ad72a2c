-- The sets that the published operators define: which elements the pieces of a plan's nodes hold, over a data set.
use Rattle.std.specs.Prelude.{ℕ}
use Rattle.model.specs.Recursion.{course}
use Rattle.model.specs.Partitions.{Partition, empty, union, intersection, difference, image, preimage, contiguous, equal_start}
use Rattle.model.specs.Layout.{Plan, source, target, node_a, node_b}
use Rattle.model.specs.Nodes.{node_kind_at}
use Rattle.model.specs.DataSets.{DataSet, pieces, size, maps_to, supplied}
use Rattle.model.specs.declared.NodeKind.{NodeKind}
use Rattle.model.specs.declared.NodeKind.TheVariants.{Supplied, Equal, Union, Intersection, Difference, Image, Preimage, Unknown}

module _ (P : Plan) (D : DataSet) where
  -- "With N pieces, equal over n elements"
  unfoldable pub equal : ℕ → Partition
  equal r = contiguous (pieces D) (equal_start (pieces D) (size D r))

  -- a node, from the nodes before it: "union, .. intersection, .. difference (a minus b) of nodes a, b; .. image of node a under map b; .."
  unfoldable pub node_sets_by : NodeKind → ℕ → (ℕ → Partition) → Partition
  node_sets_by Supplied j earlier = supplied P D (node_a P j)
  node_sets_by Equal j earlier = equal (node_a P j)
  node_sets_by Union j earlier = union (earlier (node_a P j)) (earlier (node_b P j))
  node_sets_by Intersection j earlier = intersection (earlier (node_a P j)) (earlier (node_b P j))
  node_sets_by Difference j earlier = difference (earlier (node_a P j)) (earlier (node_b P j))
  node_sets_by Image j earlier = image (size D (source P (node_b P j))) (maps_to P D (node_b P j)) (earlier (node_a P j))
  node_sets_by Preimage j earlier = preimage (size D (target P (node_b P j))) (maps_to P D (node_b P j)) (earlier (node_a P j))
  node_sets_by Unknown j earlier = empty

  -- node j, from the nodes before it
  unfoldable pub node_sets : ℕ → (ℕ → Partition) → Partition
  node_sets j earlier = node_sets_by (node_kind_at P j) j earlier

  -- node, piece, element: whether the piece holds the element
  unfoldable pub member : ℕ → Partition
  member j = course empty node_sets j
