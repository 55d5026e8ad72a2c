-- The nodes of a private part, lemma 21's x: their sets make the expression of 001's Theorem 5.1. Assumes nothing.
use Prim.Native.Nat.{ℕ, ◌<◌}
use mathlib.Core.Path.{◌≡◌}
use Rattle.model.specs.Tests.{Is}
use Rattle.model.specs.Partitions.{Partition, Map, image}
use Rattle.model.specs.Layout.{Plan, node_count, map_count, source, target, node_a, node_b}
use Rattle.model.specs.Lemmas.{is_node, is_private_part, private_rest, private_preimage, private_operand, private_map}
use Rattle.model.specs.DataSets.{DataSet, size, maps_to}
use Rattle.model.specs.Membership.{member}
use Rattle.model.specs.AcceptedPlans.{Facts}
use Rattle.model.proofs.Tests.{both, same}
use Rattle.model.proofs.Partitions.{private_part}
use Rattle.model.proofs.NodeSets.{difference_node, image_node_lem, preimage_node}

module _ (P : Plan) (D : DataSet) (x : ℕ) where
  -- P's sets; the map f, and the sizes of its source and its target
  abbrev pub operand : Partition
  operand = member P D (private_operand P x)

  abbrev pub map : Map
  map = maps_to P D (private_map P x)

  abbrev pub sources : ℕ
  sources = size D (source P (private_map P x))

  abbrev pub targets : ℕ
  targets = size D (target P (private_map P x))

  -- x has the private part of F, and F the image of P
  pub record PrivateNode : Type 0 where
    pub map_listed : private_map P x < map_count P
    pub image_holds : member P D (node_a P x) ≡ image sources map operand
    pub holds : member P D x ≡ private_part sources targets map operand

module _ (P : Plan) (D : DataSet) (F : Facts P) (x : ℕ) (listed : x < node_count P) (is : Is (is_private_part P x)) where
  pub private_node : PrivateNode P D x
  unfolding is_private_part is_node
  private_node =
      let (x-kind, parts) = both is in
      let (shared-kind, parts) = both parts in
      let (rest-kind, parts) = both parts in
      let (image-kind, of-operand) = both (both parts).0 in
      let (preimage-kind, of_image) = both (both parts).1 in
      let n = difference_node P D F x listed (same x-kind) in
      let shared = image_node_lem P D F (node_b P x) n.right_listed (same shared-kind) in
      let rest = difference_node P D F (private_rest P x) shared.listed (same rest-kind) in
      let whole = image_node_lem P D F (node_a P x) n.left_listed (same image-kind) in
      let leading = preimage_node P D F (private_preimage P x) rest.left_listed (same preimage-kind) in
      let image_holds : member P D (node_a P x) ≡ image (sources P D x) (map P D x) (operand P D x) =
      rw (whole.holds, same (both of-operand).0, same (both of-operand).1) in
      record {
        map_listed = shared.map_listed;
        image_holds = image_holds;
        holds = rw (n.holds, shared.holds, rest.holds, leading.holds, same (both of_image).0, same (both of_image).1, image_holds);
      }
