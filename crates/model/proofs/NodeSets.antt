-- The nodes of a plan whose records passed: each holds what its operator makes of its operands, which are earlier, and lies in its
-- region. By the law of course-of-values recursion. Assumes nothing.
use Prim.Native.Nat.{ℕ, ◌≤◌, ◌<◌}
use mathlib.Core.Path.{◌≡◌, refl, ◌∙◌}
use mathlib.Core.List.{[], ◌∷◌}
use mathlib.Core.Bool.{Bool, true, false}
use native.Mathlib.Omega.{arith}
use lib.ListN.{get_or-eq_default}
use lib.Dec.{ltb}
use borrow.Author.Tests.{ltb-true, ltb-false}
use Rattle.model.specs.Tests.{Is, ◌and◌, ◌=?◌, ◌<?◌}
use Rattle.model.specs.Recursion.{below}
use Rattle.model.specs.Partitions.{Partition, empty, union, intersection, difference, image, preimage}
use Rattle.model.specs.Layout.{Plan, region_count, map_count, supplied_count, node_count, source, target, supplied_region, node_kind, node_a, node_b}
use Rattle.model.specs.Nodes.{SUPPLIED, EQUAL, UNION, INTERSECTION, DIFFERENCE, IMAGE, PREIMAGE, node_kind_of, node_kind_at, node_formed_by, node_formed, node_region_by, node_region_step, node_region, node_agrees_by, node_agrees}
use Rattle.model.specs.DataSets.{DataSet, pieces, size, maps_to, supplied}
use Rattle.model.specs.Membership.{equal, node_sets_by, node_sets, member}
use Rattle.model.specs.AcceptedPlans.{Facts}
use Rattle.model.specs.declared.NodeKind.{NodeKind}
use Rattle.model.specs.declared.NodeKind.TheVariants.{Supplied, Equal, Union, Intersection, Difference, Image, Preimage, Unknown}
use Rattle.model.proofs.Tests.{falsum, both, same, less, ◌also◌, at_each}
use Rattle.model.proofs.Recursion.{below_at, course_law, by_earlier}
use Rattle.model.proofs.Partitions.{Within, subset_within, union_within, intersection_subset_left, difference_subset, image_within, preimage_within, contiguous_within}
use Rattle.model.proofs.Fitting.{Fit}

-- a byte above 6 stands for no kind
pub unknown_kind : {k : ℕ} → 7 ≤ k → node_kind_of k ≡ Unknown
unfolding node_kind_of
unknown_kind h = get_or-eq_default (Supplied ∷ Equal ∷ Union ∷ Intersection ∷ Difference ∷ Image ∷ Preimage ∷ []) Unknown h

-- a node, by its kind
module _ (P : Plan) (D : DataSet) (j : ℕ) where
  pub record SuppliedNode : Type 0 where
    pub holds : member P D j ≡ supplied P D (node_a P j)
    pub listed : node_a P j < supplied_count P
    pub region : node_region P j ≡ supplied_region P (node_a P j)

  pub record EqualNode : Type 0 where
    pub holds : member P D j ≡ equal P D (node_a P j)
    pub listed : node_a P j < region_count P
    pub region : node_region P j ≡ node_a P j

  -- an operator on two nodes of the node's own region
  pub record TwoOperands (operator : Partition → Partition → Partition) : Type 0 where
    pub holds : member P D j ≡ operator (member P D (node_a P j)) (member P D (node_b P j))
    pub left_earlier : node_a P j < j
    pub right_earlier : node_b P j < j
    pub left_listed : node_a P j < node_count P
    pub right_listed : node_b P j < node_count P
    pub left_region : node_region P j ≡ node_region P (node_a P j)
    pub right_region : node_region P j ≡ node_region P (node_b P j)

  -- an operator on a node of one end of a map, which gives a node of the other end
  pub record OneOperand (end other : ℕ → ℕ) (operator : Partition → Partition) : Type 0 where
    pub holds : member P D j ≡ operator (member P D (node_a P j))
    pub earlier : node_a P j < j
    pub listed : node_a P j < node_count P
    pub map_listed : node_b P j < map_count P
    pub operand_region_lem : node_region P (node_a P j) ≡ end (node_b P j)
    pub region : node_region P j ≡ other (node_b P j)

  abbrev pub UnionNode : Type 0
  UnionNode = TwoOperands union

  abbrev pub IntersectionNode : Type 0
  IntersectionNode = TwoOperands intersection

  abbrev pub DifferenceNode : Type 0
  DifferenceNode = TwoOperands difference

  abbrev pub ImageNode : Type 0
  ImageNode = OneOperand (source P) (target P) (image (size D (source P (node_b P j))) (maps_to P D (node_b P j)))

  abbrev pub PreimageNode : Type 0
  PreimageNode = OneOperand (target P) (source P) (preimage (size D (target P (node_b P j))) (maps_to P D (node_b P j)))

-- what its kind says of a node
record OfKind (P : Plan) (D : DataSet) (j : ℕ) (kind : NodeKind) : Type 0 where
  formed : Is (node_formed_by P kind j)
  agrees : Is (node_agrees_by P kind j)
  holds : member P D j ≡ node_sets_by P D kind j (below empty j (member P D))
  region : node_region P j ≡ node_region_by P kind j (below 0 j (node_region P))

module _ (P : Plan) (D : DataSet) (F : Facts P) (j : ℕ) (lt : j < node_count P) where
  of_kind : (byte : ℕ) → node_kind P j ≡ byte → OfKind P D j (node_kind_of byte)
  unfolding node_formed node_agrees member node_sets node_region node_region_step node_kind_at
  of_kind byte is =
      record {
        formed = rw is at (both (F.node_formed_lem j lt)).1;
        agrees = rw is at (F.node_agrees_lem j lt);
        holds = rw (← is) (course_law empty (node_sets P D) j);
        region = rw (← is) (course_law 0 (node_region_step P) j);
      }

  two_operands :
      (operator : Partition → Partition → Partition) →
      Is (node_a P j <? j and node_b P j <? j) → Is (node_region P (node_a P j) =? node_region P (node_b P j)) →
      member P D j ≡ operator (below empty j (member P D) (node_a P j)) (below empty j (member P D) (node_b P j)) →
      node_region P j ≡ below 0 j (node_region P) (node_a P j) →
      TwoOperands P D j operator
  two_operands operator formed agrees holds region =
      let left = less (both formed).0 in
      let right = less (both formed).1 in
      let left_region : node_region P j ≡ node_region P (node_a P j) = region ∙ below_at 0 j (node_region P) (node_a P j) left in
      record {
        holds = rw (← below_at empty j (member P D) (node_a P j) left, ← below_at empty j (member P D) (node_b P j) right) holds;
        left_earlier = left;
        right_earlier = right;
        left_listed = omega arith;
        right_listed = omega arith;
        left_region = left_region;
        right_region = left_region ∙ same agrees;
      }

  one_operand :
      (end other : ℕ → ℕ) (operator : Partition → Partition) →
      Is (node_a P j <? j and node_b P j <? map_count P) → Is (node_region P (node_a P j) =? end (node_b P j)) →
      member P D j ≡ operator (below empty j (member P D) (node_a P j)) →
      node_region P j ≡ other (node_b P j) →
      OneOperand P D j end other operator
  one_operand end other operator formed agrees holds region =
      let earlier = less (both formed).0 in
      record {
        holds = rw (← below_at empty j (member P D) (node_a P j) earlier) holds;
        earlier = earlier;
        listed = omega arith;
        map_listed = less (both formed).1;
        operand_region_lem = same agrees;
        region = region;
      }

  pub supplied_node : node_kind P j ≡ SUPPLIED → SuppliedNode P D j
  unfolding node_kind_of node_formed_by node_sets_by node_region_by
  supplied_node k = let r = of_kind SUPPLIED k in record { holds = r.holds; listed = less (both r.formed).0; region = r.region }

  pub equal_node : node_kind P j ≡ EQUAL → EqualNode P D j
  unfolding node_kind_of node_formed_by node_sets_by node_region_by
  equal_node k = let r = of_kind EQUAL k in record { holds = r.holds; listed = less (both r.formed).0; region = r.region }

  pub union_node : node_kind P j ≡ UNION → UnionNode P D j
  unfolding node_kind_of node_formed_by node_agrees_by node_sets_by node_region_by
  union_node k = let r = of_kind UNION k in two_operands union r.formed r.agrees r.holds r.region

  pub intersection_node : node_kind P j ≡ INTERSECTION → IntersectionNode P D j
  unfolding node_kind_of node_formed_by node_agrees_by node_sets_by node_region_by
  intersection_node k = let r = of_kind INTERSECTION k in two_operands intersection r.formed r.agrees r.holds r.region

  pub difference_node : node_kind P j ≡ DIFFERENCE → DifferenceNode P D j
  unfolding node_kind_of node_formed_by node_agrees_by node_sets_by node_region_by
  difference_node k = let r = of_kind DIFFERENCE k in two_operands difference r.formed r.agrees r.holds r.region

  pub image_node_lem : node_kind P j ≡ IMAGE → ImageNode P D j
  unfolding node_kind_of node_formed_by node_agrees_by node_sets_by node_region_by
  image_node_lem k = let r = of_kind IMAGE k in one_operand (source P) (target P) _ r.formed r.agrees r.holds r.region

  pub preimage_node : node_kind P j ≡ PREIMAGE → PreimageNode P D j
  unfolding node_kind_of node_formed_by node_agrees_by node_sets_by node_region_by
  preimage_node k = let r = of_kind PREIMAGE k in one_operand (target P) (source P) _ r.formed r.agrees r.holds r.region

-- a node is of one of the seven kinds
pub data NodeView (P : Plan) (D : DataSet) (j : ℕ) : Type 0 where
  is_supplied : SuppliedNode P D j → NodeView P D j
  is_equal : EqualNode P D j → NodeView P D j
  is_union : UnionNode P D j → NodeView P D j
  is_intersection : IntersectionNode P D j → NodeView P D j
  is_difference : DifferenceNode P D j → NodeView P D j
  is_image_lem : ImageNode P D j → NodeView P D j
  is_preimage : PreimageNode P D j → NodeView P D j

module _ (P : Plan) (D : DataSet) (F : Facts P) where
  pub kind_known : (j : ℕ) → j < node_count P → node_kind P j < 7
  unfolding node_formed node_kind_at node_formed_by
  kind_known j lt = go (ltb (node_kind P j) 7) refl
    where
      go : (b : Bool) → ltb (node_kind P j) 7 ≡ b → node_kind P j < 7
      go true e = ltb-true _ _ e
      go false e = falsum (rw (unknown_kind (ltb-false _ _ e)) at (both (F.node_formed_lem j lt)).1)

  pub view : (j : ℕ) → j < node_count P → NodeView P D j
  view j lt =
      at_each (λ kind. node_kind P j ≡ kind → NodeView P D j) 0 7
      ((λ k. is_supplied (supplied_node P D F j lt k))
      also (λ k. is_equal (equal_node P D F j lt k))
      also (λ k. is_union (union_node P D F j lt k))
      also (λ k. is_intersection (intersection_node P D F j lt k))
      also (λ k. is_difference (difference_node P D F j lt k))
      also (λ k. is_image_lem (image_node_lem P D F j lt k))
      also (λ k. is_preimage (preimage_node P D F j lt k))
      also tt)
      (node_kind P j) (omega arith) (kind_known j lt) refl

  -- a node's region is one of the plan's
  pub region_listed : (j : ℕ) → j < node_count P → node_region P j < region_count P
  region_listed = by_earlier OfRegion (λ j earlier lt. by_kind j earlier (view j lt))
    where
      OfRegion : ℕ → Type 0
      OfRegion j = j < node_count P → node_region P j < region_count P

      as_left :
          (j : ℕ) {operator : Partition → Partition → Partition} → ((k : ℕ) → k < j → OfRegion k) → TwoOperands P D j operator →
          node_region P j < region_count P
      as_left j earlier n = rw n.left_region (earlier (node_a P j) n.left_earlier n.left_listed)

      by_kind : (j : ℕ) → ((k : ℕ) → k < j → OfRegion k) → NodeView P D j → node_region P j < region_count P
      by_kind j earlier (is_supplied n) = rw n.region (F.supplied_listed (node_a P j) n.listed)
      by_kind j earlier (is_equal n) = rw n.region n.listed
      by_kind j earlier (is_union n) = as_left j earlier n
      by_kind j earlier (is_intersection n) = as_left j earlier n
      by_kind j earlier (is_difference n) = as_left j earlier n
      by_kind j earlier (is_image_lem n) = rw n.region (F.target_listed (node_b P j) n.map_listed)
      by_kind j earlier (is_preimage n) = rw n.region (F.source_listed (node_b P j) n.map_listed)

  pub region_small : Fit P D → (j : ℕ) → j < node_count P → size D (node_region P j) ≤ 512
  region_small fit j lt = fit.few_elements (node_region P j) (region_listed j lt)

  -- a node's members are in the pieces and in its region: 001's PART
  pub node_within : Fit P D → (j : ℕ) → j < node_count P → Within (pieces D) (size D (node_region P j)) (member P D j)
  unfolding equal
  node_within fit = by_earlier (λ j. j < node_count P → InRegion j j) (λ j earlier lt. by_kind j earlier (view j lt))
    where
      InRegion : ℕ → ℕ → Type 0
      InRegion j k = Within (pieces D) (size D (node_region P j)) (member P D k)

      left :
          (j : ℕ) {operator : Partition → Partition → Partition} → ((k : ℕ) → k < j → k < node_count P → InRegion k k) →
          TwoOperands P D j operator → InRegion j (node_a P j)
      left j earlier n = rw n.left_region (earlier (node_a P j) n.left_earlier n.left_listed)

      by_kind : (j : ℕ) → ((k : ℕ) → k < j → k < node_count P → InRegion k k) → NodeView P D j → InRegion j j
      by_kind j earlier (is_supplied n) = rw (n.holds, n.region) (fit.supplied_within (node_a P j))
      by_kind j earlier (is_equal n) = rw (n.holds, n.region) (contiguous_within (fit.starts (node_a P j)))
      by_kind j earlier (is_union n) =
          rw n.holds
          (union_within (left j earlier n) (rw n.right_region (earlier (node_b P j) n.right_earlier n.right_listed)))
      by_kind j earlier (is_intersection n) = rw n.holds (subset_within (left j earlier n) (intersection_subset_left _ _))
      by_kind j earlier (is_difference n) = rw n.holds (subset_within (left j earlier n) (difference_subset _ _))
      by_kind j earlier (is_image_lem n) =
          rw (n.holds, n.region)
          (image_within _ _ _ (fit.targets (node_b P j) n.map_listed)
          (rw n.operand_region_lem at (earlier (node_a P j) n.earlier n.listed)))
      by_kind j earlier (is_preimage n) =
          rw (n.holds, n.region)
          (preimage_within _ _ _ (fit.sources (node_b P j))
          (rw n.operand_region_lem at (earlier (node_a P j) n.earlier n.listed)))
