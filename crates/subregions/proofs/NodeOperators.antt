-- A node's operator by its kind, from what its operands hold: image and preimage by the map's entries, the three others element by element.
-- Assumes nothing.
use Prim.Native.Nat.{ℕ, zero, suc, ◌+◌, ◌*◌, ◌≤◌, ◌<◌}
use mathlib.Core.Path.{◌≡◌, refl, sym, ap, ◌∙◌}
use mathlib.Core.Logic.{inl, inr}
use mathlib.Core.Bool.{Bool, true, false}
use native.Mathlib.Omega.{arith}
use Rattle.model.specs.Tests.{◌and◌, ◌=?◌, ◌<?◌}
use Rattle.model.specs.Partitions.{Partition, union, intersection, difference, image, preimage}
use Rattle.model.specs.Layout.{Plan, supplied_count, node_count, source, target, supplied_region, node_kind, node_a, node_b}
use Rattle.model.specs.Nodes.{SUPPLIED, EQUAL, UNION, INTERSECTION, DIFFERENCE, IMAGE, PREIMAGE, node_kind_of, node_kind_at, node_region}
use Rattle.model.specs.DataSets.{DataSet, NONE, pieces, size, entry_start, entry, low, past, maps_to, piece_bytes, member_start}
use Rattle.model.specs.Membership.{node_sets_by, node_sets}
use Rattle.model.proofs.Tests.{both, pair, less, less!, most, most!, same, same!, split, fails, some_of, among, pick_true, pick-false, at_each, ◌also◌, same_truth}
use Rattle.model.specs.AcceptedPlans.{Facts}
use Rattle.model.proofs.Fitting.{Fit}
use Rattle.model.proofs.NodeSets.{TwoOperands, union_node, intersection_node, difference_node, kind_known}
use Rattle.model.specs.declared.NodeKind.{NodeKind}
use Rattle.model.specs.declared.NodeKind.TheVariants.{Supplied, Equal, Union, Intersection, Difference, Image, Preimage, Unknown}
use Rattle.bitsets.specs.Elements as set
use Rattle.bitsets.specs.Elements.{entries_of, leading_to}
use Rattle.primitives.proofs.Bits.{refute}
use Rattle.subregions.proofs.NodePieces.{product}

-- an entry below 512 is not none: it leads to one element
maps_to_is : (P : Plan) (D : DataSet) (m k e : ℕ) → e < 512 → maps_to P D m k e ≡ (k <? size D (source P m) and entry P D m k =? e)
unfolding maps_to low past
maps_to_is P D m k e h =
    same_truth
    (λ t.
    let inside = (both t).0 in
    let from = most (both (both t).1).0 in
    let up-to = less (both (both t).1).1 in
    pair inside (elim (split (entry P D m k =? NONE)) [
      | inl n ↦ absurd (omega (arith, rw (pick_true _ (entry P D m k) (entry P D m k + 1) n) at up-to))
      | inr n ↦ same! (let q : e < entry P D m k + 1 = rw (pick-false _ (entry P D m k) (entry P D m k + 1) (fails n)) at up-to in omega arith)
    ]))
    (λ t.
    let q = same (both t).1 in
    let some : (entry P D m k =? NONE) ≡ false = refute (λ n. let z = same n in omega arith) in
    pair (both t).0 (pair (most! (omega arith)) (less! (rw (pick-false _ (entry P D m k) (entry P D m k + 1) some) (omega arith)))))

-- image and preimage, of a set whose elements below the size of its region are the operand's
module _ (P : Plan) (D : DataSet) (m : ℕ) (A : Partition) (i : ℕ) (S : ℕ → Bool) where
  pub image_is : ((k : ℕ) → (k <? size D (source P m) and S k) ≡ A i k) → (e : ℕ) → e < 512
      → entries_of (size D (source P m)) D.entries (entry_start P D m) S e ≡ image (size D (source P m)) (maps_to P D m) A i e
  unfolding entries_of image entry
  image_is is e h =
      same_truth
      (λ t. let k = some_of t in
      among (k.0, k.1, pair (sym (is k.0) ∙ pair (less! k.1) (both k.2).0) (maps_to_is P D m k.0 e h ∙ pair (less! k.1) (both k.2).1)))
      (λ t. let k = some_of t in
      among (k.0, k.1, pair (both (is k.0 ∙ (both k.2).0)).1 (both (sym (maps_to_is P D m k.0 e h) ∙ (both k.2).1)).1))

  pub preimage_is : size D (target P m) ≤ 512 → ((e : ℕ) → (e <? size D (target P m) and S e) ≡ A i e) → (k : ℕ)
      → leading_to (size D (source P m)) D.entries (entry_start P D m) (size D (target P m)) S k ≡ preimage (size D (target P m)) (maps_to P D m) A i k
  unfolding leading_to preimage entry
  preimage_is few is k =
      same_truth
      (λ t.
      let v = less (both (both t).1).0 in
      among (entry P D m k, v, pair (maps_to_is P D m k (entry P D m k) (omega arith) ∙ pair (both t).0 (same! refl)) (sym (is (entry P D m k)) ∙ (both t).1)))
      (λ t.
      let e = some_of t in
      let to = sym (maps_to_is P D m k e.0 (omega (arith, e.1))) ∙ (both e.2).0 in
      pair (both to).0 (rw (same (both to).1) (is e.0 ∙ (both e.2).1)))

-- a test taken out of both operands
pub share_combination : (combination : Bool → Bool → Bool) → combination false false ≡ false → (s x y : Bool) → (s and combination x y) ≡ combination (s and x) (s and y)
unfolding ◌and◌
share_combination combination neither true x y = refl
share_combination combination neither false x y = sym neither

-- a node's sets, by its kind
pub sets_are : (P : Plan) (D : DataSet) (j : ℕ) (H : ℕ → Partition) {kind : NodeKind} → node_kind_at P j ≡ kind → node_sets P D j H ≡ node_sets_by P D kind j H
unfolding node_sets
sets_are P D j H k = rw k

-- the byte of a kind
abbrev pub byte_of : NodeKind → ℕ
byte_of Supplied = SUPPLIED
byte_of Equal = EQUAL
byte_of Union = UNION
byte_of Intersection = INTERSECTION
byte_of Difference = DIFFERENCE
byte_of Image = IMAGE
byte_of Preimage = PREIMAGE
byte_of Unknown = 7

-- a union, an intersection or a difference, by what all three have in common
pub record Combines (P : Plan) (D : DataSet) (j : ℕ) (combination : Bool → Bool → Bool) : Type 0 where
  pub left_earlier : node_a P j < j
  pub right_earlier : node_b P j < j
  pub left_region : node_region P j ≡ node_region P (node_a P j)
  pub right_region : node_region P j ≡ node_region P (node_b P j)
  pub neither : combination false false ≡ false
  pub sets : (H : ℕ → Partition) (i e : ℕ) → node_sets P D j H i e ≡ combination (H (node_a P j) i e) (H (node_b P j) i e)

module _ (P : Plan) (D : DataSet) (F : Facts P) (j : ℕ) (lt : j < node_count P) where
  pub byte_is : {kind : NodeKind} → node_kind_at P j ≡ kind → node_kind P j ≡ byte_of kind
  unfolding node_kind_at node_kind_of
  byte_is k =
      at_each (λ byte. byte ≡ byte_of (node_kind_of byte)) 0 7
      (refl also refl also refl also refl also refl also refl also refl also tt) (node_kind P j) (omega arith) (kind_known P D F j lt) ∙ ap byte_of k

  pub known_kind : node_kind_at P j ≡ Unknown → ⊥
  known_kind k = let byte = byte_is k in omega (arith, kind_known P D F j lt)

  combining : {kind : NodeKind} {combination : Bool → Bool → Bool} {combined : Partition → Partition → Partition} → TwoOperands P D j combined → node_kind_at P j ≡ kind
      → combination false false ≡ false
      → ((H : ℕ → Partition) (i e : ℕ) → node_sets_by P D kind j H i e ≡ combination (H (node_a P j) i e) (H (node_b P j) i e)) → Combines P D j combination
  combining n k neither by_kind =
      record {
        left_earlier = n.left_earlier;
        right_earlier = n.right_earlier;
        left_region = n.left_region;
        right_region = n.right_region;
        neither = neither;
        sets = λ H i e. ap (λ (partition : Partition). partition i e) (sets_are P D j H k) ∙ by_kind H i e;
      }

  pub unites : node_kind_at P j ≡ Union → Combines P D j set.union
  unfolding node_sets_by union
  unites k = combining (union_node P D F j lt (byte_is k)) k set.neither-union (λ H i e. refl)

  pub intersects : node_kind_at P j ≡ Intersection → Combines P D j set.intersection
  unfolding node_sets_by intersection
  intersects k = combining (intersection_node P D F j lt (byte_is k)) k set.neither-intersection (λ H i e. refl)

  pub subtracts : node_kind_at P j ≡ Difference → Combines P D j set.difference
  unfolding node_sets_by difference
  subtracts k = combining (difference_node P D F j lt (byte_is k)) k set.neither-difference (λ H i e. refl)

-- where supplied members begin is near
module _ (P : Plan) (D : DataSet) (F : Facts P) (fit : Fit P D) where
  few_bytes : (k : ℕ) → k < supplied_count P → piece_bytes P D k ≤ 64
  unfolding piece_bytes
  few_bytes k h = omega (arith, fit.few_elements (supplied_region P k) (F.supplied_listed k h))

  pub members_near : (k : ℕ) → k ≤ supplied_count P → member_start P D k ≤ k * 1024
  unfolding member_start
  members_near zero h = omega arith
  members_near (suc k) h =
      omega (arith, members_near k (omega arith), product (pieces D) (piece_bytes P D k) 16 64 fit.few_pieces (few_bytes k (omega arith)))
