-- The successor of a pair: a member's pair ends the chain or has one, no other follows it, and it follows by any reading of the same sets.
-- Of an accepted plan and a data set that fits it. Assumes nothing.
use Prim.Native.Nat.{ℕ, ◌<◌}
use mathlib.Core.Path.{◌≡◌, refl}
use mathlib.Core.Logic.{◌⊎◌, inl, inr}
use mathlib.Core.Bool.{Bool}
use native.Mathlib.Omega.{arith}
use Rattle.model.specs.Tests.{Is, ◌and◌, non}
use Rattle.model.specs.Partitions.{union, intersection, difference}
use Rattle.model.specs.Layout.{Plan, node_count, source, target, node_kind, node_a, node_b}
use Rattle.model.specs.Nodes.{node_kind_of, node_kind_at, node_region}
use Rattle.model.specs.DataSets.{DataSet, pieces, size, maps_to}
use Rattle.model.specs.Membership.{member}
use Rattle.model.specs.AcceptedPlans.{Facts}
use Rattle.model.specs.LoopRelations.{NodeRegion}
use Rattle.model.specs.declared.Pair.{Pair}
use Rattle.model.specs.Provenance.{ends_by, least, least_source, least_target, next_by}
use Rattle.model.specs.Grounds.{PairExists, Follows, by_first_of_union, by_second_of_union, by_intersection, by_difference, by_image, by_preimage}
use Rattle.model.specs.declared.NodeKind.TheVariants.{Union, Intersection, Difference, Image, Preimage}
use Rattle.model.proofs.Tests.{both, pair, either, lacks, refuted, split, fails, pick_true, pick-false, first_found, first_most, first_is, ◌also◌, at_each}
use Rattle.model.proofs.Partitions.{of_image, of_preimage}
use Rattle.model.proofs.DataAgrees.{points_to}
use Rattle.model.proofs.Fitting.{Fit}
use Rattle.model.proofs.NodesAgree.{node_formed_lem, region_is, node_region_lem}
use Rattle.model.proofs.NodeSets.{kind_known, UnionNode, IntersectionNode, DifferenceNode, ImageNode, PreimageNode, union_node, intersection_node, difference_node, image_node_lem, preimage_node, region_small}
use Rattle.model.proofs.SetsAgree.{in_difference, SameSets}

-- the least of n numbers that passes, where one does: it is among them, it passes, and none before it does
record Least (f : ℕ → Bool) (n k : ℕ) : Type 0 where
  inside : k < n
  none_before : (g : ℕ) → g < k → Is (f g) → ⊥
  passes : Is (f k)

least_is : (f : ℕ → Bool) (n k : ℕ) → k < n → Is (f k) → Least f n (least n f)
least_is f n k lt h =
    let most = first_most f 0 n k (omega arith) (omega arith) h in
    record {
      inside = omega arith;
      none_before = λ g lg p. let m = first_most f 0 n g (omega arith) (omega arith) p in omega arith;
      passes = first_found f 0 n (omega arith);
    }

module _ (P : Plan) (D : DataSet) (F : Facts P) (fit : Fit P D) (i : ℕ) where
  abbrev pub Members : ℕ → ℕ → ℕ → Type 0
  Members j i e = Is (member P D j i e)

  -- a member's pair is followed by one of an earlier node, which is a member too
  pub record Goes (j e : ℕ) (x : Pair) : Type 0 where
    pub earlier : x.node < j
    pub holds : Is (member P D x.node i x.element)
    pub follows : Follows P D Members i j e x.node x.element

  module _ (j e : ℕ) (h : Is (member P D j i e)) where
    union_goes : node_kind P j ≡ 2 → UnionNode P D j → Goes j e (next_by P D i Union j e)
    unfolding union next_by
    union_goes k n =
        elim (split (member P D (node_a P j) i e)) [
          | inl a ↦
              rw (pick_true _ _ _ a)
              (record { earlier = n.left_earlier; holds = a; follows = by_first_of_union k refl refl a })
          | inr l ↦
              let b : Is (member P D (node_b P j) i e) = elim (either (rw n.holds at h)) [ inl a ↦ absurd (lacks l a) | inr b ↦ b ] in
              rw (pick-false _ _ _ (fails l))
              (record { earlier = n.right_earlier; holds = b; follows = by_second_of_union k refl refl (lacks l) b })
        ]

    intersection_goes : node_kind P j ≡ 3 → IntersectionNode P D j → Goes j e (next_by P D i Intersection j e)
    unfolding intersection next_by
    intersection_goes k n =
        let (a, b) = both (rw n.holds at h) in record { earlier = n.left_earlier; holds = a; follows = by_intersection k refl refl a b }

    difference_goes : node_kind P j ≡ 4 → DifferenceNode P D j → Goes j e (next_by P D i Difference j e)
    unfolding difference next_by
    difference_goes k n =
        let (a, b) = (in_difference _ _).0 (rw n.holds at h) in
        record { earlier = n.left_earlier; holds = a; follows = by_difference k refl refl a b }

    image_goes : node_kind P j ≡ 5 → ImageNode P D j → Goes j e (next_by P D i Image j e)
    unfolding next_by least_source
    image_goes k n =
        let w = of_image _ _ _ (rw n.holds at h) in
        let l = least_is (λ s. member P D (node_a P j) i s and maps_to P D (node_b P j) s e) (size D (source P (node_b P j))) w.0 w.1 (pair w.2 w.3) in
        let (a, t) = both l.passes in
        record {
          earlier = n.earlier;
          holds = a;
          follows = by_image k refl a ((points_to P D _ _ _).0 t) (λ g lg b u. l.none_before g lg (pair b ((points_to P D _ _ _).1 u)));
        }

    preimage_goes : node_kind P j ≡ 6 → PreimageNode P D j → Goes j e (next_by P D i Preimage j e)
    unfolding next_by least_target
    preimage_goes k n =
        let w = of_preimage _ _ _ (rw n.holds at h) in
        let l = least_is (λ t. maps_to P D (node_b P j) e t and member P D (node_a P j) i t) (size D (target P (node_b P j))) w.0 w.1 (pair w.2 w.3) in
        let (t, a) = both l.passes in
        record {
          earlier = n.earlier;
          holds = a;
          follows = by_preimage k refl ((points_to P D _ _ _).0 t) a (λ g lg u b. l.none_before g lg (pair ((points_to P D _ _ _).1 u) b));
        }

  -- a member's pair ends the chain, or goes on
  pub data Step (j e : ℕ) : Type 0 where
    ends : Is (ends_by (node_kind_at P j)) → (node_kind P j ≡ 0) ⊎ (node_kind P j ≡ 1) → Step j e
    goes : Is (non (ends_by (node_kind_at P j))) → Goes j e (next_by P D i (node_kind_at P j) j e) → Step j e

  pub step : (j e : ℕ) → j < node_count P → Is (member P D j i e) → Step j e
  unfolding node_kind_at node_kind_of ends_by non
  step j e lj h =
      at_each (λ kind. node_kind P j ≡ kind → Step j e) 0 7
      ((λ k. ends (rw k refl) (inl k))
      also (λ k. ends (rw k refl) (inr k))
      also (λ k. goes (rw k refl) (rw k (union_goes j e h k (union_node P D F j lj k))))
      also (λ k. goes (rw k refl) (rw k (intersection_goes j e h k (intersection_node P D F j lj k))))
      also (λ k. goes (rw k refl) (rw k (difference_goes j e h k (difference_node P D F j lj k))))
      also (λ k. goes (rw k refl) (rw k (image_goes j e h k (image_node_lem P D F j lj k))))
      also (λ k. goes (rw k refl) (rw k (preimage_goes j e h k (preimage_node P D F j lj k))))
      also tt)
      (node_kind P j) (omega arith) (kind_known P D F j lj) refl

  -- a pair exists where its element is below the size of its node's region
  region_of : (j : ℕ) → j < node_count P → NodeRegion P j (node_region P j)
  region_of j lj = (node_region_lem P j (node_region P j) (λ k le. (node_formed_lem P k).0 (F.node_formed_lem k (omega arith)))).0 refl

  pub pair_exists : (j e : ℕ) → j < node_count P → e < size D (node_region P j) → PairExists P D j e
  pair_exists j e lj le = record { node_exists = lj; element_exists = λ r is. rw (region_is P is) at le }

  pub exists_inside : {j e : ℕ} → PairExists P D j e → e < size D (node_region P j)
  exists_inside {j} x = x.element_exists (node_region P j) (region_of j x.node_exists)

  pub exists_few : {j e : ℕ} → PairExists P D j e → e < 512
  exists_few {j} x = let l = exists_inside x in omega (arith, region_small P D F fit j x.node_exists)

  -- the successor of an existing pair is the next one by definition
  pub follows_next : (j e k f : ℕ) → j < node_count P → Follows P D Members i j e k f →
      Is (non (ends_by (node_kind_at P j))) × (k ≡ (next_by P D i (node_kind_at P j) j e).node) × (f ≡ (next_by P D i (node_kind_at P j) j e).element)
  unfolding node_kind_at node_kind_of ends_by non next_by least_source least_target
  follows_next j e k f lj (by_first_of_union kind is same a) = rw (kind, pick_true _ (node_a P j) (node_b P j) a) (refl, is, same)
  follows_next j e k f lj (by_second_of_union kind is same n b) =
      rw (kind, pick-false _ (node_a P j) (node_b P j) (fails (refuted n))) (refl, is, same)
  follows_next j e k f lj (by_intersection kind is same a b) = rw kind (refl, is, same)
  follows_next j e k f lj (by_difference kind is same a n) = rw kind (refl, is, same)
  follows_next j e k f lj (by_image kind is a t none) =
      rw kind (
        refl,
        is,
        first_is (λ s. member P D (node_a P j) i s and maps_to P D (node_b P j) s e) _ f (omega (arith, t.from)) (λ lt. pair a ((points_to P D _ _ _).1 t))
            (λ s ls p. let (b, u) = both p in none s ls b ((points_to P D _ _ _).0 u)),
      )
  follows_next j e k f lj (by_preimage kind is t a none) =
      let to = (points_to P D _ _ _).1 t in
      rw kind (
        refl,
        is,
        first_is (λ s. maps_to P D (node_b P j) e s and member P D (node_a P j) i s) _ f (omega (arith, fit.targets (node_b P j) (preimage_node P D F j lj kind).map_listed _ _ to)) (λ lt. pair to a)
            (λ s ls p. let (u, b) = both p in none s ls ((points_to P D _ _ _).0 u) b),
      )

  -- grounds are grounds by any reading of the same sets
  module _ (A B : ℕ → ℕ → ℕ → Type 0) (same : SameSets P D A B) (li : i < pieces D) where
    pub follows_same : {j e k f : ℕ} → PairExists P D j e → Follows P D A i j e k f → Follows P D B i j e k f
    follows_same {j} {e} x w = go w
      where
        to : (a g : ℕ) → a < node_count P → g < 512 → A a i g → B a i g
        to a g la lg = (same a i g la li lg).0

        of : (a g : ℕ) → a < node_count P → g < 512 → B a i g → A a i g
        of a g la lg = (same a i g la li lg).1

        le : e < 512
        le = exists_few x

        go : {k f : ℕ} → Follows P D A i j e k f → Follows P D B i j e k f
        go (by_first_of_union kind is s a) =
            let n = union_node P D F j x.node_exists kind in by_first_of_union kind is s (to _ e n.left_listed le a)
        go (by_second_of_union kind is s l b) =
            let n = union_node P D F j x.node_exists kind in
            by_second_of_union kind is s (λ a. l (of _ e n.left_listed le a)) (to _ e n.right_listed le b)
        go (by_intersection kind is s a b) =
            let n = intersection_node P D F j x.node_exists kind in
            by_intersection kind is s (to _ e n.left_listed le a) (to _ e n.right_listed le b)
        go (by_difference kind is s a l) =
            let n = difference_node P D F j x.node_exists kind in
            by_difference kind is s (to _ e n.left_listed le a) (λ b. l (of _ e n.right_listed le b))
        go (by_image kind is a t none) =
            let n = image_node_lem P D F j x.node_exists kind in
            let small = fit.few_elements _ (F.source_listed (node_b P j) n.map_listed) in
            let lf = t.from in
            by_image kind is (to _ _ n.listed (omega arith) a) t (λ g lg b u. none g lg (of _ g n.listed (omega arith) b) u)
        go (by_preimage kind is t a none) =
            let n = preimage_node P D F j x.node_exists kind in
            let small = fit.few_elements _ (F.target_listed (node_b P j) n.map_listed) in
            let lf = fit.targets (node_b P j) n.map_listed _ _ ((points_to P D _ _ _).1 t) in
            by_preimage kind is t (to _ _ n.listed (omega arith) a) (λ g lg u b. none g lg u (of _ g n.listed (omega arith) b))
