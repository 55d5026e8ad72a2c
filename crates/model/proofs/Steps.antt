-- Every step of an accepted plan is true over data that fit: each lemma's licence and true premises make its conclusion true, and a
-- step's premises are earlier steps. Assumes nothing.
use Prim.Native.Nat.{ℕ, ◌≤◌, ◌<◌}
use mathlib.Core.Path.{◌≡◌, refl, sym, ap, ◌∙◌}
use mathlib.Core.Logic.{inl, inr}
use mathlib.Core.Bool.{Bool, true, false}
use native.Mathlib.Omega.{arith}
use Rattle.model.specs.Tests.{Is}
use Rattle.model.specs.Partitions.{Partition, image, preimage, Contained}
use Rattle.model.specs.Layout.{Plan, node_count, step_count, source, target, node_a, node_b, step_lemma, step_x, step_y, step_p, step_q}
use Rattle.model.specs.Nodes.{node_region}
use Rattle.model.specs.Lemmas.{lemmas, lemma_row, in_use, operand_of, licences, licence, step_formed, step_licensed}
use Rattle.model.specs.DataSets.{DataSet, size, maps_to}
use Rattle.model.specs.Membership.{equal}
use Rattle.model.specs.AcceptedPlans.{Facts}
use Rattle.model.proofs.Tests.{falsum, both, either, same, less, most, which, ◌also◌, at_each}
use Rattle.model.proofs.Recursion.{by_earlier}
use Rattle.model.proofs.Partitions.{subset_refl, subset_trans, union_contains_left, union_contains_right, union_least, intersection_subset_left, intersection_subset_right, intersection_greatest, difference_subset, image_monotone, preimage_monotone, image_of_preimage, subset_disjoint, intersection_disjoint_left, intersection_disjoint_right, difference_disjoint, preimage_disjoint, superset_complete, preimage_complete, contiguous_disjoint, contiguous_complete}
use Rattle.model.proofs.Fitting.{Fit}
use Rattle.model.proofs.NodeSets.{OneOperand, supplied_node, equal_node, union_node, intersection_node, difference_node, image_node_lem, preimage_node}
use Rattle.model.proofs.StepTruth.{SubsetHolds, StepTrue, subset_of, disjoint_of, complete_of, Sound}
use Rattle.model.proofs.Lemma21.{lemma_21}

in_use_lem : (used : Bool) (bound v : ℕ) → Is (in_use used bound v) → Is used → v < bound
unfolding in_use
in_use_lem true bound v h used = less h
in_use_lem false bound v h used = falsum used

module _ (P : Plan) (D : DataSet) (F : Facts P) (fit : Fit P D) where
  lemma_1 : Sound P D 1
  unfolding lemma_row lemmas licence licences equal
  lemma_1 x y p q u h =
      let n = equal_node P D F x (u.x_listed refl) (same h) in
      rw n.holds (contiguous_disjoint (fit.starts (node_a P x)))

  lemma_2 : Sound P D 2
  unfolding lemma_row lemmas licence licences equal
  lemma_2 x y p q u h =
      let n = equal_node P D F x (u.x_listed refl) (same h) in
      rw (n.holds, n.region) (contiguous_complete (fit.starts (node_a P x)))

  lemma_3 : Sound P D 3
  unfolding lemma_row lemmas licence licences
  lemma_3 x y p q u h =
      let n = supplied_node P D F x (u.x_listed refl) (same (both h).0) in
      rw n.holds (fit.supplied_disjoint_lem (node_a P x) n.listed (which (both h).1))

  lemma_4 : Sound P D 4
  unfolding lemma_row lemmas licence licences
  lemma_4 x y p q u h =
      let n = supplied_node P D F x (u.x_listed refl) (same (both h).0) in
      rw (n.holds, n.region) (fit.supplied_complete_lem (node_a P x) n.listed (which (both h).1))

  lemma_5 : Sound P D 5
  unfolding lemma_row lemmas licence licences
  lemma_5 x y p q u h =
      rw (same h) (record { y_listed = u.x_listed refl; one_region = refl; subset = subset_refl _ })

  lemma_6 : Sound P D 6
  unfolding lemma_row lemmas licence licences
  lemma_6 x y p q u h =
      let a = subset_of P D p x (step_y P p) (both h).0 (u.p_true refl) in
      let b = subset_of P D q (step_y P p) y (both h).1 (u.q_true refl) in
      record { y_listed = u.y_listed refl; one_region = a.one_region ∙ b.one_region; subset = subset_trans a.subset b.subset }

  lemma_7 : Sound P D 7
  unfolding lemma_row lemmas licence licences operand_of
  lemma_7 x y p q u h =
      let n = union_node P D F y (u.y_listed refl) (same (both h).0) in
      elim (which (both h).1) [
        | inl a ↦
            rw (← a) (record { y_listed = u.y_listed refl; one_region = sym n.left_region; subset = rw n.holds (union_contains_left _ _) })
        | inr b ↦
            rw (← b) (record { y_listed = u.y_listed refl; one_region = sym n.right_region; subset = rw n.holds (union_contains_right _ _) })
      ]

  lemma_8 : Sound P D 8
  unfolding lemma_row lemmas licence licences
  lemma_8 x y p q u h =
      let n = union_node P D F x (u.x_listed refl) (same (both h).0) in
      let a = subset_of P D p (node_a P x) y (both (both h).1).0 (u.p_true refl) in
      let b = subset_of P D q (node_b P x) y (both (both h).1).1 (u.q_true refl) in
      record {
        y_listed = u.y_listed refl;
        one_region = n.left_region ∙ a.one_region;
        subset = rw n.holds (union_least a.subset b.subset);
      }

  lemma_9 : Sound P D 9
  unfolding lemma_row lemmas licence licences operand_of
  lemma_9 x y p q u h =
      let n = intersection_node P D F x (u.x_listed refl) (same (both h).0) in
      elim (which (both h).1) [
        | inl a ↦
            rw (← a) (record { y_listed = n.left_listed; one_region = n.left_region; subset = rw n.holds (intersection_subset_left _ _) })
        | inr b ↦
            rw (← b) (record { y_listed = n.right_listed; one_region = n.right_region; subset = rw n.holds (intersection_subset_right _ _) })
      ]

  lemma_10 : Sound P D 10
  unfolding lemma_row lemmas licence licences
  lemma_10 x y p q u h =
      let n = intersection_node P D F y (u.y_listed refl) (same (both h).0) in
      let a = subset_of P D p x (node_a P y) (both (both h).1).0 (u.p_true refl) in
      let b = subset_of P D q x (node_b P y) (both (both h).1).1 (u.q_true refl) in
      record {
        y_listed = u.y_listed refl;
        one_region = a.one_region ∙ sym n.left_region;
        subset = rw n.holds (intersection_greatest a.subset b.subset);
      }

  lemma_11 : Sound P D 11
  unfolding lemma_row lemmas licence licences
  lemma_11 x y p q u h =
      let n = difference_node P D F x (u.x_listed refl) (same (both h).0) in
      rw (← same (both h).1) (record { y_listed = n.left_listed; one_region = n.left_region; subset = rw n.holds (difference_subset _ _) })

  -- 12 and 13: x and y are by one monotone operator, under one map
  under_one_map :
      {x y : ℕ} {end other : ℕ → ℕ} (operator : ℕ → Partition → Partition) →
      ((m : ℕ) (A B : Partition) → Contained A B → Contained (operator m A) (operator m B)) →
      y < node_count P → OneOperand P D x end other (operator (node_b P x)) → OneOperand P D y end other (operator (node_b P y)) →
      node_b P x ≡ node_b P y → SubsetHolds P D (node_a P x) (node_a P y) →
      SubsetHolds P D x y
  under_one_map {x} {y} {end} {other} operator monotone listed n o one_map a =
      record {
        y_listed = listed;
        one_region = n.region ∙ ap other one_map ∙ sym o.region;
        subset = rw (n.holds, o.holds, one_map) (monotone (node_b P y) _ _ a.subset);
      }

  lemma_12 : Sound P D 12
  unfolding lemma_row lemmas licence licences
  lemma_12 x y p q u h =
      let (x-kind, h) = both h in
      let (y-kind, h) = both h in
      let (one_map, premise) = both h in
      under_one_map (λ m. image (size D (source P m)) (maps_to P D m)) (λ m A B. image_monotone _ _) (u.y_listed refl)
      (image_node_lem P D F x (u.x_listed refl) (same x-kind)) (image_node_lem P D F y (u.y_listed refl) (same y-kind)) (same one_map)
      (subset_of P D p (node_a P x) (node_a P y) premise (u.p_true refl))

  lemma_13 : Sound P D 13
  unfolding lemma_row lemmas licence licences
  lemma_13 x y p q u h =
      let (x-kind, h) = both h in
      let (y-kind, h) = both h in
      let (one_map, premise) = both h in
      under_one_map (λ m. preimage (size D (target P m)) (maps_to P D m)) (λ m A B. preimage_monotone _ _) (u.y_listed refl)
      (preimage_node P D F x (u.x_listed refl) (same x-kind)) (preimage_node P D F y (u.y_listed refl) (same y-kind)) (same one_map)
      (subset_of P D p (node_a P x) (node_a P y) premise (u.p_true refl))

  lemma_14 : Sound P D 14
  unfolding lemma_row lemmas licence licences
  lemma_14 x y p q u h =
      let (x-kind, h) = both h in
      let (premise, h) = both h in
      let (z-kind, h) = both h in
      let (of-y, one_map) = both h in
      let a = subset_of P D p (node_a P x) (step_y P p) premise (u.p_true refl) in
      let n = image_node_lem P D F x (u.x_listed refl) (same x-kind) in
      let o = preimage_node P D F (step_y P p) a.y_listed (same z-kind) in
      record {
        y_listed = u.y_listed refl;
        one_region = n.region ∙ ap (target P) (sym (same one_map)) ∙ sym o.operand_region_lem ∙ ap (node_region P) (same of-y);
        subset = rw n.holds
            (image_of_preimage _ _ _ _ (fit.single_valued (node_b P x)) (rw (o.holds, same of-y, same one_map) at a.subset));
      }

  lemma_15 : Sound P D 15
  unfolding lemma_row lemmas licence licences
  lemma_15 x y p q u h =
      subset_disjoint (disjoint_of P D p y (both h).0 (u.p_true refl)) (subset_of P D q x y (both h).1 (u.q_true refl)).subset

  lemma_16 : Sound P D 16
  unfolding lemma_row lemmas licence licences
  lemma_16 x y p q u h =
      let n = intersection_node P D F x (u.x_listed refl) (same (both h).0) in
      elim (either (both h).1) [
        | inl a ↦ rw n.holds (intersection_disjoint_left _ _ (disjoint_of P D p (node_a P x) a (u.p_true refl)))
        | inr b ↦ rw n.holds (intersection_disjoint_right _ _ (disjoint_of P D p (node_b P x) b (u.p_true refl)))
      ]

  lemma_17 : Sound P D 17
  unfolding lemma_row lemmas licence licences
  lemma_17 x y p q u h =
      let n = difference_node P D F x (u.x_listed refl) (same (both h).0) in
      rw n.holds (difference_disjoint _ _ (disjoint_of P D p (node_a P x) (both h).1 (u.p_true refl)))

  lemma_18 : Sound P D 18
  unfolding lemma_row lemmas licence licences
  lemma_18 x y p q u h =
      let n = preimage_node P D F x (u.x_listed refl) (same (both h).0) in
      rw n.holds (preimage_disjoint _ _ (fit.single_valued (node_b P x)) (disjoint_of P D p (node_a P x) (both h).1 (u.p_true refl)))

  lemma_19 : Sound P D 19
  unfolding lemma_row lemmas licence licences
  lemma_19 x y p q u h =
      let a = subset_of P D q y x (both h).1 (u.q_true refl) in
      rw (← a.one_region) (superset_complete (complete_of P D p y (both h).0 (u.p_true refl)) a.subset)

  lemma_20 : Sound P D 20
  unfolding lemma_row lemmas licence licences
  lemma_20 x y p q u h =
      let (x-kind, h) = both h in
      let (total, premise) = both h in
      let n = preimage_node P D F x (u.x_listed refl) (same x-kind) in
      rw (n.holds, n.region)
      (preimage_complete _ _ _ (fit.total (node_b P x) n.map_listed (same total))
      (rw n.operand_region_lem at (complete_of P D p (node_a P x) premise (u.p_true refl))))

  sound : (l : ℕ) → 1 ≤ l → l ≤ 21 → Sound P D l
  sound l some few =
      at_each (Sound P D) 1 21
      (lemma_1 also lemma_2 also lemma_3 also lemma_4 also lemma_5 also lemma_6 also lemma_7 also lemma_8 also lemma_9 also lemma_10
      also lemma_11 also lemma_12 also lemma_13 also lemma_14 also lemma_15 also lemma_16 also lemma_17 also lemma_18 also lemma_19
      also lemma_20 also lemma_21 P D F fit also tt)
      l some (omega arith)

  -- every step's conclusion is true
  pub steps_true : (t : ℕ) → t < step_count P → StepTrue P D t
  unfolding step_formed step_licensed
  steps_true =
      by_earlier (λ t. t < step_count P → StepTrue P D t)
      (λ t earlier lt.
      let (some, f) = both (F.step_formed_lem t lt) in
      let (few, f) = both f in
      let (x-used, f) = both f in
      let (y_used, f) = both f in
      let (p_used, q_used) = both f in
      sound (step_lemma P t) (most some) (most few) (step_x P t) (step_y P t) (step_p P t) (step_q P t)
      (record {
        x_listed = in_use_lem _ _ _ x-used;
        y_listed = in_use_lem _ _ _ y_used;
        p_true = λ used. let lower = in_use_lem _ _ _ p_used used in earlier (step_p P t) lower (omega arith);
        q_true = λ used. let lower = in_use_lem _ _ _ q_used used in earlier (step_q P t) lower (omega arith);
      })
      (F.step_licensed_lem t lt))
