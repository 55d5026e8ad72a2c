-- The two readings of section 5 agree: the verdict's tests and the plain statements about nodes. Assumes nothing.
use Prim.Native.Nat.{ℕ, zero, suc, ◌≤◌, ◌<◌}
use mathlib.Core.Path.{◌≡◌, refl, sym, ◌∙◌}
use mathlib.Core.Logic.{inl, inr, ◌↔◌}
use native.Mathlib.Omega.{arith}
use Rattle.model.specs.Tests.{Is, ◌and◌, ◌=?◌, ◌<?◌}
use Rattle.model.specs.Recursion.{below}
use Rattle.model.specs.Layout.{Plan, node_kind, node_a, node_b, node_unused}
use Rattle.model.specs.Nodes.{node_kind_of, node_kind_at, node_formed_by, node_formed, node_region_by, node_region_step, node_region, node_agrees_by, node_agrees, same_node, duplicate_node}
use Rattle.model.specs.LoopRelations.{NodeRegion, of_supplied, of_equal, of_operands, of_image, of_preimage}
use Rattle.model.specs.PlainPlan.{NodeFormed, supplied_formed, equal_formed, operands_formed, map_formed, NodeAgrees, SameNode}
use Rattle.model.proofs.Tests.{falsum, both, pair, same, same!, less, less!, some_of, among}
use Rattle.model.proofs.Recursion.{course_law, below_at}

-- a kind from 2 to 4, case by case
three : (Q : ℕ → Type 0) → Q 2 → Q 3 → Q 4 → (k : ℕ) → 2 ≤ k → k ≤ 4 → Q k
three Q a b c zero l h = absurd (omega arith)
three Q a b c (suc zero) l h = absurd (omega arith)
three Q a b c (suc (suc zero)) l h = a
three Q a b c (suc (suc (suc zero))) l h = b
three Q a b c (suc (suc (suc (suc zero)))) l h = c
three Q a b c (suc (suc (suc (suc (suc k))))) l h = absurd (omega arith)

module _ (P : Plan) where
  -- what a record must be, by its kind
  formed_by : (j k : ℕ) → node_kind P j ≡ k → node_unused P j ≡ 0 → Is (node_formed_by P (node_kind_of k) j) → NodeFormed P j
  unfolding node_kind_of node_formed_by
  formed_by j zero e u h = supplied_formed e (less (both h).0) (same (both h).1) u
  formed_by j (suc zero) e u h = equal_formed e (less (both h).0) (same (both h).1) u
  formed_by j (suc (suc zero)) e u h = operands_formed (omega arith) (omega arith) (less (both h).0) (less (both h).1) u
  formed_by j (suc (suc (suc zero))) e u h = operands_formed (omega arith) (omega arith) (less (both h).0) (less (both h).1) u
  formed_by j (suc (suc (suc (suc zero)))) e u h = operands_formed (omega arith) (omega arith) (less (both h).0) (less (both h).1) u
  formed_by j (suc (suc (suc (suc (suc zero))))) e u h = map_formed (inl e) (less (both h).0) (less (both h).1) u
  formed_by j (suc (suc (suc (suc (suc (suc zero)))))) e u h = map_formed (inr e) (less (both h).0) (less (both h).1) u
  formed_by j (suc (suc (suc (suc (suc (suc (suc k))))))) e u h = falsum h

  test_formed : (j : ℕ) → NodeFormed P j → Is (node_formed P j)
  unfolding node_formed node_kind_at node_kind_of node_formed_by
  test_formed j (supplied_formed e a b u) = pair (same! u) (rw e (pair (less! a) (same! b)))
  test_formed j (equal_formed e a b u) = pair (same! u) (rw e (pair (less! a) (same! b)))
  test_formed j (operands_formed l h a b u) =
      let t : Is (node_a P j <? j and node_b P j <? j) = pair (less! a) (less! b) in
      pair (same! u) (three (λ k. Is (node_formed_by P (node_kind_of k) j)) t t t (node_kind P j) l h)
  test_formed j (map_formed (inl e) a b u) = pair (same! u) (rw e (pair (less! a) (less! b)))
  test_formed j (map_formed (inr e) a b u) = pair (same! u) (rw e (pair (less! a) (less! b)))

  pub node_formed_lem : (j : ℕ) → Is (node_formed P j) ↔ NodeFormed P j
  unfolding node_formed node_kind_at
  node_formed_lem j = (λ h. formed_by j (node_kind P j) refl (same (both h).0) (both h).1, test_formed j)

  -- the region of a node, by its kind
  pub region_law : (j k : ℕ) → node_kind P j ≡ k → node_region P j ≡ node_region_by P (node_kind_of k) j (below 0 j (node_region P))
  unfolding node_region node_region_step node_kind_at
  region_law j k e = rw (← e) (course_law 0 (node_region_step P) j)

  operands_region : (j : ℕ) → 2 ≤ node_kind P j → node_kind P j ≤ 4 → node_a P j < j → node_region P j ≡ node_region P (node_a P j)
  unfolding node_kind_of node_region_by
  operands_region j l h lt =
      region_law j (node_kind P j) refl
      ∙ three
      (λ k. node_region_by P (node_kind_of k) j (below 0 j (node_region P)) ≡ below 0 j (node_region P) (node_a P j))
      refl refl refl (node_kind P j) l h
      ∙ below_at 0 j (node_region P) (node_a P j) lt

  -- the relation gives the function's value
  pub region_is : {j r : ℕ} → NodeRegion P j r → node_region P j ≡ r
  unfolding node_kind_of node_region_by
  region_is (of_supplied {j = j} e r) = region_law j 0 e ∙ sym r
  region_is (of_equal {j = j} e r) = region_law j 1 e ∙ sym r
  region_is (of_operands {j = j} l h lt n) = operands_region j l h lt ∙ region_is n
  region_is (of_image {j = j} e r) = region_law j 5 e ∙ sym r
  region_is (of_preimage {j = j} e r) = region_law j 6 e ∙ sym r

  -- the function's value is so related, where the nodes up to j are formed
  region_by_lem : (n j : ℕ) → j < n → ((i : ℕ) → i ≤ j → NodeFormed P i) → NodeRegion P j (node_region P j)
  unfolding node_kind_of node_region_by
  region_by_lem zero j lt f = absurd (omega arith)
  region_by_lem (suc n) j lt f = go (f j (omega arith)) (λ l. region_by_lem n (node_a P j) (omega arith) (λ i le. f i (omega arith)))
    where
      go : NodeFormed P j → (node_a P j < j → NodeRegion P (node_a P j) (node_region P (node_a P j))) → NodeRegion P j (node_region P j)
      go (supplied_formed e a b u) r = of_supplied e (region_law j 0 e)
      go (equal_formed e a b u) r = of_equal e (region_law j 1 e)
      go (operands_formed l h a b u) r = let n : NodeRegion P (node_a P j) (node_region P j) = rw (operands_region j l h a) (r a) in of_operands l h a n
      go (map_formed (inl e) a b u) r = of_image e (region_law j 5 e)
      go (map_formed (inr e) a b u) r = of_preimage e (region_law j 6 e)

  pub node_region_lem : (j r : ℕ) → ((i : ℕ) → i ≤ j → NodeFormed P i) → (node_region P j ≡ r) ↔ NodeRegion P j r
  node_region_lem j r f = (λ e. rw e at (region_by_lem (suc j) j (omega arith) f), region_is)

  -- operands of a formed record are earlier nodes
  pub operands_earlier_lem : (j : ℕ) → NodeFormed P j → 2 ≤ node_kind P j → node_kind P j ≤ 4 → (node_a P j < j) × (node_b P j < j)
  operands_earlier_lem j (supplied_formed e a b u) l h = absurd (omega arith)
  operands_earlier_lem j (equal_formed e a b u) l h = absurd (omega arith)
  operands_earlier_lem j (operands_formed l' h' a b u) l h = (a, b)
  operands_earlier_lem j (map_formed (inl e) a b u) l h = absurd (omega arith)
  operands_earlier_lem j (map_formed (inr e) a b u) l h = absurd (omega arith)

  pub operand_earlier : (j : ℕ) → NodeFormed P j → 2 ≤ node_kind P j → node_a P j < j
  operand_earlier j (supplied_formed e a b u) l = absurd (omega arith)
  operand_earlier j (equal_formed e a b u) l = absurd (omega arith)
  operand_earlier j (operands_formed l' h' a b u) l = a
  operand_earlier j (map_formed m a b u) l = a

  -- the test of regions, by kind
  agree_by : (j k : ℕ) → node_kind P j ≡ k → Is (node_agrees P j) → Is (node_agrees_by P (node_kind_of k) j)
  unfolding node_agrees node_kind_at
  agree_by j k e h = rw e at h

  agree_operands : (j : ℕ) → Is (node_agrees P j) → 2 ≤ node_kind P j → node_kind P j ≤ 4 → node_region P (node_a P j) ≡ node_region P (node_b P j)
  unfolding node_kind_of node_agrees_by
  agree_operands j h l m =
      same (three (λ k. Is (node_agrees_by P (node_kind_of k) j) → Is (node_region P (node_a P j) =? node_region P (node_b P j)))
      (λ t. t) (λ t. t) (λ t. t) (node_kind P j) l m (agree_by j (node_kind P j) refl h))

  agrees_plainly : (j : ℕ) → ((i : ℕ) → i ≤ j → NodeFormed P i) → Is (node_agrees P j) → NodeAgrees P j
  unfolding node_kind_of node_agrees_by
  agrees_plainly j f h =
      record {
        one_region = λ l m.
            let o = operands_earlier_lem j (f j (omega arith)) l m in
            (node_region P (node_a P j), related (node_a P j) o.0, rw (agree_operands j h l m) (related (node_b P j) o.1));
        image_source = λ e.
            rw (same (agree_by j 5 e h)) at (related (node_a P j) (operand_earlier j (f j (omega arith)) (omega arith)));
        preimage_target = λ e.
            rw (same (agree_by j 6 e h)) at (related (node_a P j) (operand_earlier j (f j (omega arith)) (omega arith)));
      }
    where
      related : (i : ℕ) → i < j → NodeRegion P i (node_region P i)
      related i lt = region_by_lem (suc i) i (omega arith) (λ k le. f k (omega arith))

  test_agrees : (j : ℕ) → NodeFormed P j → NodeAgrees P j → Is (node_agrees P j)
  unfolding node_agrees node_kind_at node_kind_of node_agrees_by
  test_agrees j (supplied_formed e a b u) g = rw e
  test_agrees j (equal_formed e a b u) g = rw e
  test_agrees j (operands_formed l h a b u) g =
      let o = g.one_region l h in
      let t : Is (node_region P (node_a P j) =? node_region P (node_b P j)) = same! (region_is o.1 ∙ sym (region_is o.2)) in
      three (λ k. Is (node_agrees_by P (node_kind_of k) j)) t t t (node_kind P j) l h
  test_agrees j (map_formed (inl e) a b u) g = rw e (same! (region_is (g.image_source e)))
  test_agrees j (map_formed (inr e) a b u) g = rw e (same! (region_is (g.preimage_target e)))

  pub node_agrees_lem : (j : ℕ) → ((i : ℕ) → i ≤ j → NodeFormed P i) → Is (node_agrees P j) ↔ NodeAgrees P j
  node_agrees_lem j f = (agrees_plainly j f, test_agrees j (f j (omega arith)))

  pub duplicate_node_lem : (j : ℕ) → Is (duplicate_node P j) ↔ ((k : ℕ) × (k < j) × SameNode P k j)
  unfolding duplicate_node same_node
  duplicate_node_lem j = (
    λ h. let w = some_of h in
        let r = both (both w.2).1 in
        (w.0, w.1, record { kind = same (both w.2).0; a = same r.0; b = same (both r.1).0; unused = same (both r.1).1 }),
    λ w. among (
      w.0,
      w.1,
      pair (same! w.2.kind) (pair (same! w.2.a) (pair (same! w.2.b) (same! w.2.unused))),
    ),
  )
