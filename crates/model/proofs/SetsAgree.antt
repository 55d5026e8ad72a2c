-- The operators' two readings agree: of an accepted plan and a data set that fits it, the plain reading of the operators has one solution,
-- the sets of `member`. Assumes nothing.
use Prim.Native.Nat.{ℕ, zero, suc, ◌+◌, ◌/◌, ◌%◌, ◌≤◌, ◌<◌}
use mathlib.Core.Path.{◌≡◌, refl, ap, ◌∙◌}
use mathlib.Core.Bool.{Bool, true, false}
use mathlib.Core.Logic.Iff
use mathlib.Core.Logic.{inl, inr, ◌↔◌}
use native.Mathlib.Nat.{mod-lt, div-add-mod'}
use native.Mathlib.Omega.{arith}
use lib.Arith.{digits_div, digits_mod}
use Rattle.model.specs.Tests.{Is, ◌and◌, non, ◌<?◌}
use Rattle.model.specs.Partitions.{Partition, union, intersection, difference, contiguous, equal_start}
use Rattle.model.specs.Layout.{Plan, node_count, node_kind, node_b}
use Rattle.model.specs.DataSets.{DataSet, pieces, supplied}
use Rattle.model.specs.Membership.{equal, member}
use Rattle.model.specs.AcceptedPlans.{Facts}
use Rattle.model.specs.PlainSets.{ElementsBefore, none_yet, longer, shorter, InEqualPiece, ByOperator, by_supplied, by_equal, by_union, by_intersection, by_difference, by_image, by_preimage, OperatorSets}
use Rattle.model.proofs.Tests.{falsum, both, pair, either, one, split, not_less, less, less!, most, most!, ◌also◌, at_each}
use Rattle.model.proofs.Recursion.{by_earlier}
use Rattle.model.proofs.Partitions.{in_image, of_image, in_preimage, of_preimage, equal_starts}
use Rattle.model.proofs.DataAgrees.{points_to}
use Rattle.model.proofs.Fitting.{Fit}
use Rattle.model.proofs.NodeSets.{kind_known, supplied_node, equal_node, union_node, intersection_node, difference_node, image_node_lem, preimage_node}

-- one number of elements stands before a piece
one_count : {q r i a b : ℕ} → ElementsBefore q r i a → ElementsBefore q r i b → a ≡ b
one_count none_yet none_yet = refl
one_count {q} (longer x lt) (longer y _) = ap (λ (c : ℕ). c + (q + 1)) (one_count x y)
one_count (longer x lt) (shorter y le) = absurd (omega arith)
one_count (shorter x le) (longer y lt) = absurd (omega arith)
one_count {q} (shorter x le) (shorter y _) = ap (λ (c : ℕ). c + q) (one_count x y)

-- equal by starts, and by lengths
module _ (N n : ℕ) (some : 1 ≤ N) where
  -- the start of a piece is the number of elements in the pieces before it
  start_counts : (i : ℕ) → ElementsBefore (n / N) (n % N) i (equal_start N n i)
  start_counts zero = rw (equal_starts N n some).first none_yet
  start_counts (suc i) =
      elim (split (i <? n % N)) [
        | inl l ↦
            let lt = less l in
            let next : equal_start N n (suc i) ≡ equal_start N n i + (n / N + 1) = unfold equal_start in omega arith in
            rw next (longer (start_counts i) lt)
        | inr l ↦
            let le = not_less l in
            let next : equal_start N n (suc i) ≡ equal_start N n i + n / N = unfold equal_start in omega arith in
            rw next (shorter (start_counts i) le)
      ]

  equal_plainly : (i e : ℕ) → Is (contiguous N (equal_start N n) i e) → InEqualPiece N n i e
  unfolding contiguous
  equal_plainly i e h =
      record {
        q = n / N;
        r = n % N;
        divided = omega (arith, div-add-mod' n N);
        remainder = mod-lt n some;
        before = equal_start N n i;
        up_to = equal_start N n (suc i);
        pieces_before = start_counts i;
        pieces_up_to = start_counts (suc i);
        not_before = most (both (both h).1).0;
        not_after = less (both (both h).1).1;
      }

  equal_piece : (i e : ℕ) → i < N → InEqualPiece N n i e → Is (contiguous N (equal_start N n) i e)
  unfolding contiguous
  equal_piece i e lt w =
      let quotient : n / N ≡ w.q = ap (λ (x : ℕ). x / N) w.divided ∙ digits_div w.q w.remainder in
      let rest : n % N ≡ w.r = ap (λ (x : ℕ). x % N) w.divided ∙ digits_mod w.q w.remainder in
      let start : (k : ℕ) → ElementsBefore w.q w.r k (equal_start N n k) = λ k. rw (quotient, rest) at (start_counts k) in
      let from = one_count (start i) w.pieces_before in
      let to = one_count (start (suc i)) w.pieces_up_to in
      pair (less! lt) (pair (most! (rw from w.not_before)) (less! (rw to w.not_after)))

-- a difference, of what its operands say of an element
pub in_difference : (a b : Bool) → Is (difference (λ i e. a) (λ i e. b) 0 0) ↔ (Is a × (Is b → ⊥))
unfolding difference ◌and◌ non
in_difference true true = (λ h. falsum h, λ w. absurd (w.1 refl))
in_difference true false = (λ h. (refl, falsum), λ w. refl)
in_difference false true = (λ h. falsum h, λ w. falsum w.0)
in_difference false false = (λ h. falsum h, λ w. falsum w.0)

-- two readings say the same of every node, piece and element
abbrev pub SameSets : Plan → DataSet → (ℕ → ℕ → ℕ → Type 0) → (ℕ → ℕ → ℕ → Type 0) → Type 0
SameSets P D A B = (j i e : ℕ) → j < node_count P → i < pieces D → e < 512 → A j i e ↔ B j i e

module _ (P : Plan) (D : DataSet) (F : Facts P) (fit : Fit P D) where
  abbrev Members : ℕ → ℕ → ℕ → Type 0
  Members j i e = Is (member P D j i e)

  -- the members of a node's piece are there by the node's operator
  module _ (j i e : ℕ) (lj : j < node_count P) (li : i < pieces D) where
    members_by_operator : Members j i e → ByOperator P D Members j i e
    unfolding supplied equal union intersection difference
    members_by_operator h =
        at_each (λ kind. node_kind P j ≡ kind → ByOperator P D Members j i e) 0 7
        ((λ k. let w = both (both (of (supplied_node P D F j lj k).holds)).1 in by_supplied k (less w.0) w.1)
        also (λ k. by_equal k (equal_plainly _ _ fit.some_piece i e (of (equal_node P D F j lj k).holds)))
        also (λ k. by_union k (either (of (union_node P D F j lj k).holds)))
        also (λ k. let w = both (of (intersection_node P D F j lj k).holds) in by_intersection k w.0 w.1)
        also (λ k. let w = (in_difference _ _).0 (of (difference_node P D F j lj k).holds) in by_difference k w.0 w.1)
        also (λ k. let w = of_image _ _ _ (of (image_node_lem P D F j lj k).holds) in by_image k w.2 ((points_to P D _ _ _).0 w.3))
        also (λ k. let w = of_preimage _ _ _ (of (preimage_node P D F j lj k).holds) in by_preimage k ((points_to P D _ _ _).0 w.2) w.3)
        also tt)
        (node_kind P j) (omega arith) (kind_known P D F j lj) refl
      where
        of : {A : Partition} → member P D j ≡ A → Is (A i e)
        of is = rw is at h

    members_of_operator : ByOperator P D Members j i e → Members j i e
    unfolding supplied equal union intersection difference
    members_of_operator (by_supplied k lt b) = rw (supplied_node P D F j lj k).holds (pair (less! li) (pair (less! lt) b))
    members_of_operator (by_equal k w) = rw (equal_node P D F j lj k).holds (equal_piece _ _ fit.some_piece i e li w)
    members_of_operator (by_union k w) = rw (union_node P D F j lj k).holds (one w)
    members_of_operator (by_intersection k a b) = rw (intersection_node P D F j lj k).holds (pair a b)
    members_of_operator (by_difference k a b) = rw (difference_node P D F j lj k).holds ((in_difference _ _).1 (a, b))
    members_of_operator (by_image k a t) =
        rw (image_node_lem P D F j lj k).holds (in_image _ _ _ t.from a ((points_to P D _ _ _).1 t))
    members_of_operator (by_preimage k t a) =
        let to = (points_to P D _ _ _).1 t in
        let n = preimage_node P D F j lj k in
        rw n.holds (in_preimage _ _ _ (fit.targets (node_b P j) n.map_listed _ _ to) to a)

  -- an operator's piece is decided by its operands' pieces, which are of earlier nodes
  module _ (A B : ℕ → ℕ → ℕ → Type 0) (j i e : ℕ) (lj : j < node_count P) (le : e < 512)
      (earlier : (k e : ℕ) → k < j → e < 512 → A k i e ↔ B k i e) where
    by_operands : ByOperator P D A j i e → ByOperator P D B j i e
    by_operands (by_supplied k lt b) = by_supplied k lt b
    by_operands (by_equal k w) = by_equal k w
    by_operands (by_union k w) =
        let n = union_node P D F j lj k in
        by_union k (elim w [ inl a ↦ inl ((earlier _ e n.left_earlier le).0 a) | inr b ↦ inr ((earlier _ e n.right_earlier le).0 b) ])
    by_operands (by_intersection k a b) =
        let n = intersection_node P D F j lj k in
        by_intersection k ((earlier _ e n.left_earlier le).0 a) ((earlier _ e n.right_earlier le).0 b)
    by_operands (by_difference k a b) =
        let n = difference_node P D F j lj k in
        by_difference k ((earlier _ e n.left_earlier le).0 a) (λ c. b ((earlier _ e n.right_earlier le).1 c))
    by_operands (by_image {k = d} k a t) =
        let n = image_node_lem P D F j lj k in
        let few = fit.few_elements _ (F.source_listed (node_b P j) n.map_listed) in
        by_image k ((earlier _ d n.earlier (omega (arith, few, t.from))).0 a) t
    by_operands (by_preimage {t = d} k t a) =
        let n = preimage_node P D F j lj k in
        let few = fit.few_elements _ (F.target_listed (node_b P j) n.map_listed) in
        let inside = fit.targets (node_b P j) n.map_listed _ _ ((points_to P D _ _ _).1 t) in
        by_preimage k t ((earlier _ d n.earlier (omega (arith, few, inside))).0 a)

  module _ (In : ℕ → ℕ → ℕ → Type 0) where
    -- where the earlier nodes hold their members, an operator gives the members
    operator_members :
        (j i e : ℕ) → j < node_count P → i < pieces D → e < 512 → ((k e : ℕ) → k < j → e < 512 → In k i e ↔ Members k i e) →
        ByOperator P D In j i e ↔ Members j i e
    operator_members j i e lj li le earlier =
        Iff.trans
        (by_operands In Members j i e lj le earlier, by_operands Members In j i e lj le (λ k e lk le. Iff.symm (earlier k e lk le)))
        (members_of_operator j i e lj li, members_by_operator j i e lj li)

    determined : OperatorSets P D In → SameSets P D In Members
    determined sets j i e lj li le = by_earlier Same step j lj i li e le
      where
        Same : ℕ → Type 0
        Same j = j < node_count P → (i : ℕ) → i < pieces D → (e : ℕ) → e < 512 → In j i e ↔ Members j i e

        step : (j : ℕ) → ((k : ℕ) → k < j → Same k) → Same j
        step j earlier lj i li e le =
            Iff.trans (sets j i e lj li le) (operator_members j i e lj li le (λ k e lk le. earlier k lk (omega arith) i li e le))

    follows : SameSets P D In Members → OperatorSets P D In
    follows same j i e lj li le =
        Iff.trans (same j i e lj li le) (Iff.symm (operator_members j i e lj li le (λ k e lk le. same k i e (omega arith) li le)))

    -- the sets that the operators define are the members, no more and no less
    pub sets_agree : OperatorSets P D In ↔ SameSets P D In Members
    sets_agree = (determined, follows)

  -- `member` gives such sets, and any two readings that do agree
  pub members_follow : OperatorSets P D Members
  members_follow = (sets_agree Members).1 (λ j i e lj li le. Iff.rfl)

  pub sets_determined : (A B : ℕ → ℕ → ℕ → Type 0) → OperatorSets P D A → OperatorSets P D B → SameSets P D A B
  sets_determined A B a b j i e lj li le =
      Iff.trans ((sets_agree A).0 a j i e lj li le) (Iff.symm ((sets_agree B).0 b j i e lj li le))
