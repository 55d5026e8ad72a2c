-- The chain of pairs that the definition makes has grounds in the plain reading, and a question has no other grounds. Of an accepted plan
-- and a data set that fits it. Assumes nothing.
use Prim.Native.Nat.{ℕ, zero, suc, ◌+◌, ◌-◌, ◌≤◌, ◌<◌}
use mathlib.Core.Path.{◌≡◌, refl, ◌∙◌}
use mathlib.Core.Logic.{◌⊎◌, inl, inr}
use mathlib.Core.Bool.{Bool}
use native.Mathlib.Numerals.{add-one}
use native.Mathlib.Omega.{arith}
use native.Mathlib.Decide.{dec_lt}
use Rattle.model.specs.Tests.{Is, non, first}
use Rattle.model.specs.Layout.{Plan, node_count, node_kind}
use Rattle.model.specs.Nodes.{node_kind_of, node_kind_at}
use Rattle.model.specs.DataSets.{DataSet, pieces}
use Rattle.model.specs.Membership.{member}
use Rattle.model.specs.AcceptedPlans.{Facts}
use Rattle.model.specs.PlainSets as plain
use Rattle.model.specs.PlainSets.{ByOperator}
use Rattle.model.specs.declared.Question.{Question}
use Rattle.model.specs.declared.Pair.{Pair}
use Rattle.model.specs.Provenance.{pair_of, ends_by, next_by, next_pair, pair_at, chain_length, questioned, chain_pair, pairs_needed}
use Rattle.model.specs.Grounds.{Follows, by_first_of_union, by_second_of_union, by_intersection, by_difference, by_image, by_preimage, Grounds}
use Rattle.model.proofs.Tests.{latest, lacks, refuted, first_found, first_most, first_bound, first_is}
use Rattle.model.proofs.Fitting.{Fit}
use Rattle.model.proofs.NodeSets.{node_within}
use Rattle.model.proofs.SetsAgree.{SameSets}
use Rattle.model.proofs.Successors.{Members, Goes, Step, ends, goes, step, pair_exists, exists_few, follows_next, follows_same}

module _ (P : Plan) (D : DataSet) where
  -- what the successor of a pair says is enough for the pair, by the operator's definition
  pub follows_by_operator :
      (In : ℕ → ℕ → ℕ → Type 0) (i j e k f : ℕ) → Follows P D In i j e k f → ByOperator P D In j i e
  follows_by_operator In i j e k f (by_first_of_union kind is same a) = plain.by_union kind (inl a)
  follows_by_operator In i j e k f (by_second_of_union kind is same n b) = plain.by_union kind (inr b)
  follows_by_operator In i j e k f (by_intersection kind is same a b) = plain.by_intersection kind a b
  follows_by_operator In i j e k f (by_difference kind is same a n) = plain.by_difference kind a n
  follows_by_operator In i j e k f (by_image kind is a t least) = plain.by_image kind a t
  follows_by_operator In i j e k f (by_preimage kind is t a least) = plain.by_preimage kind t a

  -- grounds are grounds wherever the same pairs stand
  pub grounds_at :
      (In : ℕ → ℕ → ℕ → Type 0) (q : Question) {n : ℕ} {nodes elements others otherElements : ℕ → ℕ} → Grounds P D In q n nodes elements →
      ((k : ℕ) → k < n → (others k ≡ nodes k) × (otherElements k ≡ elements k)) → Grounds P D In q n others otherElements
  grounds_at In q G same =
      let some = G.some_pair in
      let (node, element) = same 0 (omega arith) in
      record {
        some_pair = some;
        first_node = node ∙ G.first_node;
        first_element = element ∙ G.first_element;
        exists = λ k lt. let (a, b) = same k lt in rw (a, b) (G.exists k lt);
        members = λ k lt. let (a, b) = same k lt in rw (a, b) (G.members k lt);
        follows = λ k lt.
            let (a, b) = same k (omega arith) in let (c, e) = same (suc k) lt in rw (a, b, c, e) (G.follows k lt);
        ends = λ k e. let (a, b) = same k (omega arith) in rw a (G.ends k e);
      }

module _ (P : Plan) (D : DataSet) (F : Facts P) (fit : Fit P D) (i : ℕ) where
  -- the chain from a member's pair
  module _ (x : Pair) (lx : x.node < node_count P) (hx : Is (member P D x.node i x.element)) where
    abbrev At : ℕ → Pair
    At k = pair_at P D i x k

    abbrev ends_at : ℕ → Bool
    ends_at k = ends_by (node_kind_at P (At k).node)

    -- while no pair before ends the chain, each is a member, and of an earlier node than the one before
    record Reached (k : ℕ) : Type 0 where
      earlier : (At k).node + k ≤ x.node
      holds : Is (member P D (At k).node i (At k).element)

    abbrev here : {k : ℕ} → Reached k → Step P D F fit i (At k).node (At k).element
    here {k} r = step P D F fit i (At k).node (At k).element (omega (arith, r.earlier)) r.holds

    next : (k : ℕ) → Reached k → Step P D F fit i (At k).node (At k).element → Is (non (ends_at k)) → Goes P D F fit i (At k).node (At k).element (At (suc k))
    unfolding pair_at next_pair
    next k r (ends y w) n = absurd (lacks n y)
    next k r (goes n g) m = g

    reached : (k : ℕ) → ((l : ℕ) → l < k → Is (non (ends_at l))) → Reached k
    unfolding pair_at
    reached zero b = record { earlier = omega arith; holds = hx }
    reached (suc k) b =
        let r = reached k (λ l lt. b l (omega arith)) in
        let g = next k r (here r) (b k (omega arith)) in
        record { earlier = omega (arith, r.earlier, g.earlier); holds = g.holds }

    -- the first pair that ends the chain
    abbrev last : ℕ
    last = first ends_at 0 x.node

    few : last ≤ x.node
    few = let f = first_bound ends_at 0 x.node in omega arith

    before_last : (l : ℕ) → l < last → Is (non (ends_at l))
    before_last l lt =
        refuted (λ y. let f = few in let m = first_most ends_at 0 x.node l (omega arith) (omega arith) y in omega arith)

    abbrev at_last : Reached last
    at_last = reached last before_last

    -- it does end there: at the latest at node 0, which has no operands
    last_ends : (node_kind P (At last).node ≡ 0) ⊎ (node_kind P (At last).node ≡ 1)
    last_ends = go (here at_last)
      where
        go : Step P D F fit i (At last).node (At last).element → (node_kind P (At last).node ≡ 0) ⊎ (node_kind P (At last).node ≡ 1)
        go (ends y w) = w
        go (goes n g) =
            let f = few in
            let r = at_last in
            elim (dec_lt last x.node) [
              | yes lt ↦ absurd (lacks n (first_found ends_at 0 x.node (omega arith)))
              | no ge ↦ absurd (omega (arith, r.earlier, g.earlier))
            ]

  -- a chain with grounds is the chain by definition, position by position, and as long
  module _ (q : Question) (piece : q.piece ≡ i) {n : ℕ} {nodes elements : ℕ → ℕ} (G : Grounds P D (Members P D F fit i) q n nodes elements) where
    abbrev asked : Pair
    asked = pair_of q.node q.element

    follows_at : (k : ℕ) → suc k < n → Follows P D (Members P D F fit i) i (nodes k) (elements k) (nodes (suc k)) (elements (suc k))
    follows_at k lt = rw piece at (G.follows k lt)

    next_at : (k : ℕ) → (lt : suc k < n) →
        Is (non (ends_by (node_kind_at P (nodes k)))) × (nodes (suc k) ≡ (next_by P D i (node_kind_at P (nodes k)) (nodes k) (elements k)).node)
        × (elements (suc k) ≡ (next_by P D i (node_kind_at P (nodes k)) (nodes k) (elements k)).element)
    next_at k lt = follows_next P D F fit i _ _ _ _ (G.exists k (omega arith)).node_exists (follows_at k lt)

    same_pairs : (k : ℕ) → k < n → (nodes k ≡ (pair_at P D i asked k).node) × (elements k ≡ (pair_at P D i asked k).element)
    unfolding pair_at next_pair
    same_pairs zero lt = (G.first_node, G.first_element)
    same_pairs (suc k) lt =
        let (a, b) = same_pairs k (omega arith) in
        let (more, c, e) = next_at k lt in
        rw (← a, ← b) (c, e)

    -- it ends at its last pair, and not before
    more_at : (k : ℕ) → suc k < n → Is (non (ends_by (node_kind_at P (pair_at P D i asked k).node)))
    more_at k lt = rw (same_pairs k (omega arith)).0 at (next_at k lt).0

    ends_at_lem : (k : ℕ) → suc k ≡ n → Is (ends_by (node_kind_at P (pair_at P D i asked k).node))
    unfolding node_kind_at node_kind_of ends_by
    ends_at_lem k e = rw (← (same_pairs k (omega arith)).0) (elim (G.ends k e) [ inl z ↦ rw z refl | inr o ↦ rw o refl ])

    last_few : (k : ℕ) → suc k ≡ n → k ≤ q.node
    last_few k e =
        let some = G.some_pair in
        let there = (G.exists 0 (omega arith)).node_exists in
        let held = G.members 0 (omega arith) in
        let r = reached asked (rw (← G.first_node) there) (rw (← G.first_node, ← G.first_element, ← piece) held) k (λ l lt. more_at l (omega arith)) in
        omega (arith, r.earlier)

    same_length : n ≡ chain_length P D i asked
    unfolding chain_length
    same_length =
        let some = G.some_pair in
        let e : suc (n - 1) ≡ n = omega arith in
        let l = first_is (λ k. ends_by (node_kind_at P (pair_at P D i asked k).node)) q.node (n - 1) (last_few (n - 1) e) (λ lt. ends_at_lem (n - 1) e)
        (λ g lg y. lacks (more_at g (omega arith)) y) in
        omega arith

-- the question's own piece
module _ (P : Plan) (D : DataSet) (F : Facts P) (fit : Fit P D) (q : Question) where
  abbrev pub MembersOf : ℕ → ℕ → ℕ → Type 0
  MembersOf j i e = Is (member P D j i e)

  pub grounds_same :
      (A B : ℕ → ℕ → ℕ → Type 0) → SameSets P D A B → q.piece < pieces D → {n : ℕ} {nodes elements : ℕ → ℕ} →
      Grounds P D A q n nodes elements → Grounds P D B q n nodes elements
  grounds_same A B same li G =
      record {
        some_pair = G.some_pair;
        first_node = G.first_node;
        first_element = G.first_element;
        exists = G.exists;
        members = λ k lt.
            let x = G.exists k lt in (same _ _ _ x.node_exists li (exists_few P D F fit q.piece x)).0 (G.members k lt);
        follows = λ k lt. follows_same P D F fit q.piece A B same li (G.exists k (omega arith)) (G.follows k lt);
        ends = G.ends;
      }

  -- a chain with grounds is the chain by definition
  pub chain_only :
      (n : ℕ) (nodes elements : ℕ → ℕ) → Grounds P D MembersOf q n nodes elements →
      (n ≡ pairs_needed P D q)
      × ((k : ℕ) → k < n → (nodes k ≡ (chain_pair P D q k).node) × (elements k ≡ (chain_pair P D q k).element))
  unfolding chain_pair pairs_needed
  chain_only n nodes elements G =
      (same_length P D F fit q.piece q refl G, same_pairs P D F fit q.piece q refl G)

  module _ (lj : q.node < node_count P) (h : Is (member P D q.node q.piece q.element)) where
    -- the chain has no more pairs than there are nodes up to the one asked about
    pub chain_few : pairs_needed P D q ≤ q.node + 1
    unfolding pairs_needed chain_length
    chain_few = let l = few P D F fit q.piece (questioned P D q) lj h in omega arith

    abbrev start : Pair
    start = questioned P D q

    abbrev end : ℕ
    end = last P D F fit q.piece start lj h

    before : (k : ℕ) → k < end → Is (non (ends_by (node_kind_at P (pair_at P D q.piece start k).node)))
    before = before_last P D F fit q.piece start lj h

    at : (k : ℕ) → k ≤ end → Reached P D F fit q.piece start lj h k
    at k le = reached P D F fit q.piece start lj h k (λ l lt. before l (omega arith))

    -- and it has grounds
    pub chain_grounds :
        Grounds P D MembersOf q (pairs_needed P D q) (λ k. (chain_pair P D q k).node) (λ k. (chain_pair P D q k).element)
    unfolding chain_pair pairs_needed chain_length pair_at
    chain_grounds =
        record {
          some_pair = omega arith;
          first_node = refl;
          first_element = refl;
          exists = λ k lt.
              let r = at k (omega arith) in
              let l : (pair_at P D q.piece start k).node < node_count P = omega (arith, r.earlier) in
              pair_exists P D F fit q.piece _ _ l (node_within P D F fit _ l _ _ r.holds).1;
          members = λ k lt. (at k (omega arith)).holds;
          follows = λ k lt.
              let r = at k (omega arith) in
              (next P D F fit q.piece start lj h k r (here P D F fit q.piece start lj h r) (before k (omega arith))).follows;
          ends = λ k e. let z : k ≡ end = omega arith in rw z (last_ends P D F fit q.piece start lj h);
        }

    -- a walk along the chain has come to position k, where this pair stands, and no pair before ends the chain
    pub record Walking (k node element : ℕ) : Type 0 where
      pub node_is : node ≡ (chain_pair P D q k).node
      pub element_is : element ≡ (chain_pair P D q k).element
      pub before : (l : ℕ) → l < k → Is (non (ends_by (node_kind_at P (chain_pair P D q l).node)))

    pub walking_start : Walking 0 q.node q.element
    unfolding chain_pair pair_at
    walking_start = record { node_is = refl; element_is = refl; before = λ l lt. absurd (omega arith) }

    module _ {k node element : ℕ} (w : Walking k node element) where
      -- the pair is a member, and of an earlier node than the one before
      pub walking_holds : (node + k ≤ q.node) × Is (member P D node q.piece element)
      unfolding chain_pair
      walking_holds =
          let r = reached P D F fit q.piece start lj h k w.before in
          (omega (arith, r.earlier, w.node_is), rw (w.node_is, w.element_is) r.holds)

      -- on to the next pair, which is of an earlier node
      pub walking_next :
          Is (non (ends_by (node_kind_at P node))) → {x : Pair} → x ≡ next_pair P D q.piece (pair_of node element) →
          Walking (k + 1) x.node x.element
      unfolding chain_pair pair_at next_pair
      walking_next more {x} is =
          let z = add-one k in
          record {
            node_is = rw (z, is, w.node_is, w.element_is) refl;
            element_is = rw (z, is, w.node_is, w.element_is) refl;
            before = λ l lt. elim (latest l k (omega arith)) [ inl e ↦ rw (e, ← w.node_is) more | inr m ↦ w.before l m ];
          }

      -- at a pair that ends the chain, so many are needed
      pub walking_end : Is (ends_by (node_kind_at P node)) → k + 1 ≡ pairs_needed P D q
      unfolding chain_pair pairs_needed chain_length
      walking_end here-ends =
          let few = walking_holds.0 in
          let l = first_is (λ k. ends_by (node_kind_at P (pair_at P D q.piece start k).node)) q.node k (omega arith)
          (λ lt. rw (← w.node_is) here-ends) (λ g lg y. lacks (w.before g lg) y) in
          omega arith
