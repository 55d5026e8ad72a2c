-- The two readings of section 7 agree: the lemma table and the licences against the plain clauses. Assumes nothing.
use Prim.Native.Nat.{ℕ, zero, suc, ◌≤◌, ◌<◌}
use mathlib.Core.Path.{◌≡◌, refl, sym, ◌∙◌}
use mathlib.Core.Logic.{◌⊎◌, inl, inr, ◌↔◌}
use mathlib.Core.Bool.{Bool, true, false}
use native.Mathlib.Omega.{arith}
use Rattle.model.specs.Tests.{Is, ◌and◌, ◌or◌, every, ◌=?◌, ◌≤?◌}
use Rattle.model.specs.Layout.{Plan, node_count, node_kind, node_a, node_b, step_lemma, step_x, step_y, step_p, step_q}
use Rattle.model.specs.Lemmas.{lemmas, lemma_row, in_use, is_subset, is_disjoint, is_complete, concludes_subset, concludes_disjoint, concludes_complete, operand_of, is_node, is_private_part, private_rest, private_preimage, private_operand, private_map, licences, licence, step_formed, step_licensed}
use Rattle.model.specs.PlainPlan.{ConcludesSubset, ConcludesDisjoint, ConcludesComplete, UsesY, UsesP, UsesQ, StepFormed, NodeIs, PrivatePart, Licence}
use Rattle.model.specs.PlainPlan.{lemma_1, lemma_2, lemma_3, lemma_4, lemma_5, lemma_6, lemma_7, lemma_8, lemma_9, lemma_10, lemma_11, lemma_12, lemma_13, lemma_14, lemma_15, lemma_16, lemma_17, lemma_18, lemma_19, lemma_20, lemma_21}
use Rattle.model.proofs.Tests.{falsum, both, pair, either, one, same, same!, less, less!, most, most!, which, which!, every_at, Firsts, ◌also◌, at_each}

-- two tests with one outcome
unfoldable agree : Bool → Bool → Bool
agree true b = b
agree false true = false
agree false false = true

agreed : (a b : Bool) → Is (agree a b) → a ≡ b
unfolding agree
agreed true b h = sym h
agreed false true h = falsum h
agreed false false h = refl

-- the lemma table, computed once over its rows: what each concludes, and what it uses
table :
    Is (every 21 (λ k.
    agree (is_subset (lemma_row (suc k)).conclusion) (5 ≤? suc k and suc k ≤? 14)
    and agree (is_disjoint (lemma_row (suc k)).conclusion) (suc k =? 1 or suc k =? 3 or 15 ≤? suc k and suc k ≤? 18 or suc k =? 21)
    and agree (is_complete (lemma_row (suc k)).conclusion) (suc k =? 2 or suc k =? 4 or suc k =? 19 or suc k =? 20)
    and agree (lemma_row (suc k)).x true
    and agree (lemma_row (suc k)).y (5 ≤? suc k and suc k ≤? 14 or suc k =? 15 or suc k =? 19)
    and agree (lemma_row (suc k)).p (suc k =? 6 or suc k =? 8 or suc k =? 10 or 12 ≤? suc k and suc k ≤? 21)
    and agree (lemma_row (suc k)).q (suc k =? 6 or suc k =? 8 or suc k =? 10 or suc k =? 15 or suc k =? 19)))
unfolding every agree ◌and◌ ◌or◌ ◌=?◌ ◌≤?◌ lemma_row lemmas is_subset is_disjoint is_complete
table = refl

-- the table's row of a known lemma
pub record Rows (l : ℕ) : Type 0 where
  pub subset : is_subset (lemma_row l).conclusion ≡ (5 ≤? l and l ≤? 14)
  pub disjoint : is_disjoint (lemma_row l).conclusion ≡ (l =? 1 or l =? 3 or 15 ≤? l and l ≤? 18 or l =? 21)
  pub complete : is_complete (lemma_row l).conclusion ≡ (l =? 2 or l =? 4 or l =? 19 or l =? 20)
  pub x : (lemma_row l).x ≡ true
  pub y : (lemma_row l).y ≡ (5 ≤? l and l ≤? 14 or l =? 15 or l =? 19)
  pub p : (lemma_row l).p ≡ (l =? 6 or l =? 8 or l =? 10 or 12 ≤? l and l ≤? 21)
  pub q : (lemma_row l).q ≡ (l =? 6 or l =? 8 or l =? 10 or l =? 15 or l =? 19)

pub rows : (l : ℕ) → 1 ≤ l → l ≤ 21 → Rows l
rows zero a b = absurd (omega arith)
rows (suc k) a b =
    let h1 = both (every_at 21 _ table k (omega arith)) in
    let h2 = both h1.1 in
    let h3 = both h2.1 in
    let h4 = both h3.1 in
    let h5 = both h4.1 in
    let h6 = both h5.1 in
    record {
      subset = agreed _ _ h1.0;
      disjoint = agreed _ _ h2.0;
      complete = agreed _ _ h3.0;
      x = agreed _ _ h4.0;
      y = agreed _ _ h5.0;
      p = agreed _ _ h6.0;
      q = agreed _ _ h6.1;
    }

-- a number in a range, as a test
between : {a b l : ℕ} → Is (a ≤? l and l ≤? b) ↔ ((a ≤ l) × (l ≤ b))
between = (λ h. (most (both h).0, most (both h).1), λ w. pair (most! w.0) (most! w.1))

-- a disjunction of tests that are agreed on
or_else : {a b : Bool} {A B : Type 0} → Is a ↔ A → Is b ↔ B → Is (a or b) ↔ (A ⊎ B)
or_else f g = (
  λ h. elim (either h) [ inl u ↦ inl (f.0 u) | inr v ↦ inr (g.0 v) ],
  λ w. one (elim w [ inl u ↦ inl (f.1 u) | inr v ↦ inr (g.1 v) ]),
)

number : {a b : ℕ} → Is (a =? b) ↔ (a ≡ b)
number = (same, same!)

uses_y : (l : ℕ) → Is (5 ≤? l and l ≤? 14 or l =? 15 or l =? 19) ↔ UsesY l
uses_y l = or_else between (or_else number number)

uses_p : (l : ℕ) → Is (l =? 6 or l =? 8 or l =? 10 or 12 ≤? l and l ≤? 21) ↔ UsesP l
uses_p l = or_else number (or_else number (or_else number between))

uses_q : (l : ℕ) → Is (l =? 6 or l =? 8 or l =? 10 or l =? 15 or l =? 19) ↔ UsesQ l
uses_q l = or_else number (or_else number (or_else number (or_else number number)))

module _ (P : Plan) where
  -- step t is by one of the 21 lemmas
  abbrev pub Known : ℕ → Type 0
  Known t = (1 ≤ step_lemma P t) × (step_lemma P t ≤ 21)

  module _ (t : ℕ) (known : Known t) where
    row : Rows (step_lemma P t)
    row = rows (step_lemma P t) known.0 known.1

    pub concludes_subset_lem : (x y : ℕ) → Is (concludes_subset P t x y) ↔ ConcludesSubset P t x y
    unfolding concludes_subset
    concludes_subset_lem x y = (
      λ h.
          let b = between.0 (rw row.subset at (both h).0) in
          record { low = b.0; high = b.1; x_is = same (both (both h).1).0; y_is = same (both (both h).1).1 },
      λ c. pair (rw row.subset (between.1 (c.low, c.high))) (pair (same! c.x_is) (same! c.y_is)),
    )

    pub concludes_disjoint_lem : (x : ℕ) → Is (concludes_disjoint P t x) ↔ ConcludesDisjoint P t x
    unfolding concludes_disjoint
    concludes_disjoint_lem x = (
      λ h. record { lemma = (or_else number (or_else number (or_else between number))).0 (rw row.disjoint at (both h).0); x_is = same (both h).1 },
      λ c. pair (rw row.disjoint ((or_else number (or_else number (or_else between number))).1 c.lemma)) (same! c.x_is),
    )

    pub concludes_complete_lem : (x : ℕ) → Is (concludes_complete P t x) ↔ ConcludesComplete P t x
    unfolding concludes_complete
    concludes_complete_lem x = (
      λ h. record { lemma = (or_else number (or_else number (or_else number number))).0 (rw row.complete at (both h).0); x_is = same (both h).1 },
      λ c. pair (rw row.complete ((or_else number (or_else number (or_else number number))).1 c.lemma)) (same! c.x_is),
    )

    -- a test that the table's row is equal to
    by_row : {a b : Bool} {A : Type 0} → a ≡ b → Is b ↔ A → Is a ↔ A
    by_row e f = (λ h. f.0 (sym e ∙ h), λ w. e ∙ f.1 w)

    -- a number that is used is below its bound, and one that is not is 0
    in_use_lem : (u : Bool) (A : Type 0) (bound v : ℕ) → Is u ↔ A → Is (in_use u bound v) ↔ ((A → v < bound) × ((A → ⊥) → v ≡ 0))
    unfolding in_use
    in_use_lem true A bound v f = (λ h. (λ w. less h, λ n. absurd (n (f.0 refl))), λ w. less! (w.0 (f.0 refl)))
    in_use_lem false A bound v f = (λ h. (λ w. falsum (f.1 w), λ n. same h), λ w. same! (w.1 (λ a. falsum (f.1 a))))

    x_in_use : Is (in_use (lemma_row (step_lemma P t)).x (node_count P) (step_x P t)) ↔ (step_x P t < node_count P)
    unfolding in_use
    x_in_use = rw row.x (less, less!)

    y_used : Is (lemma_row (step_lemma P t)).y ↔ UsesY (step_lemma P t)
    y_used = by_row row.y (uses_y (step_lemma P t))

    p_used : Is (lemma_row (step_lemma P t)).p ↔ UsesP (step_lemma P t)
    p_used = by_row row.p (uses_p (step_lemma P t))

    q_used : Is (lemma_row (step_lemma P t)).q ↔ UsesQ (step_lemma P t)
    q_used = by_row row.q (uses_q (step_lemma P t))

  pub step_known : (t : ℕ) → Is (step_formed P t) → Known t
  unfolding step_formed
  step_known t h = (most (both h).0, most (both (both h).1).0)

  formed_plainly : (t : ℕ) → Is (step_formed P t) → StepFormed P t
  unfolding step_formed
  formed_plainly t h =
      let k = step_known t h in
      let h1 = both (both (both h).1).1 in
      let h2 = both h1.1 in
      let h3 = both h2.1 in
      record {
        known = k;
        x_node = (x_in_use t k).0 h1.0;
        y_node = ((in_use_lem t k _ _ _ _ (y_used t k)).0 h2.0).0;
        y_unused = ((in_use_lem t k _ _ _ _ (y_used t k)).0 h2.0).1;
        p_earlier = ((in_use_lem t k _ _ _ _ (p_used t k)).0 h3.0).0;
        p_unused = ((in_use_lem t k _ _ _ _ (p_used t k)).0 h3.0).1;
        q_earlier = ((in_use_lem t k _ _ _ _ (q_used t k)).0 h3.1).0;
        q_unused = ((in_use_lem t k _ _ _ _ (q_used t k)).0 h3.1).1;
      }

  test_formed : (t : ℕ) → StepFormed P t → Is (step_formed P t)
  unfolding step_formed
  test_formed t f =
      let k = f.known in
      pair (most! k.0) (pair (most! k.1) (pair ((x_in_use t k).1 f.x_node) (pair ((in_use_lem t k _ _ _ _ (y_used t k)).1 (f.y_node, f.y_unused))
      (pair ((in_use_lem t k _ _ _ _ (p_used t k)).1 (f.p_earlier, f.p_unused)) ((in_use_lem t k _ _ _ _ (q_used t k)).1 (f.q_earlier, f.q_unused))))))

  pub step_formed_lem : (t : ℕ) → Is (step_formed P t) ↔ StepFormed P t
  step_formed_lem t = (formed_plainly t, test_formed t)

  node_is : {j kind a b : ℕ} → Is (is_node P j kind a b) ↔ NodeIs P j kind a b
  unfolding is_node
  node_is = (
    λ h. record { kind_is = same (both h).0; a_is = same (both (both h).1).0; b_is = same (both (both h).1).1 },
    λ n. pair (same! n.kind_is) (pair (same! n.a_is) (same! n.b_is)),
  )

  -- the nodes of a private part are read off x
  private_plainly : (x : ℕ) → Is (is_private_part P x) → PrivatePart P x (private_operand P x)
  unfolding is_private_part
  private_plainly x h =
      let (x-kind, h) = both h in
      let (shared-kind, h) = both h in
      let (rest-kind, h) = both h in
      record {
        image = node_a P x;
        shared = node_b P x;
        rest = private_rest P x;
        preimage = private_preimage P x;
        map = private_map P x;
        x_is = of_kind x-kind;
        shared_is = of_kind shared-kind;
        rest_is = of_kind rest-kind;
        image_is = node_is.0 (both h).0;
        preimage_is = node_is.0 (both h).1;
      }
    where
      of_kind : {j kind : ℕ} → Is (node_kind P j =? kind) → NodeIs P j kind (node_a P j) (node_b P j)
      of_kind h = record { kind_is = same h; a_is = refl; b_is = refl }

  private_test : (x operand : ℕ) → PrivatePart P x operand → Is (is_private_part P x) × (private_operand P x ≡ operand)
  unfolding is_private_part
  private_test x operand w = rw (w.x_is.a_is, w.x_is.b_is, w.shared_is.a_is, w.shared_is.b_is, w.rest_is.a_is, w.rest_is.b_is) (
    pair (same! w.x_is.kind_is) (pair (same! w.shared_is.kind_is) (pair (same! w.rest_is.kind_is) (pair (node_is.1 w.image_is) (node_is.1 w.preimage_is)))),
    refl,
  )

  -- lemma l: its row of licences gives its plain clause
  abbrev Clause : ℕ → Type 0
  Clause l = (x y p q : ℕ) → (Is (lemma_row l).p → Known p) → (Is (lemma_row l).q → Known q) → Is (licence P l x y p q) → Licence P l x y p q

  clauses : Firsts Clause 1 21
  unfolding licence licences operand_of lemma_row lemmas
  clauses =
      (λ x y p q kp kq h. lemma_1 refl (same h))
      also (λ x y p q kp kq h. lemma_2 refl (same h))
      also (λ x y p q kp kq h. lemma_3 refl (same (both h).0) (which (both h).1))
      also (λ x y p q kp kq h. lemma_4 refl (same (both h).0) (which (both h).1))
      also (λ x y p q kp kq h. lemma_5 refl (same h))
      also (λ x y p q kp kq h. lemma_6 refl (subset p (kp refl) (both h).0) (subset q (kq refl) (both h).1))
      also (λ x y p q kp kq h. lemma_7 refl (same (both h).0) (which (both h).1))
      also (λ x y p q kp kq h. lemma_8 refl (same (both h).0) (subset p (kp refl) (both (both h).1).0) (subset q (kq refl) (both (both h).1).1))
      also (λ x y p q kp kq h. lemma_9 refl (same (both h).0) (which (both h).1))
      also (λ x y p q kp kq h. lemma_10 refl (same (both h).0) (subset p (kp refl) (both (both h).1).0) (subset q (kq refl) (both (both h).1).1))
      also (λ x y p q kp kq h. lemma_11 refl (same (both h).0) (same (both h).1))
      also (λ x y p q kp kq h. let h1 = both (both h).1 in
      lemma_12 refl (same (both h).0) (same h1.0) (same (both h1.1).0) (subset p (kp refl) (both h1.1).1))
      also (λ x y p q kp kq h. let h1 = both (both h).1 in
      lemma_13 refl (same (both h).0) (same h1.0) (same (both h1.1).0) (subset p (kp refl) (both h1.1).1))
      also (λ x y p q kp kq h. let h1 = both (both h).1 in let h2 = both h1.1 in
      lemma_14 refl (same (both h).0) (same h2.0) (same (both h2.1).0) (same (both h2.1).1) (subset p (kp refl) h1.0))
      also (λ x y p q kp kq h. lemma_15 refl (disjoint p (kp refl) (both h).0) (subset q (kq refl) (both h).1))
      also (λ x y p q kp kq h. lemma_16 refl (same (both h).0)
      (elim (either (both h).1) [ inl a ↦ inl (disjoint p (kp refl) a) | inr b ↦ inr (disjoint p (kp refl) b) ]))
      also (λ x y p q kp kq h. lemma_17 refl (same (both h).0) (disjoint p (kp refl) (both h).1))
      also (λ x y p q kp kq h. lemma_18 refl (same (both h).0) (disjoint p (kp refl) (both h).1))
      also (λ x y p q kp kq h. lemma_19 refl (complete p (kp refl) (both h).0) (subset q (kq refl) (both h).1))
      also (λ x y p q kp kq h. lemma_20 refl (same (both h).0) (same (both (both h).1).0) (complete p (kp refl) (both (both h).1).1))
      also (λ x y p q kp kq h. lemma_21 refl (private_plainly x (both h).0) (disjoint p (kp refl) (both h).1))
      also tt
    where
      subset : (t : ℕ) → Known t → {x y : ℕ} → Is (concludes_subset P t x y) → ConcludesSubset P t x y
      subset t k {x} {y} h = (concludes_subset_lem t k x y).0 h

      disjoint : (t : ℕ) → Known t → {x : ℕ} → Is (concludes_disjoint P t x) → ConcludesDisjoint P t x
      disjoint t k {x} h = (concludes_disjoint_lem t k x).0 h

      complete : (t : ℕ) → Known t → {x : ℕ} → Is (concludes_complete P t x) → ConcludesComplete P t x
      complete t k {x} h = (concludes_complete_lem t k x).0 h

  -- a step that concludes is by a known lemma
  pub subset_test : (t : ℕ) {x y : ℕ} → ConcludesSubset P t x y → Is (concludes_subset P t x y)
  subset_test t {x} {y} c = (concludes_subset_lem t (omega (arith, c.low), omega (arith, c.high)) x y).1 c

  pub disjoint_test : (t : ℕ) {x : ℕ} → ConcludesDisjoint P t x → Is (concludes_disjoint P t x)
  disjoint_test t {x} c = (concludes_disjoint_lem t (known c.lemma) x).1 c
    where
      known : (step_lemma P t ≡ 1) ⊎ ((step_lemma P t ≡ 3) ⊎ (((15 ≤ step_lemma P t) × (step_lemma P t ≤ 18)) ⊎ (step_lemma P t ≡ 21))) → Known t
      known (inl e) = (omega arith, omega arith)
      known (inr (inl e)) = (omega arith, omega arith)
      known (inr (inr (inl e))) = (omega arith, omega arith)
      known (inr (inr (inr e))) = (omega arith, omega arith)

  pub complete_test : (t : ℕ) {x : ℕ} → ConcludesComplete P t x → Is (concludes_complete P t x)
  complete_test t {x} c = (concludes_complete_lem t (known c.lemma) x).1 c
    where
      known : (step_lemma P t ≡ 2) ⊎ ((step_lemma P t ≡ 4) ⊎ ((step_lemma P t ≡ 19) ⊎ (step_lemma P t ≡ 20))) → Known t
      known (inl e) = (omega arith, omega arith)
      known (inr (inl e)) = (omega arith, omega arith)
      known (inr (inr (inl e))) = (omega arith, omega arith)
      known (inr (inr (inr e))) = (omega arith, omega arith)

  -- the plain clause passes its row's test
  pub test_licence : (l x y p q : ℕ) → Licence P l x y p q → Is (licence P l x y p q)
  unfolding licence licences operand_of
  test_licence l x y p q (lemma_1 e a) = rw e (same! a)
  test_licence l x y p q (lemma_2 e a) = rw e (same! a)
  test_licence l x y p q (lemma_3 e a b) = rw e (pair (same! a) (which! b))
  test_licence l x y p q (lemma_4 e a b) = rw e (pair (same! a) (which! b))
  test_licence l x y p q (lemma_5 e a) = rw e (same! a)
  test_licence l x y p q (lemma_6 e a b) = rw (e, a.y_is) (pair (subset_test p a) (subset_test q b))
  test_licence l x y p q (lemma_7 e a b) = rw e (pair (same! a) (which! b))
  test_licence l x y p q (lemma_8 e a b c) = rw e (pair (same! a) (pair (subset_test p b) (subset_test q c)))
  test_licence l x y p q (lemma_9 e a b) = rw e (pair (same! a) (which! b))
  test_licence l x y p q (lemma_10 e a b c) = rw e (pair (same! a) (pair (subset_test p b) (subset_test q c)))
  test_licence l x y p q (lemma_11 e a b) = rw e (pair (same! a) (same! b))
  test_licence l x y p q (lemma_12 e a b c d) = rw e (pair (same! a) (pair (same! b) (pair (same! c) (subset_test p d))))
  test_licence l x y p q (lemma_13 e a b c d) = rw e (pair (same! a) (pair (same! b) (pair (same! c) (subset_test p d))))
  test_licence l x y p q (lemma_14 e a b c d s) =
      rw (e, s.y_is) (pair (same! a) (pair (subset_test p s) (pair (same! b) (pair (same! c) (same! d)))))
  test_licence l x y p q (lemma_15 e a b) = rw e (pair (disjoint_test p a) (subset_test q b))
  test_licence l x y p q (lemma_16 e a (inl b)) = rw e (pair (same! a) (one (inl (disjoint_test p b))))
  test_licence l x y p q (lemma_16 e a (inr b)) = rw e (pair (same! a) (one (inr (disjoint_test p b))))
  test_licence l x y p q (lemma_17 e a b) = rw e (pair (same! a) (disjoint_test p b))
  test_licence l x y p q (lemma_18 e a b) = rw e (pair (same! a) (disjoint_test p b))
  test_licence l x y p q (lemma_19 e a b) = rw e (pair (complete_test p a) (subset_test q b))
  test_licence l x y p q (lemma_20 e a b c) = rw e (pair (same! a) (pair (same! b) (complete_test p c)))
  test_licence l x y p q (lemma_21 {operand} e a b) = let w = private_test x operand a in rw (e, w.1) (pair w.0 (disjoint_test p b))

  -- the licence of a formed step, where the steps before it are formed
  pub step_licence :
      (t : ℕ) → ((i : ℕ) → i ≤ t → Is (step_formed P i)) →
      Is (step_licensed P t) ↔ Licence P (step_lemma P t) (step_x P t) (step_y P t) (step_p P t) (step_q P t)
  unfolding step_licensed
  step_licence t f =
      let k = step_known t (f t (omega arith)) in
      let s = formed_plainly t (f t (omega arith)) in (
        λ h.
            at_each Clause 1 21 clauses (step_lemma P t) k.0 (omega (arith, k.1)) (step_x P t) (step_y P t) (step_p P t) (step_q P t)
            (λ u. let lt = s.p_earlier ((p_used t k).0 u) in step_known (step_p P t) (f (step_p P t) (omega arith)))
            (λ u. let lt = s.q_earlier ((q_used t k).0 u) in step_known (step_q P t) (f (step_q P t) (omega arith)))
            h,
        test_licence (step_lemma P t) (step_x P t) (step_y P t) (step_p P t) (step_q P t),
      )
