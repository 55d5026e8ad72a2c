-- Symbols and bounds: which statements have a symbol, its number and region, and the bounds of variables: functions and relations
-- agree, where the statements so far are formed and the nodes are listed.
use Prim.Native.Nat.{ℕ, zero, suc, ◌≤◌, ◌<◌}
use mathlib.Core.Path.{◌≡◌, refl, sym, ap, ◌∙◌}
use mathlib.Core.Logic.{◌⊎◌, inl, inr, ◌↔◌}
use native.Mathlib.Omega.{arith}
use Rattle.model.specs.Tests.{Is, ◌and◌, non, ◌=?◌}
use Rattle.model.specs.Recursion.{below}
use Rattle.model.specs.Layout.{Plan, node_count, statement_count, statement_kind, statement_a, node_kind, node_a, node_b, assigned}
use Rattle.model.specs.Statements.{kind_of, kind, operand_definition, variable_region}
use Rattle.model.specs.Needs.{has_symbol, symbol, symbol_node, symbol_region, image_node, bound_by, bound}
use Rattle.model.specs.LoopRelations.{HasSymbol, SymbolsBefore, none_yet, counted, passed, SymbolRegion, Bound}
use Rattle.model.specs.declared.StatementKind.{StatementKind}
use Rattle.model.proofs.Tests.{both, either, one, split, lacks, refuted, fails, same, same!, pair, pick_true, pick-false, latest, first_found, first_most}
use Rattle.model.proofs.Recursion.{below_at}
use Rattle.model.proofs.StatementKinds.{FollowsMap, KindView, is_for, is_load, is_call, is_copy, is_read_lem, is_write_lem, is_reduce_lem, is_unknown, kind_view, opens_is, accesses_is, access_opens_none}
use Rattle.model.proofs.VariablesAgree.{FormedBefore, kind_at, course-kind, operand_a, operand_b, operand_resolved, region_computed, access_computed}
use Rattle.model.proofs.StatementsAgree.{formed_resolves_a, formed_resolves_b}
use Rattle.model.proofs.LoopAccesses.{access_through, access_region}

module _ (P : Plan) where
  pub has_symbol_lem : (s : ℕ) → Is (has_symbol P s) ↔ HasSymbol P s
  unfolding has_symbol
  has_symbol_lem s = (
    λ h. elim (either h) [ inl o ↦ inl ((opens_is P s).0 o) | inr a ↦ inr ((accesses_is P s).0 a) ],
    λ h. one (elim h [ inl e ↦ inl ((opens_is P s).1 e) | inr a ↦ inr ((accesses_is P s).1 a) ]),
  )

  -- the number of symbols before a statement
  pub symbol_computed : {s k : ℕ} → SymbolsBefore P s k → symbol P s ≡ k
  unfolding symbol
  symbol_computed none_yet = refl
  symbol_computed (counted {s = s} w h) = pick_true _ _ _ ((has_symbol_lem s).1 h) ∙ ap suc (symbol_computed w)
  symbol_computed (passed {s = s} w n) = pick-false _ _ _ (fails (refuted (λ h. n ((has_symbol_lem s).0 h)))) ∙ symbol_computed w

  pub symbols_before : (s : ℕ) → SymbolsBefore P s (symbol P s)
  unfolding symbol
  symbols_before zero = none_yet
  symbols_before (suc s) = go (split (has_symbol P s)) (symbols_before s)
    where
      go :
          Is (has_symbol P s) ⊎ Is (non (has_symbol P s)) → SymbolsBefore P s (symbol P s) → SymbolsBefore P (suc s) (symbol P (suc s))
      go (inl h) w = rw (pick_true _ _ _ h) (counted w ((has_symbol_lem s).0 h))
      go (inr n) w = rw (pick-false _ _ _ (fails n)) (passed w (λ h. lacks n ((has_symbol_lem s).1 h)))

  pub symbol_is : {s k : ℕ} → (symbol P s ≡ k) ↔ SymbolsBefore P s k
  symbol_is {s} = (λ e. rw e at (symbols_before s), symbol_computed)

  -- symbols grow with the statements that have one
  symbol_next : (s : ℕ) → (symbol P s ≤ symbol P (suc s)) × (symbol P (suc s) ≤ suc (symbol P s)) × (Is (has_symbol P s) → symbol P (suc s) ≡ suc (symbol P s))
  unfolding symbol
  symbol_next s = go (split (has_symbol P s))
    where
      go :
          Is (has_symbol P s) ⊎ Is (non (has_symbol P s)) →
          (symbol P s ≤ symbol P (suc s)) × (symbol P (suc s) ≤ suc (symbol P s)) × (Is (has_symbol P s) → symbol P (suc s) ≡ suc (symbol P s))
      go (inl h) = rw (pick_true _ _ _ h) (omega arith, omega arith, λ y. refl)
      go (inr n) = rw (pick-false _ _ _ (fails n)) (omega arith, omega arith, λ y. absurd (lacks n y))

  pub symbol_most : (s : ℕ) → symbol P s ≤ s
  unfolding symbol
  symbol_most zero = omega arith
  symbol_most (suc s) = omega (arith, symbol_most s, (symbol_next s).1)

  pub symbol_grows : (i s : ℕ) → i < s → Is (has_symbol P i) → symbol P i < symbol P s
  symbol_grows i zero l y = absurd (omega arith)
  symbol_grows i (suc s) l y =
      elim (latest i s l) [
        | inl e ↦ let g = (symbol_next s).2 (rw e at y) in rw e (omega arith)
        | inr l ↦ omega (arith, symbol_grows i s l y, (symbol_next s).0)
      ]

  -- the region of a symbol
  pub region_of_symbol : {s r : ℕ} → SymbolRegion P s r → symbol_region P s ≡ r
  unfolding symbol_region
  region_of_symbol {s} (SymbolRegion.of_for e q) = pick_true _ _ _ ((opens_is P s).1 e) ∙ sym q
  region_of_symbol {s} (SymbolRegion.of_access a q) =
      let t = access_computed P a in
      pick-false _ _ _ (access_opens_none P s t.0) ∙ ap (variable_region P) t.2 ∙ region_computed P q

  pub symbol_region_lem : {s r : ℕ} → FormedBefore P (suc s) → HasSymbol P s → (symbol_region P s ≡ r) ↔ SymbolRegion P s r
  unfolding symbol_region
  symbol_region_lem {s} F h = (λ e. rw e at (go h), region_of_symbol)
    where
      go : HasSymbol P s → SymbolRegion P s (symbol_region P s)
      go (inl e) = SymbolRegion.of_for e (pick_true _ _ _ ((opens_is P s).1 e))
      go (inr a) =
          let h = (accesses_is P s).1 a in
          let w = access_through P F h in
          SymbolRegion.of_access w ((access_region P (λ t l. F t (omega arith)) w).0 (sym (pick-false _ _ _ (access_opens_none P s h))))

-- what the bounds ask of the nodes: a FOR's node is listed, an image node's operand is a node, and one image has one node
pub record NodesListed (P : Plan) : Type 0 where
  pub loops : (s : ℕ) → s < statement_count P → statement_kind P s ≡ 0 → symbol_node P s < node_count P
  pub operands : (x : ℕ) → x < node_count P → node_kind P x ≡ 5 → node_a P x < node_count P
  pub images :
      (x y : ℕ) → x < node_count P → y < node_count P → node_kind P x ≡ 5 → node_kind P y ≡ 5 →
      node_a P x ≡ node_a P y → node_b P x ≡ node_b P y → x ≡ y

module _ (P : Plan) where
  pub image_found : (a m : ℕ) → image_node P a m < node_count P
      → (node_kind P (image_node P a m) ≡ 5) × (node_a P (image_node P a m) ≡ a) × (node_b P (image_node P a m) ≡ m)
  unfolding image_node
  image_found a m lt =
      let h = first_found (λ j. node_kind P j =? 5 and node_a P j =? a and node_b P j =? m) 0 (node_count P) (omega arith) in
      (same (both h).0, same (both (both h).1).0, same (both (both h).1).1)

  image_most : (x : ℕ) → x < node_count P → node_kind P x ≡ 5 → image_node P (node_a P x) (node_b P x) ≤ x
  unfolding image_node
  image_most x lt e = first_most _ 0 (node_count P) x (omega arith) (omega arith) (pair (same! e) (pair (same! refl) (same! refl)))

  -- the bound of a variable, by the kind of the statement that defines it
  pub bound_at : (s : ℕ) {K : StatementKind} → kind P s ≡ K → bound P s ≡ bound_by P K s (below (node_count P) s (bound P))
  unfolding bound
  bound_at s k = course-kind P (node_count P) (bound_by P) s k

  pub bound_copied : (s : ℕ) → statement_kind P s ≡ 3 → operand_definition P s < s → bound P s ≡ bound P (operand_definition P s)
  unfolding bound_by kind_of
  bound_copied s e lt = bound_at s (kind_at P s 3 e) ∙ below_at (node_count P) s (bound P) (operand_definition P s) lt

  pub bound_led : (s : ℕ) → FollowsMap P s → operand_definition P s < s
      → bound P s ≡ image_node P (bound P (operand_definition P s)) (statement_a P s)
  unfolding bound_by kind_of
  bound_led s (inl e) lt = rw (← below_at (node_count P) s (bound P) (operand_definition P s) lt) (bound_at s (kind_at P s 1 e))
  bound_led s (inr e) lt = rw (← below_at (node_count P) s (bound P) (operand_definition P s) lt) (bound_at s (kind_at P s 2 e))

  module _ (N : NodesListed P) where
    -- the one node of an image
    image_is : (x : ℕ) → x < node_count P → node_kind P x ≡ 5 → image_node P (node_a P x) (node_b P x) ≡ x
    image_is x lt e =
        let m = image_most x lt e in
        let f = image_found (node_a P x) (node_b P x) (omega arith) in
        N.images (image_node P (node_a P x) (node_b P x)) x (omega arith) lt f.0 e f.1 f.2

    bound_computed : {d x : ℕ} → d < statement_count P → Bound P d x → (bound P d ≡ x) × (x < node_count P)
    unfolding bound_by kind_of
    bound_computed l (Bound.of_for {d = d} {x = x} e w q) =
        let z : symbol_node P d ≡ x = ap (assigned P) (symbol_computed P w) ∙ sym q in
        (bound_at d (kind_at P d 0 e) ∙ z, rw z at (N.loops d l e))
    bound_computed l (Bound.of_image {d = d} {c = c} {x = x} m w b lt e a n) =
        let o = (operand_resolved P (operand_b P d m) w).1 in
        let r = (bound_computed (omega (arith, w.earlier)) b).0 in
        (bound_led d m (omega (arith, w.earlier)) ∙ rw (o, r) (rw (a, n) at (image_is x lt e)), lt)
    bound_computed l (Bound.of_copy {d = d} e w b) =
        let o = (operand_resolved P (operand_a P d (omega arith) (omega arith)) w).1 in
        let r = bound_computed (omega (arith, w.earlier)) b in
        (bound_copied d e (omega (arith, w.earlier)) ∙ ap (bound P) o ∙ r.0, r.1)

    bound_by_lem : (n d : ℕ) → d < n → FormedBefore P (suc d) → bound P d < node_count P → Bound P d (bound P d)
    unfolding bound_by
    bound_by_lem zero d lt F l = absurd (omega arith)
    bound_by_lem (suc n) d lt F l = go (kind_view P d) (λ c x. bound_by_lem n c (omega arith) (λ t y. F t (omega arith)))
      where
        Before : Type 0
        Before = (c : ℕ) → c < d → bound P c < node_count P → Bound P c (bound P c)

        led : FollowsMap P d → Before → Bound P d (bound P d)
        led m r =
            let w = formed_resolves_b P F m in
            let e = bound_led d m w.earlier in
            let f = image_found (bound P (operand_definition P d)) (statement_a P d) (rw e at l) in
            let i = N.operands (image_node P (bound P (operand_definition P d)) (statement_a P d)) (rw e at l) f.0 in
            rw e (Bound.of_image m w (r (operand_definition P d) w.earlier (rw f.1 at i)) (rw e at l) f.0 f.1 f.2)

        go : KindView (statement_kind P d) (kind P d) → Before → Bound P d (bound P d)
        go (is_for e k) r = Bound.of_for e (symbols_before P d) (bound_at d k)
        go (is_load e k) r = led (inl e) r
        go (is_call e k) r = led (inr e) r
        go (is_copy e k) r =
            let w = formed_resolves_a P F (omega arith) (omega arith) in
            let q = bound_copied d e w.earlier in
            rw q (Bound.of_copy e w (r (operand_definition P d) w.earlier (rw q at l)))
        go (is_read_lem e k) r = absurd (omega (arith, bound_at d k))
        go (is_write_lem e k) r = absurd (omega (arith, bound_at d k))
        go (is_reduce_lem e k) r = absurd (omega (arith, bound_at d k))
        go (is_unknown e k) r = absurd (omega (arith, bound_at d k))

    pub bound_is : {d x : ℕ} → d < statement_count P → FormedBefore P (suc d) → (bound P d ≡ x) × (x < node_count P) ↔ Bound P d x
    bound_is {d} l F = (λ (e, lt). rw e at (bound_by_lem (suc d) d (omega arith) F (rw (← e) at lt)), bound_computed l)
