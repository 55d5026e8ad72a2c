-- What a loop's variables are: their regions, whether they are centered, and the variables that accesses go through. Where the
-- statements so far are formed, functions and relations say the same; from a relation to its function nothing is asked.
use Prim.Native.Nat.{ℕ, zero, suc, ◌≤◌, ◌<◌}
use mathlib.Core.Path.{◌≡◌, refl, sym, ap, ◌∙◌}
use mathlib.Core.Logic.{inl, inr, ◌↔◌}
use mathlib.Core.Bool.{false}
use native.Mathlib.Omega.{arith}
use Rattle.model.specs.Tests.{Is}
use Rattle.model.specs.Recursion.{below, course}
use Rattle.model.specs.Layout.{Plan, statement_kind, statement_a, statement_b}
use Rattle.model.specs.Statements.{kind_of, kind, accesses, variables, operand_by, operand, operand_definition, region_by, variable_region, centered_by, centered, statement_formed_by, statement_formed}
use Rattle.model.specs.LoopRelations.{Resolves, VariableRegion, of_loop, of_load, of_call, of_copy, Centered, loop_centered, copy_centered, AccessThrough, by_load, directly}
use Rattle.model.specs.declared.StatementKind.{StatementKind}
use Rattle.model.proofs.Tests.{falsum, both, less}
use Rattle.model.proofs.Recursion.{course_law, below_at}
use Rattle.model.proofs.StatementKinds.{Accessing, FollowsMap, KindView, is_for, is_load, is_call, is_copy, is_read_lem, is_write_lem, is_reduce_lem, is_unknown, kind_view, accesses_is}
use Rattle.model.proofs.LoopsAgree.{Turn, opening, defining, passing, turn, variable_kind, Started, resolves, resolved}

-- all statements before statement s are formed
abbrev pub FormedBefore : Plan → ℕ → Type 0
FormedBefore P s = (t : ℕ) → t < s → Is (statement_formed P t)

module _ (P : Plan) where
  pub kind_at : (s k : ℕ) → statement_kind P s ≡ k → kind P s ≡ kind_of k
  unfolding kind
  kind_at s k e = rw e

  pub formed_at : (s : ℕ) {K : StatementKind} → kind P s ≡ K → statement_formed P s ≡ statement_formed_by P K s
  unfolding statement_formed
  formed_at s k = rw k

  -- a value by kind, from the values at earlier statements
  pub course-kind : {A : Type 0} (d : A) (by : StatementKind → ℕ → (ℕ → A) → A) (s : ℕ) {K : StatementKind} → kind P s ≡ K
      → course d (λ t earlier. by (kind P t) t earlier) s ≡ by K s (below d s (course d (λ t earlier. by (kind P t) t earlier)))
  course-kind d by s k = rw k at (course_law d (λ t earlier. by (kind P t) t earlier) s)

  -- the byte that numbers the variable on which a statement works
  pub operand_b : (s : ℕ) → FollowsMap P s → operand P s ≡ statement_b P s
  unfolding operand operand_by kind_of
  operand_b s (inl e) = rw (kind_at s 1 e)
  operand_b s (inr e) = rw (kind_at s 2 e)

  pub operand_a : (s : ℕ) → 3 ≤ statement_kind P s → statement_kind P s ≤ 6 → operand P s ≡ statement_a P s
  unfolding operand operand_by
  operand_a s l m = go (kind_view P s)
    where
      go : KindView (statement_kind P s) (kind P s) → operand P s ≡ statement_a P s
      go (is_for e k) = absurd (omega arith)
      go (is_load e k) = absurd (omega arith)
      go (is_call e k) = absurd (omega arith)
      go (is_copy e k) = rw k
      go (is_read_lem e k) = rw k
      go (is_write_lem e k) = rw k
      go (is_reduce_lem e k) = rw k
      go (is_unknown e k) = absurd (omega arith)

  -- the variable of that number
  pub operand_resolved : {s v d : ℕ} → operand P s ≡ v → Resolves P s v d → (operand P s < variables P s) × (operand_definition P s ≡ d)
  unfolding operand_definition
  operand_resolved e w = rw e (resolves P w)

  -- a statement that is formed and opens no loop works on a variable that is there
  pub formed_operand : (s : ℕ) → (statement_kind P s ≡ 0 → ⊥) → Is (statement_formed P s) → operand P s < variables P s
  unfolding operand operand_by statement_formed_by
  formed_operand s n h = go (kind_view P s)
    where
      go : KindView (statement_kind P s) (kind P s) → operand P s < variables P s
      go (is_for e k) = absurd (n e)
      go (is_load e k) = rw k (less (both (both (rw (formed_at s k) at h)).1).0)
      go (is_call e k) = rw k (less (both (both (rw (formed_at s k) at h)).1).0)
      go (is_copy e k) = rw k (less (both (rw (formed_at s k) at h)).0)
      go (is_read_lem e k) = rw k (less (both (rw (formed_at s k) at h)).0)
      go (is_write_lem e k) = rw k (less (both (rw (formed_at s k) at h)).0)
      go (is_reduce_lem e k) = rw k (less (both (rw (formed_at s k) at h)).0)
      go (is_unknown e k) = falsum (rw (formed_at s k) at h)

  -- where the statements before s are formed, a variable is there only behind a FOR
  pub started : (s : ℕ) → FormedBefore P s → 1 ≤ variables P s → Started P s
  unfolding variables
  started zero F l = absurd (omega arith)
  started (suc s) F l = go (turn P s) (started s (λ t lt. F t (omega arith)))
    where
      on : Started P s → Started P (suc s)
      on (t, lt, h) = (t, omega arith, h)

      go : Turn P s → (1 ≤ variables P s → Started P s) → Started P (suc s)
      go (opening e f n d) r = (s, omega arith, e)
      go (defining D f n d k) r = on (r (let o = formed_operand s (omega arith) (F s (omega arith)) in omega arith))
      go (passing e m f n k) r = on (r (omega arith))

  -- what a statement works on, as a relation
  pub operand_resolves :
      {s : ℕ} → FormedBefore P s → (statement_kind P s ≡ 0 → ⊥) → operand P s < variables P s →
      Resolves P s (operand P s) (operand_definition P s)
  unfolding operand_definition
  operand_resolves {s} F n l = resolved P (started s F (omega arith)) n l

  -- the region of a variable, by the kind of the statement that defines it
  region_at : (s : ℕ) {K : StatementKind} → kind P s ≡ K → variable_region P s ≡ region_by P K s (below 0 s (variable_region P))
  unfolding variable_region
  region_at s k = course-kind 0 (region_by P) s k

  region_copied :
      (s : ℕ) → statement_kind P s ≡ 3 → operand_definition P s < s → variable_region P s ≡ variable_region P (operand_definition P s)
  unfolding region_by kind_of
  region_copied s e lt = region_at s (kind_at s 3 e) ∙ below_at 0 s (variable_region P) (operand_definition P s) lt

  -- what a COPY copies
  copied : {s d : ℕ} → statement_kind P s ≡ 3 → Resolves P s (statement_a P s) d → operand_definition P s ≡ d
  copied {s} e w = (operand_resolved (operand_a s (omega arith) (omega arith)) w).1

  pub region_computed : {d r : ℕ} → VariableRegion P d r → variable_region P d ≡ r
  unfolding region_by kind_of
  region_computed (of_loop {d = d} e q) = region_at d (kind_at d 0 e) ∙ sym q
  region_computed (of_load {d = d} e q) = region_at d (kind_at d 1 e) ∙ sym q
  region_computed (of_call {d = d} e q) = region_at d (kind_at d 2 e) ∙ sym q
  region_computed (of_copy {d = d} e w q) =
      let c = copied e w in
      region_copied d e (omega (arith, w.earlier)) ∙ ap (variable_region P) c ∙ region_computed q

  -- a formed COPY copies a variable that it sees
  copy_resolves : (d : ℕ) → FormedBefore P (suc d) → statement_kind P d ≡ 3 → Resolves P d (statement_a P d) (operand_definition P d)
  copy_resolves d F e =
      let o = formed_operand d (omega arith) (F d (omega arith)) in
      rw (operand_a d (omega arith) (omega arith)) at (operand_resolves (λ t l. F t (omega arith)) (omega arith) o)

  region_by_lem : (n d : ℕ) → d < n → FormedBefore P (suc d) → statement_kind P d ≤ 3 → VariableRegion P d (variable_region P d)
  unfolding region_by
  region_by_lem zero d lt F l = absurd (omega arith)
  region_by_lem (suc n) d lt F l = go (kind_view P d) (λ c x. region_by_lem n c (omega arith) (λ t y. F t (omega arith)))
    where
      go :
          KindView (statement_kind P d) (kind P d) →
          ((c : ℕ) → c < d → statement_kind P c ≤ 3 → VariableRegion P c (variable_region P c)) → VariableRegion P d (variable_region P d)
      go (is_for e k) r = of_loop e (region_at d k)
      go (is_load e k) r = of_load e (region_at d k)
      go (is_call e k) r = of_call e (region_at d k)
      go (is_copy e k) r =
          let w = copy_resolves d F e in
          rw (region_copied d e w.earlier)
          (of_copy e w (r (operand_definition P d) w.earlier (variable_kind P w.variable)))
      go (is_read_lem e k) r = absurd (omega arith)
      go (is_write_lem e k) r = absurd (omega arith)
      go (is_reduce_lem e k) r = absurd (omega arith)
      go (is_unknown e k) r = absurd (omega arith)

  pub region_is : {d r : ℕ} → FormedBefore P (suc d) → statement_kind P d ≤ 3 → (variable_region P d ≡ r) ↔ VariableRegion P d r
  region_is {d} F l = (λ e. rw e at (region_by_lem (suc d) d (omega arith) F l), region_computed)

  pub one_region : {d r q : ℕ} → VariableRegion P d r → VariableRegion P d q → r ≡ q
  one_region u w = sym (region_computed u) ∙ region_computed w

  -- a variable that is seen has its region
  pub resolved_region : {s v d : ℕ} → FormedBefore P s → Resolves P s v d → VariableRegion P d (variable_region P d)
  resolved_region F w = (region_is (λ t l. F t (omega (arith, w.earlier))) (variable_kind P w.variable)).0 refl

  -- whether a variable is centered
  centered_at : (s : ℕ) {K : StatementKind} → kind P s ≡ K → centered P s ≡ centered_by P K s (below false s (centered P))
  unfolding centered
  centered_at s k = course-kind false (centered_by P) s k

  centered_copied :
      (s : ℕ) → statement_kind P s ≡ 3 → operand_definition P s < s → centered P s ≡ centered P (operand_definition P s)
  unfolding centered_by kind_of
  centered_copied s e lt = centered_at s (kind_at s 3 e) ∙ below_at false s (centered P) (operand_definition P s) lt

  pub centered_computed : {d : ℕ} → Centered P d → Is (centered P d)
  unfolding centered_by kind_of
  centered_computed (loop_centered {d = d} e) = centered_at d (kind_at d 0 e)
  centered_computed (copy_centered {d = d} e w q) =
      let c = copied e w in
      centered_copied d e (omega (arith, w.earlier)) ∙ ap (centered P) c ∙ centered_computed q

  centered_by_lem : (n d : ℕ) → d < n → FormedBefore P (suc d) → Is (centered P d) → Centered P d
  unfolding centered_by
  centered_by_lem zero d lt F h = absurd (omega arith)
  centered_by_lem (suc n) d lt F h = go (kind_view P d) (λ c x. centered_by_lem n c (omega arith) (λ t y. F t (omega arith)))
    where
      not_here : {A : Type 0} → centered P d ≡ false → A
      not_here e = falsum (sym e ∙ h)

      go : KindView (statement_kind P d) (kind P d) → ((c : ℕ) → c < d → Is (centered P c) → Centered P c) → Centered P d
      go (is_for e k) r = loop_centered e
      go (is_load e k) r = not_here (centered_at d k)
      go (is_call e k) r = not_here (centered_at d k)
      go (is_copy e k) r =
          let w = copy_resolves d F e in
          copy_centered e w (r (operand_definition P d) w.earlier (sym (centered_copied d e w.earlier) ∙ h))
      go (is_read_lem e k) r = not_here (centered_at d k)
      go (is_write_lem e k) r = not_here (centered_at d k)
      go (is_reduce_lem e k) r = not_here (centered_at d k)
      go (is_unknown e k) r = not_here (centered_at d k)

  pub centered_is : {d : ℕ} → FormedBefore P (suc d) → Is (centered P d) ↔ Centered P d
  centered_is {d} F = (centered_by_lem (suc d) d (omega arith) F, centered_computed)

  -- the variable that an access goes through
  pub access_computed :
      {s d : ℕ} → AccessThrough P s d → Is (accesses P s) × (operand P s < variables P s) × (operand_definition P s ≡ d)
  access_computed {s} (by_load e w) =
      let o = operand_resolved (operand_b s (inl e)) w in
      ((accesses_is P s).1 (inl e), o.0, o.1)
  access_computed {s} (directly l m w) =
      let o = operand_resolved (operand_a s (omega arith) m) w in
      ((accesses_is P s).1 (inr (l, m)), o.0, o.1)

  pub access_is :
      {s d : ℕ} → FormedBefore P s →
      Is (accesses P s) × (operand P s < variables P s) × (operand_definition P s ≡ d) ↔ AccessThrough P s d
  access_is {s} F = (λ w. rw w.2 at (go ((accesses_is P s).0 w.0) w.1), access_computed)
    where
      go : Accessing P s → operand P s < variables P s → AccessThrough P s (operand_definition P s)
      go (inl e) l = by_load e (rw (operand_b s (inl e)) at (operand_resolves F (omega arith) l))
      go (inr (a, b)) l = directly a b (rw (operand_a s (omega arith) b) at (operand_resolves F (omega arith) l))
