-- The two readings of section 4 agree at each record, where the records before it are formed: the verdict's tests and the plain
-- statements. Assumes nothing else.
use Prim.Native.Nat.{ℕ, suc, ◌≤◌, ◌<◌}
use mathlib.Core.Path.{◌≡◌, sym, ap, ◌∙◌}
use mathlib.Core.Logic.{inl, inr, ⊎_elim, ◌↔◌}
use mathlib.Core.Bool.{Bool}
use native.Mathlib.Omega.{arith}
use Rattle.model.specs.Tests.{Is, ◌and◌, ◌<?◌}
use Rattle.model.specs.Layout.{Plan, fields, source, statement_kind, statement_a, statement_b}
use Rattle.model.specs.Statements.{kind_of, kind, variables, operand, operand_definition, variable_region, operand_region, statement_formed_by, statement_formed, statement_agrees_by, statement_agrees}
use Rattle.model.specs.LoopRelations.{Defining, Resolves, WithinVariableLimit, VariableRegion}
use Rattle.model.specs.PlainPlan.{StatementFormed, for_formed, load_formed, call_formed, copy_formed, read_or_write_formed, reduce_formed, StatementAgrees}
use Rattle.model.specs.declared.StatementKind.{StatementKind}
use Rattle.model.proofs.Tests.{falsum, both, pair, latest, same, same!, less, less! }
use Rattle.model.proofs.StatementKinds.{FollowsMap, KindView, is_for, is_load, is_call, is_copy, is_read_lem, is_write_lem, is_reduce_lem, is_unknown, kind_view}
use Rattle.model.proofs.LoopsAgree.{resolves, resolves_started, variable_limit_is}
use Rattle.model.proofs.VariablesAgree.{FormedBefore, kind_at, formed_at, operand_a, operand_b, operand_resolved, formed_operand, operand_resolves, region_computed, resolved_region}

three : {a b c : Bool} → Is (a and b and c) → Is a × Is b × Is c
three h = let t = both (both h).1 in ((both h).0, t.0, t.1)

four : {a b c d : Bool} → Is (a and b and c and d) → Is a × Is b × Is c × Is d
four h = let t = three (both h).1 in ((both h).0, t.0, t.1, t.2)

module _ (P : Plan) where
  -- the region of the variable on which a statement works
  pub operand_region_lem : {s v d r : ℕ} → operand P s ≡ v → Resolves P s v d → VariableRegion P d r → operand_region P s ≡ r
  operand_region_lem o w q = ap (variable_region P) (operand_resolved P o w).1 ∙ region_computed P q

  field :
      {s v d r n : ℕ} → operand P s ≡ v → Resolves P s v d → VariableRegion P d r → n < fields P r →
      Is (n <? fields P (operand_region P s))
  field o w q f = less! (rw (operand_region_lem o w q) f)

  room : {s v d : ℕ} → Resolves P s v d → Defining P s → WithinVariableLimit P s → Is (variables P s <? 16)
  room w D m = less! ((variable_limit_is P (resolves_started P w) D).1 m)

  pub formed_computed : {s : ℕ} → StatementFormed P s → Is (statement_formed P s)
  unfolding statement_formed_by kind_of
  formed_computed {s} (for_formed e a b c) = rw (formed_at P s (kind_at P s 0 e)) (pair (less! a) (pair (same! b) (same! c)))
  formed_computed {s} (load_formed e a w m q f) =
      rw (formed_at P s (kind_at P s 1 e))
      (pair (less! a) (pair (less! (resolves P w).0) (pair (room w (omega arith) m) (field (operand_b P s (inl e)) w q f))))
  formed_computed {s} (call_formed e a w m c) =
      rw (formed_at P s (kind_at P s 2 e)) (pair (less! a) (pair (less! (resolves P w).0) (pair (room w (omega arith) m) (same! c))))
  formed_computed {s} (copy_formed e w m b c) =
      rw (formed_at P s (kind_at P s 3 e)) (pair (less! (resolves P w).0) (pair (room w (omega arith) m) (pair (same! b) (same! c))))
  formed_computed {s} (read_or_write_formed (inl e) w q f c) =
      rw (formed_at P s (kind_at P s 4 e))
      (pair (less! (resolves P w).0) (pair (field (operand_a P s (omega arith) (omega arith)) w q f) (same! c)))
  formed_computed {s} (read_or_write_formed (inr e) w q f c) =
      rw (formed_at P s (kind_at P s 5 e))
      (pair (less! (resolves P w).0) (pair (field (operand_a P s (omega arith) (omega arith)) w q f) (same! c)))
  formed_computed {s} (reduce_formed e w q f c) =
      rw (formed_at P s (kind_at P s 6 e))
      (pair (less! (resolves P w).0) (pair (field (operand_a P s (omega arith) (omega arith)) w q f) (less! (omega arith))))

  -- what a statement works on, where it and the statements before it are formed
  pub formed_resolves : {s : ℕ} → FormedBefore P (suc s) → (statement_kind P s ≡ 0 → ⊥) → Resolves P s (operand P s) (operand_definition P s)
  formed_resolves {s} F n = operand_resolves P (λ t l. F t (omega arith)) n (formed_operand P s n (F s (omega arith)))

  pub formed_resolves_a :
      {s : ℕ} → FormedBefore P (suc s) → 3 ≤ statement_kind P s → statement_kind P s ≤ 6 →
      Resolves P s (statement_a P s) (operand_definition P s)
  formed_resolves_a {s} F l m = rw (operand_a P s l m) at (formed_resolves F (omega arith))

  pub formed_resolves_b : {s : ℕ} → FormedBefore P (suc s) → FollowsMap P s → Resolves P s (statement_b P s) (operand_definition P s)
  formed_resolves_b {s} F e = rw (operand_b P s e) at (formed_resolves F (⊎_elim (omega arith) (omega arith) e))

  pub formed_next : {s : ℕ} → FormedBefore P s → Is (statement_formed P s) → FormedBefore P (suc s)
  formed_next {s} F h t l = elim (latest t s l) [ inl e ↦ rw e h | inr lt ↦ F t lt ]

  formed_by : {s : ℕ} → FormedBefore P s → Is (statement_formed P s) → StatementFormed P s
  unfolding statement_formed_by
  formed_by {s} F h = go (kind_view P s)
    where
      G : FormedBefore P (suc s)
      G = formed_next F h

      has_room : Defining P s → Is (variables P s <? 16) → WithinVariableLimit P s
      has_room D l = (variable_limit_is P (resolves_started P (formed_resolves G (omega arith))) D).0 (less l)

      region : (statement_kind P s ≡ 0 → ⊥) → VariableRegion P (operand_definition P s) (operand_region P s)
      region n = resolved_region P F (formed_resolves G n)

      go : KindView (statement_kind P s) (kind P s) → StatementFormed P s
      go (is_for e k) = let t = three (rw (formed_at P s k) at h) in for_formed e (less t.0) (same t.1) (same t.2)
      go (is_load e k) =
          let t = four (rw (formed_at P s k) at h) in
          load_formed e (less t.0) (formed_resolves_b G (inl e)) (has_room (omega arith) t.2) (region (omega arith))
          (less t.3)
      go (is_call e k) =
          let t = four (rw (formed_at P s k) at h) in
          call_formed e (less t.0) (formed_resolves_b G (inr e)) (has_room (omega arith) t.2) (same t.3)
      go (is_copy e k) =
          let t = four (rw (formed_at P s k) at h) in
          copy_formed e (formed_resolves_a G (omega arith) (omega arith)) (has_room (omega arith) t.1) (same t.2) (same t.3)
      go (is_read_lem e k) =
          let t = three (rw (formed_at P s k) at h) in
          read_or_write_formed (inl e) (formed_resolves_a G (omega arith) (omega arith)) (region (omega arith)) (less t.1)
          (same t.2)
      go (is_write_lem e k) =
          let t = three (rw (formed_at P s k) at h) in
          read_or_write_formed (inr e) (formed_resolves_a G (omega arith) (omega arith)) (region (omega arith)) (less t.1)
          (same t.2)
      go (is_reduce_lem e k) =
          let t = three (rw (formed_at P s k) at h) in
          let c = less t.2 in
          reduce_formed e (formed_resolves_a G (omega arith) (omega arith)) (region (omega arith)) (less t.1) (omega arith)
      go (is_unknown e k) = falsum (rw (formed_at P s k) at h)

  pub statement_formed_lem : (s : ℕ) → FormedBefore P s → Is (statement_formed P s) ↔ StatementFormed P s
  statement_formed_lem s F = (formed_by F, formed_computed)

  -- Mismatch
  agrees_at : (s : ℕ) {K : StatementKind} → kind P s ≡ K → statement_agrees P s ≡ statement_agrees_by P K s
  unfolding statement_agrees
  agrees_at s k = rw k

  -- at a LOAD or a CALL the test is that its variable is of the map's source
  agrees_source : (s : ℕ) → FollowsMap P s → Is (statement_agrees P s) ↔ (operand_region P s ≡ source P (statement_a P s))
  unfolding statement_agrees_by kind_of
  agrees_source s (inl e) = rw (agrees_at s (kind_at P s 1 e)) (same, same!)
  agrees_source s (inr e) = rw (agrees_at s (kind_at P s 2 e)) (same, same!)

  pub statement_agrees_lem : (s : ℕ) → FormedBefore P (suc s) → Is (statement_agrees P s) ↔ StatementAgrees P s
  unfolding statement_agrees_by kind_of
  statement_agrees_lem s F = (λ h m d w. plainly h m w, λ a. go a (kind_view P s))
    where
      plainly :
          {d : ℕ} → Is (statement_agrees P s) → FollowsMap P s → Resolves P s (statement_b P s) d →
          VariableRegion P d (source P (statement_a P s))
      plainly h m w =
          let q = resolved_region P (λ t l. F t (omega arith)) w in
          rw (sym (operand_region_lem (operand_b P s m) w q) ∙ (agrees_source s m).0 h) at q

      tested : StatementAgrees P s → FollowsMap P s → Is (statement_agrees P s)
      tested a m = (agrees_source s m).1 (region_computed P (a m (operand_definition P s) (formed_resolves_b F m)))

      go : StatementAgrees P s → KindView (statement_kind P s) (kind P s) → Is (statement_agrees P s)
      go a (is_for e k) = agrees_at s k
      go a (is_load e k) = tested a (inl e)
      go a (is_call e k) = tested a (inr e)
      go a (is_copy e k) = agrees_at s k
      go a (is_read_lem e k) = agrees_at s k
      go a (is_write_lem e k) = agrees_at s k
      go a (is_reduce_lem e k) = agrees_at s k
      go a (is_unknown e k) = agrees_at s k
