-- The accesses of a loop where all statements are formed: as relations, what the search for conflicts says of them, and what the paper's
-- three conditions say of two. Assumes nothing else.
use Prim.Native.Nat.{ℕ, suc, ◌<◌}
use mathlib.Core.Path.{◌≡◌, refl, sym, ◌∙◌}
use mathlib.Core.Logic.{◌⊎◌, inl, inr, ◌↔◌}
use native.Mathlib.Omega.{arith}
use Rattle.model.specs.Tests.{Is, ◌and◌, ◌or◌, non, ◌=?◌, every}
use Rattle.model.specs.Layout.{Plan, statement_count, statement_kind, statement_c}
use Rattle.model.specs.Statements.{accesses, operand_definition, operand_region, access_field, centered}
use Rattle.model.specs.Parallel.{reads, writes, reduces, uncentered, access_of_loop, same_target, conflicts, parallelizable}
use Rattle.model.specs.LoopRelations.{InLoop, Resolves, VariableRegion, Centered, AccessThrough, by_load, directly, AccessField, AccessTarget}
use Rattle.model.specs.PlainPlan.{ParallelizableLoop}
use Rattle.model.proofs.Tests.{both, pair, either, one, lacks, refuted, split, implied, same, same!, every_at}
use Rattle.model.proofs.StatementKinds.{access_no_for, accesses_is, reads_is, writes_is, reduces_is, field_is}
use Rattle.model.proofs.LoopsAgree.{in_loop, loop_of_lem, resolves_started, variable_kind}
use Rattle.model.proofs.VariablesAgree.{FormedBefore, formed_operand, region_is, centered_is, access_computed, access_is}

module _ (P : Plan) where
  -- the variable that an access goes through is seen by it
  pub access_resolves : {s d : ℕ} → AccessThrough P s d → (v : ℕ) × Resolves P s v d
  access_resolves (by_load e w) = (_, w)
  access_resolves (directly l m w) = (_, w)

  -- an access that is formed, as a relation
  pub access_through : {s : ℕ} → FormedBefore P (suc s) → Is (accesses P s) → AccessThrough P s (operand_definition P s)
  access_through {s} F h =
      let o = formed_operand P s (access_no_for P s ((accesses_is P s).0 h)) (F s (omega arith)) in
      (access_is P {s = s} (λ t l. F t (omega arith))).0 (h, o, refl)

  -- its region, and whether it is centered
  pub access_region : {s d r : ℕ} → FormedBefore P s → AccessThrough P s d → (operand_region P s ≡ r) ↔ VariableRegion P d r
  access_region {d = d} F a =
      let w = (access_resolves a).1 in
      rw (access_computed P a).2 (region_is P {d = d} (λ t l. F t (omega (arith, w.earlier))) (variable_kind P w.variable))

  pub access_centered :
      {s d : ℕ} → FormedBefore P s → AccessThrough P s d → Is (centered P (operand_definition P s)) ↔ Centered P d
  access_centered F a =
      let w = (access_resolves a).1 in
      rw (access_computed P a).2 (centered_is P (λ t l. F t (omega (arith, w.earlier))))

  pub access_uncentered : {s d : ℕ} → FormedBefore P s → AccessThrough P s d → Is (uncentered P s) ↔ (Centered P d → ⊥)
  unfolding uncentered
  access_uncentered F a = let c = access_centered F a in (λ h k. lacks h (c.1 k), λ n. refuted (λ h. n (c.0 h)))

  -- the accesses of a loop
  pub access_of_loop_lem : {f s d : ℕ} → InLoop P f s → AccessThrough P s d → Is (access_of_loop P f s)
  unfolding access_of_loop
  access_of_loop_lem i a = pair (access_computed P a).0 (same! ((in_loop P).1 i).2)

  pub loop_access :
      {f s : ℕ} → FormedBefore P (suc s) → Is (access_of_loop P f s) → InLoop P f s × AccessThrough P s (operand_definition P s)
  unfolding access_of_loop
  loop_access {f} {s} F h =
      let a = access_through F (both h).0 in
      let t = resolves_started P (access_resolves a).1 in
      (rw (same (both h).1) at (loop_of_lem P s t.0 (omega arith) t.2), a)

  module _ (F : FormedBefore P (statement_count P)) where
    -- access s of the loop of FOR f, through the variable that d defines
    pub record AccessIn (f s d : ℕ) : Type 0 where
      pub inside : s < statement_count P
      pub within : InLoop P f s
      pub through : AccessThrough P s d

    pub access_in : {f s d : ℕ} → s < statement_count P → InLoop P f s → AccessThrough P s d → AccessIn f s d
    access_in l i a = record { inside = l; within = i; through = a }

    pub access_tested : {f s : ℕ} → s < statement_count P → Is (access_of_loop P f s) → AccessIn f s (operand_definition P s)
    access_tested l h = let a = loop_access (λ t m. F t (omega arith)) h in access_in l a.0 a.1

    pub test_access : {f s d : ℕ} → AccessIn f s d → Is (access_of_loop P f s)
    test_access a = access_of_loop_lem a.within a.through

    region_in : {f s d r : ℕ} → AccessIn f s d → (operand_region P s ≡ r) ↔ VariableRegion P d r
    region_in a = access_region (λ t m. F t (omega (arith, a.inside))) a.through

    field_in : {f s d g : ℕ} → AccessIn f s d → (access_field P s ≡ g) ↔ AccessField P s g
    field_in {s = s} a = field_is P s ((accesses_is P s).0 (access_computed P a.through).0)

    -- the target of an access; two accesses of one target
    abbrev target_in : {f s d r g : ℕ} → AccessIn f s d → operand_region P s ≡ r → access_field P s ≡ g → AccessTarget P s r g
    target_in {d = d} a e h = record { definition = d; through = a.through; region = (region_in a).0 e; field = (field_in a).0 h }

    one_target :
        {f s t r g : ℕ} (x : AccessTarget P s r g) (y : AccessTarget P t r g) → AccessIn f s x.definition → AccessIn f t y.definition →
        Is (same_target P s t)
    unfolding same_target
    one_target x y a b =
        pair (same! ((region_in a).1 x.region ∙ sym ((region_in b).1 y.region)))
        (same! ((field_in a).1 x.field ∙ sym ((field_in b).1 y.field)))

    pub uncentered_in : {f s d : ℕ} → AccessIn f s d → Is (uncentered P s) ↔ (Centered P d → ⊥)
    uncentered_in a = access_uncentered (λ t m. F t (omega (arith, a.inside))) a.through

    centered_in : {f s d : ℕ} → AccessIn f s d → Is (centered P (operand_definition P s)) ↔ Centered P d
    centered_in a = access_centered (λ t m. F t (omega (arith, a.inside))) a.through

    module _ {f : ℕ} (h : Is (parallelizable P f)) where
      tests_at :
          {s d : ℕ} → AccessIn f s d →
          Is (non (writes P s and uncentered P s) and every (statement_count P) (λ t. non (access_of_loop P f t) or non (conflicts P s t)))
      unfolding parallelizable
      tests_at {s} a = implied (every_at _ _ h s a.inside) (test_access a)

      conflict_free : {s t d e : ℕ} → AccessIn f s d → AccessIn f t e → Is (conflicts P s t) → ⊥
      conflict_free {t = t} a b = lacks (implied (every_at _ _ (both (tests_at a)).1 t b.inside) (test_access b))

      -- the three conditions
      centered_write : {s d : ℕ} → AccessIn f s d → statement_kind P s ≡ 5 → Centered P d
      unfolding uncentered
      centered_write {s} a e =
          elim (split (centered P (operand_definition P s))) [
            | inl y ↦ (centered_in a).0 y
            | inr n ↦ absurd (lacks (both (tests_at a)).0 (pair ((writes_is P s).1 e) n))
          ]

      lone_reduction :
          {s t d e : ℕ} → AccessIn f s d → AccessIn f t e → statement_kind P s ≡ 6 → (Centered P d → ⊥) → Is (same_target P s t) →
          (statement_kind P t ≡ 6) × (Centered P e → ⊥) × (statement_c P t ≡ statement_c P s)
      unfolding conflicts
      lone_reduction {s} {t} a b k n target =
          elim (split (reduces P t and uncentered P t and statement_c P s =? statement_c P t)) [
            | inl y ↦ ((reduces_is P t).0 (both y).0, (uncentered_in b).0 (both (both y).1).0, sym (same (both (both y).1).1))
            | inr m ↦ absurd (conflict_free a b (pair target (one (inl (pair ((reduces_is P s).1 k) (pair ((uncentered_in a).1 n) m))))))
          ]

      undisturbed_read :
          {s t d e : ℕ} → AccessIn f s d → AccessIn f t e → (statement_kind P s ≡ 1) ⊎ (statement_kind P s ≡ 4) → (Centered P d → ⊥) →
          Is (same_target P s t) → (statement_kind P t ≡ 5) ⊎ (statement_kind P t ≡ 6) → ⊥
      unfolding conflicts
      undisturbed_read {s} {t} a b k n target m =
          conflict_free a b (pair target (one (inr (pair ((reads_is P s).1 k) (pair ((uncentered_in a).1 n) (one (elim m [
            | inl x ↦ inl ((writes_is P t).1 x)
            | inr x ↦ inr ((reduces_is P t).1 x)
          ])))))))

      pub plainly : ParallelizableLoop P f
      plainly =
          record {
            writes_centered = λ s d ls i e a. centered_write (access_in ls i a) e;
            reductions_alone =
                λ s t r g ls lt i j x y k n.
                let a = access_in ls i x.through in let b = access_in lt j y.through in lone_reduction a b k n (one_target x y a b);
            reads_undisturbed =
                λ s t r g ls lt i j x y k n m.
                let a = access_in ls i x.through in let b = access_in lt j y.through in undisturbed_read a b k n (one_target x y a b) m;
          }

    -- two accesses of a parallelizable loop do not conflict
    pub no_conflict : {f s t d e : ℕ} → ParallelizableLoop P f → AccessIn f s d → AccessIn f t e → Is (conflicts P s t) → ⊥
    unfolding conflicts same_target
    no_conflict {f} {s} {t} {d} {e} L a b c = elim (either (both c).1) [ inl h ↦ by_reduction h | inr h ↦ by_read h ]
      where
        target : AccessTarget P s (operand_region P t) (access_field P t)
        target = target_in a (same (both (both c).0).0) (same (both (both c).0).1)

        by_reduction :
            Is (reduces P s and uncentered P s and non (reduces P t and uncentered P t and statement_c P s =? statement_c P t)) → ⊥
        by_reduction h =
            let u = both (both h).1 in
            let n =
            L.reductions_alone s t _ _ a.inside b.inside a.within b.within target (target_in b refl refl)
            ((reduces_is P s).0 (both h).0) ((uncentered_in a).0 u.0) in
            lacks u.1 (pair ((reduces_is P t).1 n.0) (pair ((uncentered_in b).1 n.1) (same! (sym n.2))))

        by_read : Is (reads P s and uncentered P s and (writes P t or reduces P t)) → ⊥
        by_read h =
            let u = both (both h).1 in
            L.reads_undisturbed s t _ _ a.inside b.inside a.within b.within target (target_in b refl refl)
            ((reads_is P s).0 (both h).0) ((uncentered_in a).0 u.0)
            (elim (either u.1) [ inl x ↦ inl ((writes_is P t).0 x) | inr x ↦ inr ((reduces_is P t).0 x) ])
