-- Over a data set in which every pointer leads to the first element, a loop that is plainly undisturbed keeps the three conditions of a
-- parallelizable loop. Assumes nothing.
use Prim.Native.Nat.{ℕ, zero, suc, ◌<◌, ◌≤◌}
use mathlib.Core.Path.{◌≡◌, refl}
use mathlib.Core.Logic.{◌⊎◌, inl, inr}
use native.Mathlib.Omega.{arith}
use Rattle.model.specs.Layout.{Plan, map_count, statement_count, source, statement_kind, statement_a, statement_c}
use Rattle.model.specs.Statements.{kind_of, operand_region, access_field, statement_formed_by}
use Rattle.model.specs.LoopRelations.{InLoop, Resolves, Centered, loop_centered, AccessThrough, AccessField, of_load, of_read, of_write, of_reduce, AccessTarget}
use Rattle.model.specs.PlainPlan.{StatementFormed, for_formed, load_formed, call_formed, copy_formed, read_or_write_formed, reduce_formed, ParallelizableLoop}
use Rattle.model.specs.DataSets.{DataSet, size}
use Rattle.model.specs.PlainData.{PointsTo}
use Rattle.model.specs.Touches.{Value, itself, loaded, called, copied}
use Rattle.model.specs.Undisturbed.{TouchesField, ReducesField, PlainlyUndisturbedLoop}
use Rattle.model.proofs.Tests.{both, less}
use Rattle.model.proofs.StatementKinds.{accesses_is, field_is}
use Rattle.model.proofs.LoopsAgree.{variable_kind}
use Rattle.model.proofs.VariablesAgree.{kind_at, formed_at, access_computed}
use Rattle.model.proofs.LoopAccesses.{access_resolves, access_region}
use Rattle.model.proofs.Demand2Loops.{StatementsRead, all_formed}
use Rattle.model.proofs.CopiedVariables.{map_uncentered, copy_is_centered, copied_centered}
use Rattle.model.proofs.AllToFirst.{RegionsListed, AllToFirst}

-- what variables and accesses reach over such a data set
module _ (P : Plan) (R : RegionsListed P) (S : StatementsRead P) (D : DataSet) (A : AllToFirst P D) where
  -- a variable in iterations 0 and 1: the iteration's own element where it is centered, element 0 where it is not
  abbrev Reaching : ℕ → Type 0
  Reaching d = (Centered P d × ((k : ℕ) → Value P D d k k)) ⊎ ((Centered P d → ⊥) × ((k : ℕ) → k < 2 → Value P D d k 0))

  leads : {m k : ℕ} → m < map_count P → k < 2 → PointsTo P D m k 0
  leads {m} {k} lm lk =
      record { from = omega (arith, A.two_elements (source P m) (R.sources m lm)); entry_is = A.first_entry m k lm lk; some = omega arith }

  -- some element below 2 in iteration k, which an entry leads from to element 0
  follow :
      {c m k : ℕ} → Reaching c → m < map_count P → k < 2 → (d : ℕ) × Value P D c k d × PointsTo P D m d 0
  follow {m = m} {k = k} (inl near) lm lk = (k, near.1 k, leads lm lk)
  follow {m = m} {k = k} (inr far) lm lk = (0, far.1 k lk, leads lm (omega arith))

  reaches : (n d : ℕ) → d < n → d < statement_count P → statement_kind P d ≤ 3 → Reaching d
  reaches zero d lt ld h = absurd (omega arith)
  reaches (suc n) d lt ld h = go (S d ld).0 (λ v c w. reaches n c (omega (arith, w.earlier)) (omega (arith, w.earlier)) (variable_kind P w.variable))
    where
      go : StatementFormed P d → ((v c : ℕ) → Resolves P d v c → Reaching c) → Reaching d
      go (for_formed e a b c) earlier = inl (loop_centered e, λ k. itself e)
      go (load_formed e a w m q g) earlier =
          inr (map_uncentered P (inl e), λ k lk. let (x, v, p) = follow (earlier _ _ w) a lk in loaded e w v p)
      go (call_formed e a w m c) earlier =
          inr (map_uncentered P (inr e), λ k lk. let (x, v, p) = follow (earlier _ _ w) a lk in called e w v p)
      go (copy_formed e w m b c) earlier =
          elim (earlier _ _ w) [
            | inl near ↦ inl (copy_is_centered P e w near.0, λ k. copied {s = d} (omega arith) w (near.1 k))
            | inr far ↦ inr (λ x. far.0 (copied_centered P e w x), λ k lk. copied {s = d} (omega arith) w (far.1 k lk))
          ]
      go (read_or_write_formed (inl e) w q g c) earlier = absurd (omega arith)
      go (read_or_write_formed (inr e) w q g c) earlier = absurd (omega arith)
      go (reduce_formed e w q g c) earlier = absurd (omega arith)

  -- the variable of an access
  access_reaches : {s d : ℕ} → s < statement_count P → AccessThrough P s d → Reaching d
  access_reaches {d = d} ls a =
      let w = (access_resolves P a).1 in
      reaches (suc d) d (omega arith) (omega (arith, w.earlier)) (variable_kind P w.variable)

  -- what it accesses
  target_of : {s d : ℕ} → s < statement_count P → AccessThrough P s d → AccessTarget P s (operand_region P s) (access_field P s)
  target_of {s} {d} ls a =
      record {
        definition = d;
        through = a;
        region = (access_region P (λ t l. all_formed P S t (omega arith)) a).0 refl;
        field = (field_is P s ((accesses_is P s).0 (access_computed P a).0)).0 refl;
      }

  module _ {f : ℕ} (lf : f < statement_count P) (for : statement_kind P f ≡ 0) where
    -- a loop over two elements
    two_iterations : size D (statement_a P f) ≡ 2
    unfolding statement_formed_by kind_of
    two_iterations =
        A.two_elements (statement_a P f) (less (both (rw (formed_at P f (kind_at P f 0 for)) at (all_formed P S f lf))).0)

    -- an access of the loop, where its variable has a value
    module _ {s r g : ℕ} (ls : s < statement_count P) (i : InLoop P f s) (x : AccessTarget P s r g) where
      abbrev touching : {k e : ℕ} → k < 2 → Value P D x.definition k e → TouchesField P D f s k r e g
      touching lk v =
          record {
            inside = omega arith;
            within = i;
            iteration = omega (arith, two_iterations);
            touch = (x.definition, x.through, v);
            region = x.region;
            field = x.field;
          }

      -- in iteration 0 it touches element 0; through a pointer it does so in iteration 1 too
      abbrev touches_first : TouchesField P D f s 0 r 0 g
      touches_first = touching (omega arith) (elim (access_reaches ls x.through) [ inl near ↦ near.1 0 | inr far ↦ far.1 0 (omega arith) ])

      abbrev touches_again : (Centered P x.definition → ⊥) → TouchesField P D f s 1 r 0 g
      touches_again n =
          touching (omega arith) (elim (access_reaches ls x.through) [ inl near ↦ absurd (n near.0) | inr far ↦ far.1 1 (omega arith) ])

      -- an uncentered REDUCE in both iterations
      abbrev reduces_first : statement_kind P s ≡ 6 → (Centered P x.definition → ⊥) → ReducesField P D f s 0 r 0 g
      reduces_first e n = record { touched = touches_first; reduces = e; uncentered = n }

      abbrev reduces_again : statement_kind P s ≡ 6 → (Centered P x.definition → ⊥) → ReducesField P D f s 1 r 0 g
      reduces_again e n = record { touched = touches_again n; reduces = e; uncentered = n }

    -- plainly undisturbed, the loop keeps the three conditions
    module _ (U : PlainlyUndisturbedLoop P D f) where
      -- two iterations, 0 and 1, that are one
      one_iteration : {A : Type 0} → ◌≡◌ {A = ℕ} 0 1 → A
      one_iteration e = absurd (omega arith)

      write_centered : {s d : ℕ} → s < statement_count P → InLoop P f s → statement_kind P s ≡ 5 → AccessThrough P s d → Centered P d
      unfolding target_of
      write_centered {s} {d} ls i e a =
          elim (access_reaches ls a) [
            | inl near ↦ near.0
            | inr far ↦
                let x = target_of ls a in
                one_iteration (U.alone s s 0 1 _ 0 _ (touches_first ls i x) (touches_again ls i x far.0) (inl e))
          ]

      module _
          {s t r g : ℕ} (ls : s < statement_count P) (lt : t < statement_count P) (i : InLoop P f s) (j : InLoop P f t)
          (x : AccessTarget P s r g) (y : AccessTarget P t r g) (n : Centered P x.definition → ⊥)
        where
          -- beside an access through a pointer nothing is written or reduced through a centered variable
          not_written : statement_kind P t ≡ 5 → ⊥
          not_written e = one_iteration (U.alone t s 0 1 r 0 g (touches_first lt j y) (touches_again ls i x n) (inl e))

          not_reduced : statement_kind P t ≡ 6 → Centered P y.definition → ⊥
          not_reduced e c = one_iteration (U.alone t s 0 1 r 0 g (touches_first lt j y) (touches_again ls i x n) (inr (e, c)))

          -- and beside a REDUCE through a pointer nothing is read
          not_read : statement_kind P s ≡ 6 → (statement_kind P t ≡ 1) ⊎ (statement_kind P t ≡ 4) → ⊥
          not_read e =
              U.none_reads s s t 0 1 0 r 0 g (reduces_first ls i x e n) (reduces_again ls i x e n) (omega arith) (touches_first lt j y)

          reduction_alone :
              statement_kind P s ≡ 6 → AccessField P t g →
              (statement_kind P t ≡ 6) × (Centered P y.definition → ⊥) × (statement_c P t ≡ statement_c P s)
          reduction_alone e (of_load h q) = absurd (not_read e (inl h))
          reduction_alone e (of_read h q) = absurd (not_read e (inr h))
          reduction_alone e (of_write h q) = absurd (not_written h)
          reduction_alone e (of_reduce h q) =
              let through = not_reduced h in
              (h, through, U.one_operator s t 0 1 r 0 g (reduces_first ls i x e n) (reduces_again lt j y h through) (omega arith))

      pub keeps_conditions : ParallelizableLoop P f
      keeps_conditions =
          record {
            writes_centered = λ s d. write_centered;
            reductions_alone = λ s t r g ls lt i j x y e n. reduction_alone ls lt i j x y n e y.field;
            reads_undisturbed = λ s t r g ls lt i j x y h n m. elim m [
              | inl e ↦ not_written ls lt i j x y n e
              | inr e ↦
                  elim (access_reaches lt y.through) [
                    | inl near ↦ not_reduced ls lt i j x y n e near.0
                    | inr far ↦ not_read lt ls j i y x far.0 e h
                  ]
            ];
          }
