-- The three conditions of a parallelizable loop, over any relation between accesses of one target: over accesses of one region and field
-- they are the rule. Assumes nothing.
use Prim.Native.Nat.{ℕ, ◌<◌}
use mathlib.Core.Path.{◌≡◌, sym, subst, ◌∙◌}
use mathlib.Core.Logic.{◌⊎◌, ◌↔◌}
use Rattle.model.specs.Layout.{Plan, statement_count, statement_kind, statement_c}
use Rattle.model.specs.LoopRelations.{InLoop, Centered, AccessThrough, AccessTarget}
use Rattle.model.specs.PlainPlan.{ParallelizableLoop}
use Rattle.model.proofs.VariablesAgree.{access_computed}

module _ (P : Plan) where
  -- the three conditions of a parallelizable loop, over any relation between accesses of one target
  pub record ParallelizableBy (Same : ℕ → ℕ → Type 0) (f : ℕ) : Type 0 where
    pub writes_centered :
        (s d : ℕ) → s < statement_count P → InLoop P f s → statement_kind P s ≡ 5 → AccessThrough P s d → Centered P d
    pub reductions_alone :
        (s t d e : ℕ) → s < statement_count P → t < statement_count P → InLoop P f s → InLoop P f t → Same s t →
        AccessThrough P s d → AccessThrough P t e → statement_kind P s ≡ 6 → (Centered P d → ⊥) →
        (statement_kind P t ≡ 6) × (Centered P e → ⊥) × (statement_c P t ≡ statement_c P s)
    pub reads_undisturbed :
        (s t d : ℕ) → s < statement_count P → t < statement_count P → InLoop P f s → InLoop P f t → Same s t →
        AccessThrough P s d → (statement_kind P s ≡ 1) ⊎ (statement_kind P s ≡ 4) → (Centered P d → ⊥) →
        (statement_kind P t ≡ 5) ⊎ (statement_kind P t ≡ 6) → ⊥

  -- a finer relation asks less
  pub finer :
      {Coarse Fine : ℕ → ℕ → Type 0} → ((s t : ℕ) → Fine s t → Coarse s t) → {f : ℕ} → ParallelizableBy Coarse f → ParallelizableBy Fine f
  finer c L =
      record {
        writes_centered = L.writes_centered;
        reductions_alone = λ s t d e ls lt i j w. L.reductions_alone s t d e ls lt i j (c s t w);
        reads_undisturbed = λ s t d ls lt i j w. L.reads_undisturbed s t d ls lt i j (c s t w);
      }

  -- two accesses of one region and field
  abbrev pub SameTarget : ℕ → ℕ → Type 0
  SameTarget s t = (r g : ℕ) × AccessTarget P s r g × AccessTarget P t r g

  -- an access goes through one variable
  uncentered_as : {s c d : ℕ} → AccessThrough P s c → AccessThrough P s d → (Centered P c → ⊥) → Centered P d → ⊥
  uncentered_as a b = subst (λ v. Centered P v → ⊥) (sym (access_computed P a).2 ∙ (access_computed P b).2)

  -- the rule over accesses of one region and field is the rule
  pub by_target : (f : ℕ) → ParallelizableBy SameTarget f ↔ ParallelizableLoop P f
  by_target f = (to, from)
    where
      to : ParallelizableBy SameTarget f → ParallelizableLoop P f
      to L =
          record {
            writes_centered = L.writes_centered;
            reductions_alone =
                λ s t r g ls lt i j x y k n. L.reductions_alone s t _ _ ls lt i j (r, g, x, y) x.through y.through k n;
            reads_undisturbed = λ s t r g ls lt i j x y k n. L.reads_undisturbed s t _ ls lt i j (r, g, x, y) x.through k n;
          }

      from : ParallelizableLoop P f → ParallelizableBy SameTarget f
      from L =
          record {
            writes_centered = L.writes_centered;
            reductions_alone = λ s t d e ls lt i j w a b k n.
                let u = L.reductions_alone s t _ _ ls lt i j w.2 w.3 k (uncentered_as a w.2.through n) in
                (u.0, uncentered_as w.3.through b u.1, u.2);
            reads_undisturbed = λ s t d ls lt i j w a k n.
                L.reads_undisturbed s t _ _ ls lt i j w.2 w.3 k (uncentered_as a w.2.through n);
          }
