-- The two readings of needs that are concluded agree, where the statements are formed, the nodes are listed, and the readings of what
-- a step concludes agree.
use Prim.Native.Nat.{ℕ, ◌<◌}
use mathlib.Core.Path.{◌≡◌, sym, ap}
use mathlib.Core.Logic.{◌↔◌}
use mathlib.Core.Bool.{Bool}
use native.Mathlib.Omega.{arith}
use Rattle.model.specs.Tests.{Is, ◌and◌, ◌or◌, non, any}
use Rattle.model.specs.Layout.{Plan, node_count, statement_count, step_count}
use Rattle.model.specs.Statements.{opens, accesses, operand_definition}
use Rattle.model.specs.Lemmas.{concludes_subset, concludes_disjoint, concludes_complete}
use Rattle.model.specs.Needs.{symbol, bound, operand_bound, loop_needs_met, access_need_met}
use Rattle.model.specs.LoopRelations.{AccessThrough, Bound}
use Rattle.model.specs.PlainPlan.{ConcludesSubset, ConcludesDisjoint, ConcludesComplete, NeedsConcluded}
use Rattle.model.proofs.Tests.{both, pair, implied, implies, less, less!, some_of, among}
use Rattle.model.proofs.StatementKinds.{opens_is}
use Rattle.model.proofs.VariablesAgree.{FormedBefore, access_computed}
use Rattle.model.proofs.LoopAccesses.{access_resolves, access_through}
use Rattle.model.proofs.ParallelAgree.{reduces_through_pointer_lem}
use Rattle.model.proofs.SymbolsAgree.{symbol_computed, symbols_before, NodesListed, bound_is}

-- the two readings of what a step concludes agree
pub record ConclusionsAgree (P : Plan) : Type 0 where
  pub subset : (t x y : ℕ) → t < step_count P → Is (concludes_subset P t x y) ↔ ConcludesSubset P t x y
  pub disjoint : (t x : ℕ) → t < step_count P → Is (concludes_disjoint P t x) ↔ ConcludesDisjoint P t x
  pub complete : (t x : ℕ) → t < step_count P → Is (concludes_complete P t x) ↔ ConcludesComplete P t x

-- a search, where the test agrees with a statement
searched : {n : ℕ} {f : ℕ → Bool} {Q : ℕ → Type 0} → ((t : ℕ) → t < n → Is (f t) ↔ Q t) → Is (any n f) ↔ ((t : ℕ) × (t < n) × Q t)
searched a =
    (λ h. let w = some_of h in (w.0, w.1, (a w.0 w.1).0 w.2), λ w. among (w.0, w.1, (a w.0 w.1).1 w.2))

-- both tests of a statement's needs
abbrev pub needs_met : Plan → ℕ → Bool
needs_met P s = (non (opens P s) or loop_needs_met P s) and (non (accesses P s) or access_need_met P s)

module _ (P : Plan) (F : FormedBefore P (statement_count P)) (N : NodesListed P) (C : ConclusionsAgree P) where
  -- the bound of an access's variable
  access_bound : {s d x : ℕ} → s < statement_count P → AccessThrough P s d → (bound P d ≡ x) × (x < node_count P) ↔ Bound P d x
  access_bound {d = d} l a =
      let v = (access_resolves P a).1 in
      bound_is P N {d = d} (omega (arith, v.earlier)) (λ t m. F t (omega (arith, v.earlier)))

  plainly : (s : ℕ) → s < statement_count P → Is (needs_met P s) → NeedsConcluded P s
  unfolding loop_needs_met access_need_met
  plainly s l h =
      record {
        complete = λ k e w.
            let m = implied (both h).0 ((opens_is P s).1 e) in
            rw (symbol_computed P w) at ((searched (λ t. C.complete t _)).0 (both m).0);
        disjoint = λ k e w r.
            let m = implied (both h).0 ((opens_is P s).1 e) in
            let c = implied (both m).1 ((reduces_through_pointer_lem P F s).1 r) in
            rw (symbol_computed P w) at ((searched (λ t. C.disjoint t _)).0 c);
        contained = λ d k a w.
            let t = access_computed P a in
            let m = both (implied (both h).1 t.0) in
            let lt = less m.0 in
            let c = rw (symbol_computed P w) at ((searched (λ t. C.subset t _ _)).0 m.1) in
            let b = (access_bound l a).0 (ap (bound P) (sym t.2), lt) in
            (operand_bound P s, c.0, b, lt, c.1, c.2);
      }

  tested : (s : ℕ) → s < statement_count P → NeedsConcluded P s → Is (needs_met P s)
  unfolding loop_needs_met access_need_met
  tested s l R = pair (implies loop_needs) (implies access_need)
    where
      loop_needs : Is (opens P s) → Is (loop_needs_met P s)
      loop_needs o =
          let e = (opens_is P s).0 o in
          pair ((searched (λ t. C.complete t _)).1 (R.complete (symbol P s) e (symbols_before P s)))
          (implies (λ r. (searched (λ t. C.disjoint t _)).1
          (R.disjoint (symbol P s) e (symbols_before P s) ((reduces_through_pointer_lem P F s).0 r))))

      access_need : Is (accesses P s) → Is (access_need_met P s)
      access_need h =
          let a = access_through P (λ t x. F t (omega arith)) h in
          let w = R.contained (operand_definition P s) (symbol P s) a (symbols_before P s) in
          let b = (access_bound l a).1 w.2 in
          pair (less! (rw b.0 w.3))
          ((searched (λ t. C.subset t _ _)).1 (w.1, w.4, rw b.0 w.5))

  pub needs_concluded : (s : ℕ) → s < statement_count P → Is (needs_met P s) ↔ NeedsConcluded P s
  needs_concluded s l = (plainly s l, tested s l)
