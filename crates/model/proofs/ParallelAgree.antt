-- The two readings of "parallelizable" agree, where all statements are formed: the search for conflicts, and the paper's three
-- conditions. Assumes nothing else.
use Prim.Native.Nat.{ℕ, ◌<◌}
use mathlib.Core.Logic.{◌↔◌}
use Rattle.model.specs.Tests.{Is, ◌and◌}
use Rattle.model.specs.Layout.{Plan, statement_count}
use Rattle.model.specs.Statements.{operand_definition}
use Rattle.model.specs.Parallel.{reduces, uncentered, access_of_loop, parallelizable, reduces_through_pointer}
use Rattle.model.specs.LoopRelations.{ReducesThroughPointer}
use Rattle.model.specs.PlainPlan.{ParallelizableLoop}
use Rattle.model.proofs.Tests.{both, pair, refuted, implies, every_of, some_of, among}
use Rattle.model.proofs.StatementKinds.{writes_is, reduces_is}
use Rattle.model.proofs.VariablesAgree.{FormedBefore}
use Rattle.model.proofs.LoopAccesses.{access_in, access_tested, test_access, uncentered_in, no_conflict, plainly}

module _ (P : Plan) (F : FormedBefore P (statement_count P)) where
  tested : {f : ℕ} → ParallelizableLoop P f → Is (parallelizable P f)
  unfolding parallelizable
  tested {f} L =
      every_of _ _ (λ s ls. implies (λ hs.
      let a = access_tested P F ls hs in
      pair
      (refuted (λ w. (uncentered_in P F a).0 (both w).1 (L.writes_centered s _ ls a.within ((writes_is P s).0 (both w).0) a.through)))
      (every_of _ _ (λ t lt. implies (λ ht. refuted (no_conflict P F L a (access_tested P F lt ht)))))))

  pub loop_parallelizable : (f : ℕ) → Is (parallelizable P f) ↔ ParallelizableLoop P f
  loop_parallelizable f = (plainly P F, tested)

  -- "A loop reduces through a pointer when it has an uncentered REDUCE"
  pub reduces_through_pointer_lem : (f : ℕ) → Is (reduces_through_pointer P f) ↔ ReducesThroughPointer P f
  unfolding reduces_through_pointer
  reduces_through_pointer_lem f = (λ h. go (some_of h), λ r. among (r.statement, r.inside, back r))
    where
      back :
          (r : ReducesThroughPointer P f) →
          Is (access_of_loop P f r.statement and reduces P r.statement and uncentered P r.statement)
      back r =
          let a = access_in P F r.inside r.within r.through in
          pair (test_access P F a) (pair ((reduces_is P r.statement).1 r.reduces) ((uncentered_in P F a).1 r.uncentered))

      go : (s : ℕ) × (s < statement_count P) × Is (access_of_loop P f s and reduces P s and uncentered P s) → ReducesThroughPointer P f
      go (s, l, h) =
          let a = access_tested P F l (both h).0 in
          let u = both (both h).1 in
          record {
            statement = s;
            definition = operand_definition P s;
            inside = l;
            within = a.within;
            reduces = (reduces_is P s).0 u.0;
            through = a.through;
            uncentered = (uncentered_in P F a).0 u.1;
          }
