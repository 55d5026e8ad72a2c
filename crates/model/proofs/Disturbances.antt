-- The claim that no iteration disturbs another can fail: for each of its parts a plan with a loop of which it is false over a data set that
-- fits. Each is refused for that loop and for nothing else. By computation. Assumes nothing.
use Prim.Native.Nat.{ℕ, suc}
use mathlib.Core.Path.{◌≡◌, refl}
use mathlib.Core.Bool.{Bool}
use mathlib.Core.Logic.{inl, inr}
use mathlib.Core.List.{[], ◌∷◌, ◌++◌}
use native.Mathlib.Omega.{arith}
use Rattle.std.specs.Prelude.{Ok}
use Rattle.model.specs.Tests.{Is, ◌and◌, non, ◌=?◌, ◌<?◌}
use Rattle.model.specs.Bytes.{Bytes}
use Rattle.model.specs.Answers.{report, refusal}
use Rattle.model.specs.Outcomes.{◌then◌, Outcome}
use Rattle.model.specs.Encoding.{framed_bytes}
use Rattle.model.specs.Layout.{Plan, plan_of, statement_count, source, statement_kind, statement_a, statement_b}
use Rattle.model.specs.Statements.{operand_definition, operand_region, access_field}
use Rattle.model.specs.LoopRelations.{Resolves, loop_centered}
use Rattle.model.specs.Parallel.{access_of_loop}
use Rattle.model.specs.Needs.{assignment_count_check}
use Rattle.model.specs.Verdict.{statements_check, nodes_check, assignments_check, steps_check, needs_check, verdict}
use Rattle.model.specs.DataSets.{DataSet, data_of, size, entry, data_check}
use Rattle.model.specs.Touches.{Value, itself, called, copied}
use Rattle.model.specs.Undisturbed.{TouchesField, ReducesField, UndisturbedLoop, Undisturbed}
use Rattle.model.proofs.Tests.{both, pair, lacks, same, same!, less}
use Rattle.model.proofs.Computing.{definitions}
use Rattle.model.proofs.FiledPlans.{plan, nodes_a}
use Rattle.model.proofs.StatementKinds.{accesses_is, field_is}
use Rattle.model.proofs.VariablesAgree.{FormedBefore, access_computed}
use Rattle.model.proofs.StatementsAgree.{formed_resolves_a, formed_resolves_b}
use Rattle.model.proofs.LoopAccesses.{access_region, loop_access}
use Rattle.model.proofs.Demand2Loops.{statements_pass, all_formed}
use Rattle.model.proofs.CopiedVariables.{map_uncentered}

-- statements over region 0, map 0 and field 0: FOR; CALL of variable 0; what goes through variable v
abbrev for : Bytes
for = 0 ∷ 0 ∷ 0 ∷ 0 ∷ []

abbrev call : Bytes
call = 2 ∷ 0 ∷ 0 ∷ 0 ∷ []

abbrev load : ℕ → Bytes
load v = 1 ∷ 0 ∷ v ∷ 0 ∷ []

abbrev copy : ℕ → Bytes
copy v = 3 ∷ v ∷ 0 ∷ 0 ∷ []

abbrev read : ℕ → Bytes
read v = 4 ∷ v ∷ 0 ∷ 0 ∷ []

abbrev write : ℕ → Bytes
write v = 5 ∷ v ∷ 0 ∷ 0 ∷ []

abbrev reduce : ℕ → ℕ → Bytes
reduce v operator = 6 ∷ v ∷ 0 ∷ operator ∷ []

-- a plan of one region of one field and a map from it to itself, with one loop: FOR, CALL, which defines variable 1, and the statements; and
-- with nodes for their symbols: 0, equal pieces, for what is centered, and 1, its image, for what is reached through the map
abbrev loop_of : Bytes → Bytes → Bytes
loop_of statements nodes =
    plan (1 ∷ []) (0 ∷ 0 ∷ 1 ∷ []) [] (for ++ call ++ statements) nodes_a (0 ∷ nodes)
    (2 ∷ 0 ∷ 0 ∷ 0 ∷ 0 ∷ 1 ∷ 0 ∷ 0 ∷ 0 ∷ 0 ∷ 5 ∷ 0 ∷ 0 ∷ 0 ∷ 0 ∷ 5 ∷ 1 ∷ 1 ∷ 0 ∷ 0 ∷ [])

-- a data set of two pieces and three elements; the map's entries are 1, 1 and 0
abbrev shared_entry : Bytes
shared_entry = framed_bytes 1 ((2 ∷ []) ∷ (0 ∷ 3 ∷ []) ∷ (0 ∷ 1 ∷ 0 ∷ 1 ∷ 0 ∷ 0 ∷ []) ∷ [] ∷ [])

-- all checks that come after that of the loops
abbrev after_loops : Plan → Outcome
after_loops P = nodes_check P then assignment_count_check P then assignments_check P then steps_check P then needs_check P

-- the plan is refused for the loop of FOR f and for nothing else, and over the data set, which fits, an iteration disturbs another
pub record Disturbed (f : ℕ) (p : Bytes) : Type 0 where
  pub refused : report (verdict p) ≡ refusal 8 f
  pub nothing_else : after_loops (plan_of p) ≡ Ok tt
  pub fits : data_check (plan_of p) shared_entry ≡ Ok tt
  pub disturbed : Undisturbed p shared_entry → ⊥

-- touches of a loop that begins with FOR f and a CALL, from tests that compute
module _ (P : Plan) (D : DataSet) (f : ℕ) (statements : statements_check P ≡ Ok tt) where
  formed : FormedBefore P (statement_count P)
  formed = all_formed P ((statements_pass P).0 statements)

  -- in iteration k the CALL gives element e
  abbrev leads_to : ℕ → ℕ → Bool
  leads_to k e =
      suc f <? statement_count P and statement_kind P f =? 0 and statement_kind P (suc f) =? 2 and operand_definition P (suc f) =? f
      and k <? size D (source P (statement_a P (suc f))) and entry P D (statement_a P (suc f)) k =? e and non (e =? 65535)

  pointer : {k e : ℕ} → Is (leads_to k e) → Value P D (suc f) k e
  pointer h =
      let (inside, h) = both h in
      let (for, h) = both h in
      let (call, h) = both h in
      let (loop, h) = both h in
      let (from, h) = both h in
      let (is, some) = both h in
      let resolves : Resolves P (suc f) (statement_b P (suc f)) f =
      rw (same loop) at (formed_resolves_b P {s = suc f} (λ t l. formed t (omega (arith, less inside))) (inr (same call))) in
      called (same call) resolves (itself (same for))
      (record { from = less from; entry_is = same is; some = λ n. lacks some (same! n) })

  -- a COPY, right behind the CALL, of what it gives
  abbrev copies : Bool
  copies = suc (suc f) <? statement_count P and statement_kind P (suc (suc f)) =? 3 and operand_definition P (suc (suc f)) =? suc f

  copied_pointer : {k e : ℕ} → Is (copies and leads_to k e) → Value P D (suc (suc f)) k e
  copied_pointer h =
      let (copy, h) = both h in
      let (inside, copy) = both copy in
      let (kind, from) = both copy in
      let resolves : Resolves P (suc (suc f)) (statement_a P (suc (suc f))) (suc f) =
      rw (same from) at (formed_resolves_a P {s = suc (suc f)} (λ t l. formed t (omega (arith, less inside))) (omega (arith, same kind)) (omega (arith, same kind))) in
      copied {s = suc (suc f)} (omega (arith, same kind)) resolves (pointer h)

  -- statement s accesses field 0 of region 0 through the variable that d defines, in iteration k
  abbrev accesses_by : ℕ → ℕ → ℕ → Bool
  accesses_by s d k =
      s <? statement_count P and access_of_loop P f s and operand_definition P s =? d and operand_region P s =? 0 and access_field P s =? 0
      and k <? size D (statement_a P f)

  abbrev touching : {s d k e : ℕ} → Is (accesses_by s d k) → Value P D d k e → TouchesField P D f s k 0 e 0
  touching {s} {d} h value =
      let (inside, h) = both h in
      let (here, h) = both h in
      let (definition, h) = both h in
      let (region, h) = both h in
      let (field, iteration) = both h in
      let before : FormedBefore P (suc s) = λ t l. formed t (omega (arith, less inside)) in
      let (within, through) = loop_access P before here in
      record {
        inside = omega (arith, less inside);
        within = within;
        iteration = omega (arith, less iteration);
        touch = (d, rw (same definition) at through, value);
        region = rw (same definition) at ((access_region P (λ t l. before t (omega arith)) through).0 (same region));
        field = (field_is P s ((accesses_is P s).0 (access_computed P through).0)).0 (same field);
      }

  -- in iteration k access s touches the iteration's own element, or element e by what the CALL gives
  abbrev near : {s k : ℕ} → Is (accesses_by s f k and statement_kind P f =? 0) → TouchesField P D f s k 0 k 0
  near h = touching (both h).0 (itself (same (both h).1))

  abbrev far : {s k e : ℕ} → Is (accesses_by s (suc f) k and leads_to k e) → TouchesField P D f s k 0 e 0
  far h = touching (both h).0 (pointer (both h).1)

  -- and reduces it by that
  abbrev reducing : {s k e : ℕ} → Is (accesses_by s (suc f) k and leads_to k e and statement_kind P s =? 6) → ReducesField P D f s k 0 e 0
  reducing h =
      let (access, h) = both h in
      let (leads, reduces) = both h in
      record { touched = far (pair access leads); reduces = same reduces; uncentered = map_uncentered P (inr (same (both (both (both leads).1).1).0)) }

-- two numbers that differ are not the same
differ : {a b : ℕ} → Is (non (a =? b)) → a ≡ b → ⊥
differ h e = lacks h (same! e)

-- for each part of the claim a plan
pub record Disturbances : Type 0 where
  -- iterations 0 and 1 write element 1; the same through a COPY; the same in a second loop
  pub uncentered_write : Disturbed 0 (loop_of (write 1) (1 ∷ []))
  pub write_through_copy : Disturbed 0 (loop_of (copy 1 ++ write 2) (1 ∷ []))
  pub write_in_second_loop : Disturbed 3 (loop_of (read 0 ++ for ++ call ++ write 1) (0 ∷ 0 ∷ 1 ∷ []))
  -- iteration 1 writes element 1, which iteration 0 reduces through the map: what 001 forgets
  pub write_beside_reduction : Disturbed 0 (loop_of (write 0 ++ reduce 1 0) (0 ∷ 1 ∷ []))
  -- iteration 0 writes element 0, which iteration 2 reads through the map; and which it loads from
  pub read_beside_write : Disturbed 0 (loop_of (read 1 ++ write 0) (1 ∷ 0 ∷ []))
  pub load_beside_write : Disturbed 0 (loop_of (load 1 ++ write 0) (1 ∷ 0 ∷ []))
  -- iteration 1 reduces element 1 through its own variable, and iteration 0 reads it through the map
  pub read_beside_centered_reduction : Disturbed 0 (loop_of (read 1 ++ reduce 0 0) (1 ∷ 0 ∷ []))
  -- iterations 0 and 1 reduce element 1 through the map: by two operators
  pub two_operators : Disturbed 0 (loop_of (reduce 1 0 ++ reduce 1 1) (1 ∷ 1 ∷ []))
  -- iteration 1 reads it; loads from it; reduces it through its own variable, by the same operator
  pub reduction_beside_read : Disturbed 0 (loop_of (reduce 1 0 ++ read 0) (1 ∷ 0 ∷ []))
  pub reduction_beside_load : Disturbed 0 (loop_of (reduce 1 0 ++ load 0) (1 ∷ 0 ∷ []))
  pub reduction_beside_centered_reduction : Disturbed 0 (loop_of (reduce 1 0 ++ reduce 0 0) (1 ∷ 0 ∷ []))

disturbance :
    {f : ℕ} {p : Bytes} → report (verdict p) ≡ refusal 8 f → after_loops (plan_of p) ≡ Ok tt → data_check (plan_of p) shared_entry ≡ Ok tt →
    Is (f <? statement_count (plan_of p) and statement_kind (plan_of p) f =? 0) → statements_check (plan_of p) ≡ Ok tt →
    (statements_check (plan_of p) ≡ Ok tt → UndisturbedLoop (plan_of p) (data_of shared_entry) f → ⊥) → Disturbed f p
disturbance {f} refused nothing_else fits loop statements false =
    record {
      refused = refused;
      nothing_else = nothing_else;
      fits = fits;
      disturbed = λ U. false statements (U f (omega (arith, less (both loop).0)) (same (both loop).1));
    }

pub disturbances : Disturbances
unfolding definitions
disturbances =
    record {
      uncentered_write =
          disturbance refl refl refl refl refl (λ S L. differ refl (L.alone 2 2 0 1 0 1 0 (far _ _ 0 S refl) (far _ _ 0 S refl) (inl refl)));
      write_through_copy =
          disturbance refl refl refl refl refl
          (λ S L. differ refl (L.alone 3 3 0 1 0 1 0
          (touching _ _ 0 S refl (copied_pointer _ _ 0 S refl)) (touching _ _ 0 S refl (copied_pointer _ _ 0 S refl)) (inl refl)));
      write_in_second_loop =
          disturbance refl refl refl refl refl (λ S L. differ refl (L.alone 5 5 0 1 0 1 0 (far _ _ 3 S refl) (far _ _ 3 S refl) (inl refl)));
      write_beside_reduction =
          disturbance refl refl refl refl refl (λ S L. differ refl (L.alone 2 3 1 0 0 1 0 (near _ _ 0 S refl) (far _ _ 0 S refl) (inl refl)));
      read_beside_write =
          disturbance refl refl refl refl refl (λ S L. differ refl (L.alone 3 2 0 2 0 0 0 (near _ _ 0 S refl) (far _ _ 0 S refl) (inl refl)));
      load_beside_write =
          disturbance refl refl refl refl refl (λ S L. differ refl (L.alone 3 2 0 2 0 0 0 (near _ _ 0 S refl) (far _ _ 0 S refl) (inl refl)));
      read_beside_centered_reduction =
          disturbance refl refl refl refl refl
          (λ S L. differ refl (L.alone 3 2 1 0 0 1 0 (near _ _ 0 S refl) (far _ _ 0 S refl) (inr (refl, loop_centered refl))));
      two_operators =
          disturbance refl refl refl refl refl (λ S L. differ refl (L.one_operator 2 3 0 1 0 1 0 (reducing _ _ 0 S refl) (far _ _ 0 S refl)).2);
      reduction_beside_read =
          disturbance refl refl refl refl refl (λ S L. differ refl (L.one_operator 2 3 0 1 0 1 0 (reducing _ _ 0 S refl) (near _ _ 0 S refl)).0);
      reduction_beside_load =
          disturbance refl refl refl refl refl (λ S L. differ refl (L.one_operator 2 3 0 1 0 1 0 (reducing _ _ 0 S refl) (near _ _ 0 S refl)).0);
      reduction_beside_centered_reduction =
          disturbance refl refl refl refl refl
          (λ S L. (L.one_operator 2 3 0 1 0 1 0 (reducing _ _ 0 S refl) (near _ _ 0 S refl)).1 (loop_centered refl));
    }
