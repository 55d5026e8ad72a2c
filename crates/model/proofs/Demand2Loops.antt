-- Sections 4 and 6, the loops and the needs as wholes: their checks pass exactly where the plain statements hold, and a refusal holds
-- as the table says. Each asks of the sections before it what the plain statements say of them.
use Prim.Native.Nat.{ℕ, suc, ◌<◌}
use mathlib.Core.Path.{◌≡◌, refl, sym, ◌∙◌}
use mathlib.Core.Logic.Iff
use mathlib.Core.Logic.{inl, inr, ◌↔◌}
use mathlib.Core.Bool.{Bool}
use native.Mathlib.Omega.{arith}
use Rattle.std.specs.Prelude.{Ok, Err}
use Rattle.model.specs.Tests.{Is, non, ◌or◌, ◌<?◌, ◌=?◌}
use Rattle.model.specs.Bytes.{Bytes}
use Rattle.model.specs.Outcomes.{require, ◌then◌}
use Rattle.model.specs.Layout.{Plan, plan_of, statement_count, node_count, assignment_count, step_count, statement_kind, node_kind, node_a, node_b, node_unused, assigned}
use Rattle.model.specs.Statements.{opens, statement_formed, statement_agrees, statement_check}
use Rattle.model.specs.Parallel.{parallelizable, loop_check}
use Rattle.model.specs.Nodes.{node_region}
use Rattle.model.specs.Needs.{has_symbol, symbol, symbol_node, symbol_region, assignment_count_check, assignment_check, need_check}
use Rattle.model.specs.LoopRelations.{HasSymbol, SymbolsBefore, SymbolRegion, NodeRegion}
use Rattle.model.specs.PlainPlan.{StatementFormed, StatementAgrees, ParallelizableLoop, NodeFormed, supplied_formed, equal_formed, operands_formed, map_formed, SameNode, StepFormed, NeedsConcluded}
use Rattle.model.specs.GivenWhen.{RecordInvalid, RegionsDisagree, invalid_record, region_mismatch, not_parallelizable, assignment_count_lem, unmet_need}
use Rattle.model.specs.Verdict.{statements_check, loops_check, assignments_check, needs_check}
use Rattle.model.specs.declared.Refusal.{Refusal}
use Rattle.model.specs.declared.Refusal.TheVariants.{NotParallelizable}
use Rattle.model.proofs.Tests.{pair, one, lacks, split, implied, implies, same, same!, less, less! }
use Rattle.model.proofs.Outcomes.{scan_agrees, then_pass, passes_then, then_cases, require_pass, required, require_refuse, scan_pass, passes_scan, scan_refuse}
use Rattle.model.proofs.NodesAgree.{region_is, node_region_lem, operand_earlier}
use Rattle.model.proofs.StepsAgree.{concludes_subset_lem, concludes_disjoint_lem, concludes_complete_lem}
use Rattle.model.proofs.LayoutAgrees.{PlanGiven}
use Rattle.model.proofs.RecordsAgree.{NodesRead}
use Rattle.model.proofs.StatementKinds.{opens_is}
use Rattle.model.proofs.VariablesAgree.{FormedBefore}
use Rattle.model.proofs.StatementsAgree.{formed_computed, formed_next, statement_formed_lem, statement_agrees_lem}
use Rattle.model.proofs.ParallelAgree.{loop_parallelizable}
use Rattle.model.proofs.SymbolsAgree.{has_symbol_lem, symbol_is, symbols_before, symbol_computed, symbol_region_lem, NodesListed}
use Rattle.model.proofs.NeedsAgree.{ConclusionsAgree, needs_met, needs_concluded}

-- one test, and two, that must pass
passes_one : (a : Bool) (q : Refusal) → (require a q ≡ Ok tt) ↔ Is a
passes_one a q = (require_pass a q, required a q)

passes_two : (a b : Bool) (q r : Refusal) → (require a q then require b r ≡ Ok tt) ↔ (Is a × Is b)
passes_two a b q r = (
  λ h. let t = then_pass _ _ h in (require_pass _ _ t.0, require_pass _ _ t.1),
  λ w. passes_then (required _ _ w.0) (required _ _ w.1),
)

-- an implication that fails
pub not_implied : {a b : Bool} → Is (non (non a or b)) → Is a × (Is b → ⊥)
not_implied {a} h =
    elim (split a) [ inl y ↦ (y, λ k. lacks h (one (inr k))) | inr n ↦ absurd (lacks h (one (inl n))) ]

module _ (P : Plan) where
  pub statement_passes : (s : ℕ) → (statement_check P s ≡ Ok tt) ↔ (Is (statement_formed P s) × Is (statement_agrees P s))
  unfolding statement_check
  statement_passes s = passes_two _ _ _ _

  loop_passes : (f : ℕ) → (loop_check P f ≡ Ok tt) ↔ Is (non (opens P f) or parallelizable P f)
  unfolding loop_check
  loop_passes f = passes_one _ _

  assignment_passes :
      (s : ℕ) → (assignment_check P s ≡ Ok tt) ↔
      (Is (non (has_symbol P s) or symbol_node P s <? node_count P)
      × Is (non (has_symbol P s) or node_region P (symbol_node P s) =? symbol_region P s))
  unfolding assignment_check
  assignment_passes s = passes_two _ _ _ _

  need_passes : (s : ℕ) → (need_check P s ≡ Ok tt) ↔ Is (needs_met P s)
  unfolding need_check
  need_passes s = passes_one _ _

  -- section 4 reads by the layout
  abbrev pub StatementsRead : Type 0
  StatementsRead = (s : ℕ) → s < statement_count P → StatementFormed P s × StatementAgrees P s

  pub all_formed : StatementsRead → FormedBefore P (statement_count P)
  all_formed R s lt = formed_computed P (R s lt).0

  pub statements_pass : (statements_check P ≡ Ok tt) ↔ StatementsRead
  statements_pass = (plainly, tested)
    where
      plainly : statements_check P ≡ Ok tt → StatementsRead
      plainly h s lt =
          let F : FormedBefore P (statement_count P) = λ t l. ((statement_passes t).0 (scan_pass _ _ h t l)).0 in (
            (statement_formed_lem P s (λ t l. F t (omega arith))).0 (F s lt),
            (statement_agrees_lem P s (λ t l. F t (omega arith))).0 ((statement_passes s).0 (scan_pass _ _ h s lt)).1,
          )

      tested : StatementsRead → statements_check P ≡ Ok tt
      tested R =
          passes_scan _ _ (λ s lt.
          (statement_passes s).1 (all_formed R s lt, (statement_agrees_lem P s (λ t l. all_formed R t (omega arith))).1 (R s lt).1))

  -- demand 2: its loops are parallelizable
  abbrev pub LoopsParallelizable : Type 0
  LoopsParallelizable = (f : ℕ) → f < statement_count P → statement_kind P f ≡ 0 → ParallelizableLoop P f

  pub loops_pass : StatementsRead → (loops_check P ≡ Ok tt) ↔ LoopsParallelizable
  loops_pass R =
      scan_agrees (loop_check P) (λ f. statement_kind P f ≡ 0 → ParallelizableLoop P f) (statement_count P) (λ f lt. (
        λ h e. (loop_parallelizable P (all_formed R) f).0 (implied ((loop_passes f).0 h) ((opens_is P f).1 e)),
        λ p. (loop_passes f).1 (implies (λ o. (loop_parallelizable P (all_formed R) f).1 (p ((opens_is P f).0 o)))),
      ))

  -- section 6: "assignments .. one per symbol", each "a node of its region"
  pub assignment_count_passes : (assignment_count_check P ≡ Ok tt) ↔ SymbolsBefore P (statement_count P) (assignment_count P)
  unfolding assignment_count_check
  assignment_count_passes =
      (λ h. (symbol_is P).0 (sym (same (require_pass _ _ h))), λ w. required _ _ (same! (sym (symbol_computed P w))))

  abbrev pub Assigned : ℕ → ℕ → Type 0
  Assigned s j = (j < node_count P) × ((r : ℕ) → SymbolRegion P s r → NodeRegion P j r)

  abbrev pub AssignmentsRead : Type 0
  AssignmentsRead =
      (s k : ℕ) → s < statement_count P → HasSymbol P s → SymbolsBefore P s k → Assigned s (assigned P k)

  upto : StatementsRead → {s : ℕ} → s < statement_count P → FormedBefore P (suc s)
  upto R l t m = all_formed R t (omega arith)

  -- a record of section 6 that passed
  pub assignment_read :
      StatementsRead → NodesRead P → (s : ℕ) → s < statement_count P → HasSymbol P s → assignment_check P s ≡ Ok tt → Assigned s (symbol_node P s)
  assignment_read R N s lt y h =
      let t = (assignment_passes s).0 h in
      let l = less (implied t.0 ((has_symbol_lem P s).1 y)) in (
        l,
        λ r q. (node_region_lem P (symbol_node P s) r (λ i le. (N.each i (omega arith)).0)).0
            (same (implied t.1 ((has_symbol_lem P s).1 y)) ∙ (symbol_region_lem P (upto R lt) y).1 q),
      )

  pub assignments_pass : StatementsRead → NodesRead P → (assignments_check P ≡ Ok tt) ↔ AssignmentsRead
  assignments_pass R N = (plainly, tested)
    where
      plainly : assignments_check P ≡ Ok tt → AssignmentsRead
      plainly h s k lt y w = rw (symbol_computed P w) at (assignment_read R N s lt y (scan_pass _ _ h s lt))

      tested : AssignmentsRead → assignments_check P ≡ Ok tt
      tested A =
          passes_scan _ _ (λ s lt. (assignment_passes s).1 (
            implies (λ y. less! (A s (symbol P s) lt ((has_symbol_lem P s).0 y) (symbols_before P s)).0),
            implies (λ y.
                let z = (has_symbol_lem P s).0 y in
                let q = (symbol_region_lem P (upto R lt) z).0 refl in
                same! (region_is P ((A s (symbol P s) lt z (symbols_before P s)).1 (symbol_region P s) q))),
          ))

  -- what bounds and needs ask of nodes and steps
  unused_zero : {j : ℕ} → NodeFormed P j → node_unused P j ≡ 0
  unused_zero (supplied_formed e a b u) = u
  unused_zero (equal_formed e a b u) = u
  unused_zero (operands_formed l h a b u) = u
  unused_zero (map_formed m a b u) = u

  nodes_listed : NodesRead P → AssignmentsRead → NodesListed P
  nodes_listed N A =
      record {
        loops = λ s lt e. (A s (symbol P s) lt (inl e) (symbols_before P s)).0;
        operands = λ x lt e. let o = operand_earlier P x (N.each x lt).0 (omega arith) in omega arith;
        images = λ x y lx ly kx ky a b.
            let before : ¬ (x < y) = λ l. N.differ y x ly l (same_node_lem x y lx ly kx ky a b) in
            let after : ¬ (y < x) = λ l. N.differ x y lx l (same_node_lem y x ly lx ky kx (sym a) (sym b)) in
            omega arith;
      }
    where
      same_node_lem :
          (x y : ℕ) → x < node_count P → y < node_count P → node_kind P x ≡ 5 → node_kind P y ≡ 5 → node_a P x ≡ node_a P y →
          node_b P x ≡ node_b P y → SameNode P x y
      same_node_lem x y lx ly kx ky a b =
          let u = unused_zero (N.each x lx).0 ∙ sym (unused_zero (N.each y ly).0) in
          record { kind = kx ∙ sym ky; a = a; b = b; unused = u }

  conclusions_agree : ((t : ℕ) → t < step_count P → StepFormed P t) → ConclusionsAgree P
  conclusions_agree T =
      record {
        subset = λ t x y lt. concludes_subset_lem P t (T t lt).known x y;
        disjoint = λ t x lt. concludes_disjoint_lem P t (T t lt).known x;
        complete = λ t x lt. concludes_complete_lem P t (T t lt).known x;
      }

  -- a need that is not met is a symbol's
  pub need_symbol : (s : ℕ) → Is (non (needs_met P s)) → HasSymbol P s
  unfolding has_symbol
  need_symbol s h =
      elim (split (has_symbol P s)) [
        | inl y ↦ (has_symbol_lem P s).0 y
        | inr n ↦
            let no_loop = implies (λ o. absurd (lacks n (one (inl o)))) in
            let no_access = implies (λ a. absurd (lacks n (one (inr a)))) in
            absurd (lacks h (pair no_loop no_access))
      ]

  -- demand 2: each need inferred from the loops is concluded by a step
  abbrev pub NeedsMet : Type 0
  NeedsMet = (s : ℕ) → s < statement_count P → NeedsConcluded P s

  module _ (R : StatementsRead) (N : NodesRead P) (A : AssignmentsRead) (T : (t : ℕ) → t < step_count P → StepFormed P t) where
    pub need_agrees : (s : ℕ) → s < statement_count P → Is (needs_met P s) ↔ NeedsConcluded P s
    need_agrees = needs_concluded P (all_formed R) (nodes_listed N A) (conclusions_agree T)

    pub needs_pass : (needs_check P ≡ Ok tt) ↔ NeedsMet
    needs_pass =
        scan_agrees (need_check P) (NeedsConcluded P) (statement_count P) (λ s lt. Iff.trans (need_passes s) (need_agrees s lt))

-- what the check of the loops refuses for: a loop that is not parallelizable
pub record LoopRefused (P : Plan) (r : Refusal) : Type 0 where
  pub record_of_for : ℕ
  pub refusal : NotParallelizable record_of_for ≡ r
  pub inside : record_of_for < statement_count P
  pub opens : statement_kind P record_of_for ≡ 0
  pub broken : ParallelizableLoop P record_of_for → ⊥

pub loop_refused : (P : Plan) → StatementsRead P → (r : Refusal) → loops_check P ≡ Err r → LoopRefused P r
unfolding loop_check
loop_refused P R r h =
    let w = scan_refuse _ _ r h in
    let f = require_refuse _ _ r w.refuses in
    let u = not_implied f.0 in
    record {
      record_of_for = w.at;
      refusal = f.1;
      inside = omega (arith, w.inside);
      opens = (opens_is P w.at).0 u.0;
      broken = λ q. u.1 ((loop_parallelizable P (all_formed P R) w.at).1 q);
    }

-- where a check refuses
module _ (p : Bytes) (r : Refusal) where
  pub statements_refuse : statements_check (plan_of p) ≡ Err r → PlanGiven p r
  unfolding statement_check
  statements_refuse h =
      let w = scan_refuse _ _ r h in
      let lt : w.at < statement_count (plan_of p) = omega (arith, w.inside) in
      let F : FormedBefore (plan_of p) w.at = λ t l. ((statement_passes (plan_of p) t).0 (w.before t (omega arith) l)).0 in
      then_cases _ _ r w.refuses
      (λ e. let f = require_refuse _ _ r e in
      rw (← f.1) (invalid_record refl (RecordInvalid.in_statements refl lt (λ q. lacks f.0 (formed_computed (plan_of p) q)))))
      (λ formed e. let f = require_refuse _ _ r e in
      rw (← f.1) (region_mismatch refl (RegionsDisagree.in_statements refl lt (λ q.
      lacks f.0 ((statement_agrees_lem (plan_of p) w.at (formed_next (plan_of p) F (require_pass _ _ formed))).1 q)))))

  pub loops_refuse :
      StatementsRead (plan_of p) → loops_check (plan_of p) ≡ Err r → PlanGiven p r
  loops_refuse R h = let w = loop_refused (plan_of p) R r h in rw (← w.refusal) (not_parallelizable refl w.inside w.opens w.broken)

  pub assignment_count_refuses : assignment_count_check (plan_of p) ≡ Err r → PlanGiven p r
  unfolding assignment_count_check
  assignment_count_refuses h =
      let f = require_refuse _ _ r h in
      rw (← f.1) (assignment_count_lem refl (symbols_before (plan_of p) (statement_count (plan_of p))) (λ e. lacks f.0 (same! e)))

  pub assignments_refuse :
      StatementsRead (plan_of p) → assignments_check (plan_of p) ≡ Err r →
      PlanGiven p r
  unfolding assignment_check
  assignments_refuse R h =
      let w = scan_refuse _ _ r h in
      let lt : w.at < statement_count (plan_of p) = omega (arith, w.inside) in
      let F : FormedBefore (plan_of p) (suc w.at) = λ t l. all_formed (plan_of p) R t (omega arith) in
      let k = symbols_before (plan_of p) w.at in
      then_cases _ _ r w.refuses
      (λ e.
      let f = require_refuse _ _ r e in
      let u = not_implied f.0 in
      rw (← f.1) (invalid_record refl (RecordInvalid.in_assignments refl lt ((has_symbol_lem (plan_of p) w.at).0 u.0) k (λ l. u.1 (less! l)))))
      (λ listed e.
      let f = require_refuse _ _ r e in
      let u = not_implied f.0 in
      let y = (has_symbol_lem (plan_of p) w.at).0 u.0 in
      rw (← f.1) (region_mismatch refl (RegionsDisagree.in_assignments refl lt y k (λ q.
      u.1 (same! (region_is (plan_of p) (q (symbol_region (plan_of p) w.at) ((symbol_region_lem (plan_of p) F y).0 refl))))))))

  pub needs_refuse :
      StatementsRead (plan_of p) → NodesRead (plan_of p) → AssignmentsRead (plan_of p) →
      ((t : ℕ) → t < step_count (plan_of p) → StepFormed (plan_of p) t) →
      needs_check (plan_of p) ≡ Err r → PlanGiven p r
  unfolding need_check
  needs_refuse R N A T h =
      let w = scan_refuse _ _ r h in
      let lt : w.at < statement_count (plan_of p) = omega (arith, w.inside) in
      let f = require_refuse _ _ r w.refuses in
      rw (← f.1) (unmet_need refl lt (need_symbol (plan_of p) w.at f.0) (symbols_before (plan_of p) w.at) (λ q.
      lacks f.0 ((need_agrees (plan_of p) R N A T w.at lt).1 q)))
