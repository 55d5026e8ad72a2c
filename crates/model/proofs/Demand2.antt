-- T2: the verdict accepts exactly the plans that read by the layout, whose loops are parallelizable, whose steps are licensed and whose needs
-- are concluded; and the whole promise of checking. Assumes nothing.
use Prim.Native.Nat.{◌/◌}
use mathlib.Core.Path.{◌≡◌, sym, ap, ◌∙◌}
use mathlib.Core.Logic.{◌↔◌}
use lib.ListN.{length}
use Rattle.std.specs.Prelude.{Ok, Err}
use Rattle.model.specs.Outcomes.{Answer}
use Rattle.model.specs.Bytes.{Bytes, body}
use Rattle.model.specs.Layout.{plan_of, statement_count}
use Rattle.model.specs.Verdict.{records_check, plan_check, verdict}
use Rattle.model.specs.LoopRelations.{SymbolsBefore}
use Rattle.model.specs.PlainPlan.{WellFormed, Parallelizable, Licensed, Concluded}
use Rattle.model.specs.Answers.{report}
use Rattle.model.specs.Promises.{Accepts, CheckPromise}
use Rattle.model.specs.declared.Refusal.{Refusal}
use Rattle.model.specs.declared.Acceptance.{Acceptance}
use Rattle.model.proofs.Outcomes.{scan_agrees, then_pass, passes_then, conclude_ok, conclude_refused, conclude_pass}
use Rattle.model.proofs.Accepted.{verdict_accepted}
use Rattle.model.proofs.LayoutAgrees.{layout_read, well_formed_layout, region_formed, map_formed, supplied_formed}
use Rattle.model.proofs.RecordsAgree.{NodesRead, nodes_plainly, passes_nodes, steps_plainly, passes_steps}
use Rattle.model.proofs.SymbolsAgree.{symbols_before}
use Rattle.model.proofs.Demand2Loops.{statements_pass, loops_pass, assignment_count_passes, assignments_pass, needs_pass}
use Rattle.model.proofs.Undisturbed.{undisturbed}
use Rattle.model.proofs.GivenWhen.{plan_refuses}
use Rattle.model.proofs.FirstMet.{plan_first}

module _ (p : Bytes) where
  abbrev Plainly : Type 0
  Plainly = WellFormed p × Parallelizable p × Licensed p × Concluded p

  accepted_plainly : plan_check p ≡ Ok tt → Plainly
  unfolding plan_check records_check
  accepted_plainly h =
      let (layout, h) = then_pass _ _ h in
      let (regions, h) = then_pass _ _ h in
      let (maps, h) = then_pass _ _ h in
      let (supplied, h) = then_pass _ _ h in
      let (statements, h) = then_pass _ _ h in
      let (loops, h) = then_pass _ _ h in
      let (nodes, h) = then_pass _ _ h in
      let (count, h) = then_pass _ _ h in
      let (assignments, h) = then_pass _ _ h in
      let (steps, needs) = then_pass _ _ h in
      let L = (layout_read p).0 layout in
      let S = (statements_pass (plan_of p)).0 statements in
      let N = nodes_plainly (plan_of p) nodes in
      let A = (assignments_pass (plan_of p) S N).0 assignments in
      let T = steps_plainly (plan_of p) steps in (
        record {
          some_byte = L.some_byte;
          edition = L.edition;
          sections_end = L.sections_end;
          section_lengths = L.section_lengths;
          nothing_after = L.nothing_after;
          regions = (scan_agrees _ _ _ (λ k lt. region_formed (plan_of p) k)).0 regions;
          maps = (scan_agrees _ _ _ (λ k lt. map_formed (plan_of p) k)).0 maps;
          supplied = (scan_agrees _ _ _ (λ k lt. supplied_formed (plan_of p) k)).0 supplied;
          statements = S;
          nodes = N.each;
          nodes_differ = N.differ;
          one_assignment_each = (assignment_count_passes (plan_of p)).0 count;
          assignments = A;
          steps = T.formed;
        },
        (loops_pass (plan_of p) S).0 loops,
        T.licensed,
        (needs_pass (plan_of p) S N A T.formed).0 needs,
      )

  plainly_accepted : Plainly → plan_check p ≡ Ok tt
  unfolding plan_check records_check
  plainly_accepted (R, loops, licensed, needs) =
      let N : NodesRead (plan_of p) = record { each = R.nodes; differ = R.nodes_differ } in
      passes_then ((layout_read p).1 (well_formed_layout p R))
      (passes_then ((scan_agrees _ _ _ (λ k lt. region_formed (plan_of p) k)).1 R.regions)
      (passes_then ((scan_agrees _ _ _ (λ k lt. map_formed (plan_of p) k)).1 R.maps)
      (passes_then ((scan_agrees _ _ _ (λ k lt. supplied_formed (plan_of p) k)).1 R.supplied)
      (passes_then ((statements_pass (plan_of p)).1 R.statements)
      (passes_then ((loops_pass (plan_of p) R.statements).1 loops)
      (passes_then (passes_nodes (plan_of p) N)
      (passes_then ((assignment_count_passes (plan_of p)).1 R.one_assignment_each)
      (passes_then ((assignments_pass (plan_of p) R.statements N).1 R.assignments)
      (passes_then (passes_steps (plan_of p) (record { formed = R.steps; licensed = licensed }))
      ((needs_pass (plan_of p) R.statements N R.assignments R.steps).1 needs))))))))))

  -- T2
  pub demand_2 : Accepts (verdict p) ↔ (WellFormed p × Parallelizable p × Licensed p × Concluded p)
  unfolding verdict
  demand_2 =
      (λ a. accepted_plainly (conclude_ok _ _ _ a.1).0, λ w. (_, conclude_pass _ _ (plainly_accepted w)))

  -- the counts of an acceptance are the numbers of symbols and of records
  pub counts :
      (a : Acceptance) → verdict p ≡ Ok a →
      SymbolsBefore (plan_of p) (statement_count (plan_of p)) a.symbols × (a.nodes ≡ length (body p 4) / 4) × (a.steps ≡ length (body p 6) / 5)
  counts a h =
      let C = (verdict_accepted p a h).1 in
      (rw C.symbols_counted (symbols_before (plan_of p) (statement_count (plan_of p))), C.nodes_counted, C.steps_counted)

-- checking keeps its whole promise where its answer is the verdict
pub check_promise : (p : Bytes) (r : Answer) → r ≡ verdict p → CheckPromise p r
unfolding verdict report
check_promise p r e =
    let refuses : (q : Refusal) → r ≡ Err q → plan_check p ≡ Err q = λ q h. conclude_refused _ _ q (sym e ∙ h) in
    record {
      answer = ap report e;
      exactly = rw e (demand_2 p);
      counts = λ a h. counts p a (sym e ∙ h);
      refused = λ q h. rw h (plan_refuses p q (refuses q h));
      first = λ q h. rw h (plan_first p q (refuses q h));
      undisturbed = λ a d fits. undisturbed p d ((demand_2 p).0 (rw e at a)).1;
    }
