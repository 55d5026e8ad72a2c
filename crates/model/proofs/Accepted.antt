-- What is known of an accepted plan: the checks that passed, each as a statement about every record of its section. Assumes nothing.
use Prim.Native.Nat.{ℕ, suc, ◌+◌, ◌*◌, ◌/◌, ◌%◌, ◌≤◌, ◌<◌}
use mathlib.Core.Path.{◌≡◌}
use mathlib.Core.Bool.{Bool}
use native.Mathlib.Nat.{div-add-mod'}
use native.Mathlib.Omega.{arith}
use lib.ListN.{length, length-take, length-drop}
use Rattle.std.specs.Prelude.{Ok}
use Rattle.model.specs.Tests.{Is}
use Rattle.model.specs.Bytes.{Bytes, byte, u16, boundary, body}
use Rattle.model.specs.Outcomes.{require, ◌then◌, scan, Outcome}
use Rattle.model.specs.Layout.{Plan, plan_of, shapes, shape_of, section_check, layout_check, node_count, step_count}
use Rattle.model.specs.Statements.{statement_check}
use Rattle.model.specs.Parallel.{loop_check}
use Rattle.model.specs.Nodes.{duplicate_node, node_check}
use Rattle.model.specs.Needs.{symbol_count, assignment_count_check, assignment_check, need_check}
use Rattle.model.specs.Lemmas.{step_check}
use Rattle.model.specs.Declarations.{region_check, map_check, supplied_check}
use Rattle.model.specs.Verdict.{records_check, plan_check, accepted, verdict}
use Rattle.model.specs.AcceptedPlans.{Facts, Limits}
use Rattle.model.specs.declared.Refusal.{Refusal}
use Rattle.model.specs.declared.Acceptance.{Acceptance}
use Rattle.model.proofs.Tests.{both, pair, lacks, refuted, implied, implies, same, same!, less, less!, most, most!, some_of, among}
use Rattle.model.proofs.Outcomes.{then_pass, passes_then, require_pass, required, scan_pass, passes_scan, conclude_ok, conclude_pass}

infixr 20 ◌next◌
◌next◌ : {a b : Outcome} → a ≡ Ok tt → b ≡ Ok tt → a then b ≡ Ok tt
h next k = passes_then h k

-- a scan whose checks begin with a test
module _ {n : ℕ} (test : ℕ → Bool) (q : ℕ → Refusal) where
  tested : scan (λ k. require (test k) (q k)) 0 n ≡ Ok tt → (k : ℕ) → k < n → Is (test k)
  tested h k lt = require_pass _ _ (scan_pass _ n h k lt)

  tested_then :
      (rest : ℕ → Outcome) → scan (λ k. require (test k) (q k) then rest k) 0 n ≡ Ok tt → (k : ℕ) → k < n →
      Is (test k) × (rest k ≡ Ok tt)
  tested_then rest h k lt = let r = then_pass _ _ (scan_pass _ n h k lt) in (require_pass _ _ r.0, r.1)

module _ (P : Plan) where
  pub facts : records_check P ≡ Ok tt → Facts P
  unfolding
      records_check region_check map_check supplied_check statement_check loop_check node_check duplicate_node assignment_count_check assignment_check
      step_check need_check
  facts h =
      let (regions, h) = then_pass _ _ h in
      let (maps, h) = then_pass _ _ h in
      let (supplied, h) = then_pass _ _ h in
      let (statements, h) = then_pass _ _ h in
      let (loops, h) = then_pass _ _ h in
      let (nodes, h) = then_pass _ _ h in
      let (count, h) = then_pass _ _ h in
      let (assignments, h) = then_pass _ _ h in
      let (steps, needs) = then_pass _ _ h in
      record {
        some_field = λ r lt. most (both (tested _ _ regions r lt)).0;
        few_fields = λ r lt. most (both (tested _ _ regions r lt)).1;
        source_listed = λ m lt. less (both (tested _ _ maps m lt)).0;
        target_listed = λ m lt. less (both (both (tested _ _ maps m lt)).1).0;
        totality_known = λ m lt. most (both (both (tested _ _ maps m lt)).1).1;
        supplied_listed = λ k lt. less (both (tested _ _ supplied k lt)).0;
        flags_known = λ k lt. most (both (tested _ _ supplied k lt)).1;
        statement_formed_lem = λ s lt. (tested_then _ _ _ statements s lt).0;
        statement_agrees_lem = λ s lt. require_pass _ _ (tested_then _ _ _ statements s lt).1;
        loop_parallelizable = λ f lt. implied (tested _ _ loops f lt);
        node_formed_lem = λ j lt. (tested_then _ _ _ nodes j lt).0;
        node_agrees_lem = λ j lt. require_pass _ _ (then_pass _ _ (tested_then _ _ _ nodes j lt).1).0;
        node_new = λ j k lt new e. lacks (require_pass _ _ (then_pass _ _ (tested_then _ _ _ nodes j lt).1).1) (among (k, new, e));
        assignment_each = same (require_pass _ _ count);
        node_listed = λ s lt h. less (implied (tested_then _ _ _ assignments s lt).0 h);
        node_region_lem = λ s lt h. same (implied (require_pass _ _ (tested_then _ _ _ assignments s lt).1) h);
        step_formed_lem = λ t lt. (tested_then _ _ _ steps t lt).0;
        step_licensed_lem = λ t lt. require_pass _ _ (tested_then _ _ _ steps t lt).1;
        loop_met = λ f lt. implied (both (tested _ _ needs f lt)).0;
        access_met = λ s lt. implied (both (tested _ _ needs s lt)).1;
      }

  pub facts_pass : Facts P → records_check P ≡ Ok tt
  unfolding
      records_check region_check map_check supplied_check statement_check loop_check node_check duplicate_node assignment_count_check assignment_check
      step_check need_check
  facts_pass F =
      passes_scan _ _ (λ r lt. required _ _ (pair (most! (F.some_field r lt)) (most! (F.few_fields r lt))))
      next passes_scan _ _
      (λ m lt. required _ _ (pair (less! (F.source_listed m lt)) (pair (less! (F.target_listed m lt)) (most! (F.totality_known m lt)))))
      next passes_scan _ _ (λ k lt. required _ _ (pair (less! (F.supplied_listed k lt)) (most! (F.flags_known k lt))))
      next passes_scan _ _ (λ s lt. required _ _ (F.statement_formed_lem s lt) next required _ _ (F.statement_agrees_lem s lt))
      next passes_scan _ _ (λ f lt. required _ _ (implies (F.loop_parallelizable f lt)))
      next passes_scan _ _
      (λ j lt. required _ _ (F.node_formed_lem j lt)
      next required _ _ (F.node_agrees_lem j lt)
      next required _ _ (refuted (λ h. let r = some_of h in F.node_new j r.0 lt r.1 r.2)))
      next required _ _ (same! F.assignment_each)
      next passes_scan _ _
      (λ s lt. required _ _ (implies (λ h. less! (F.node_listed s lt h)))
      next required _ _ (implies (λ h. same! (F.node_region_lem s lt h))))
      next passes_scan _ _ (λ t lt. required _ _ (F.step_formed_lem t lt) next required _ _ (F.step_licensed_lem t lt))
      next passes_scan _ _ (λ s lt. required _ _ (pair (implies (F.loop_met s lt)) (implies (F.access_met s lt))))

-- the section that stands after n others: inside the plan's bytes, of whole records, and of as many as its row of the table of sections says
pub record Section (p : Bytes) (n : ℕ) : Type 0 where
  pub starts_inside : boundary p n + 2 ≤ length p
  pub ends_inside : boundary p (suc n) ≤ length p
  pub body-length : length (body p n) ≡ u16 p (boundary p n)
  pub whole_records : length (body p n) ≡ length (body p n) / (shape_of n).width * (shape_of n).width
  pub count_least : (shape_of n).fewest ≤ length (body p n) / (shape_of n).width
  pub count_most : length (body p n) / (shape_of n).width ≤ (shape_of n).most

-- what the bytes of a plan are, where the layout passed its checks
pub record LaidOut (p : Bytes) : Type 0 where
  pub edition : byte p 0 ≡ 1
  pub section : (n : ℕ) → n < 7 → Section p n
  pub nothing_after : length p ≡ boundary p 7

-- a section that ends inside begins inside
pub begins_inside : (s : Bytes) (n : ℕ) → boundary s (suc n) ≤ length s → boundary s n + 2 ≤ length s
begins_inside s n h = unfold boundary in omega arith

pub length-body : (s : Bytes) (n : ℕ) → boundary s (suc n) ≤ length s → length (body s n) ≡ u16 s (boundary s n)
unfolding body boundary
length-body s n h = simp (length-take, length-drop) (omega arith)

pub section_pass : (p : Bytes) (n : ℕ) → section_check p n ≡ Ok tt → Section p n
unfolding section_check
section_pass p n h =
    let (ends, h) = then_pass _ _ h in
    let b = both (require_pass _ _ ends) in
    let c = both (require_pass _ _ h) in
    let e = length-body p n (most b.1) in
    record {
      starts_inside = most b.0;
      ends_inside = most b.1;
      body-length = e;
      whole_records = rw e (whole (u16 p (boundary p n)) (shape_of n).width (same c.0));
      count_least = rw e (most (both c.1).0);
      count_most = rw e (most (both c.1).1);
    }
  where
    whole : (a b : ℕ) → a % b ≡ 0 → a ≡ a / b * b
    whole a b z = omega (arith, div-add-mod' a b)

pub laid_out_lem : (p : Bytes) → layout_check p ≡ Ok tt → LaidOut p
unfolding layout_check
laid_out_lem p h =
    let (some, h) = then_pass _ _ h in
    let (edition, h) = then_pass _ _ h in
    let (sections, end) = then_pass _ _ h in
    let section : (n : ℕ) → n < 7 → Section p n = λ n lt. section_pass p n (scan_pass _ _ sections n lt) in
    record {
      edition = same (require_pass _ _ edition);
      section = section;
      nothing_after = omega (arith, (section 6 (omega arith)).ends_inside, most (require_pass _ _ end));
    }

pub layout_pass : (p : Bytes) → LaidOut p → layout_check p ≡ Ok tt
unfolding layout_check section_check boundary
layout_pass p L =
    required _ _ (most! (omega (arith, (L.section 0 (omega arith)).starts_inside)))
    next required _ _ (same! L.edition)
    next passes_scan _ _
    (λ n lt. let S = L.section n lt in
    required _ _ (pair (most! S.starts_inside) (most! S.ends_inside))
    next required _ _
    (pair (same! (rw S.body-length at (whole _ _ S.whole_records)))
    (pair (most! (rw S.body-length at S.count_least)) (most! (rw S.body-length at S.count_most)))))
    next required _ _ (most! (omega (arith, L.nothing_after)))
  where
    whole : (a b : ℕ) → a ≡ a / b * b → a % b ≡ 0
    whole a b z = omega (arith, div-add-mod' a b)

pub limits : (p : Bytes) → LaidOut p → Limits (plan_of p)
unfolding shape_of shapes
limits p L =
    record {
      some_region = omega (arith, (L.section 0 (omega arith)).count_least);
      few_regions = omega (arith, (L.section 0 (omega arith)).count_most);
      few_maps = (L.section 1 (omega arith)).count_most;
      few_supplied = (L.section 2 (omega arith)).count_most;
      few_statements = (L.section 3 (omega arith)).count_most;
      few_nodes = (L.section 4 (omega arith)).count_most;
      few_assignments = omega (arith, (L.section 5 (omega arith)).count_most);
      few_steps = (L.section 6 (omega arith)).count_most;
      whole_maps = (L.section 1 (omega arith)).whole_records;
      whole_supplied = (L.section 2 (omega arith)).whole_records;
      whole_statements = (L.section 3 (omega arith)).whole_records;
      whole_nodes = (L.section 4 (omega arith)).whole_records;
      whole_steps = (L.section 6 (omega arith)).whole_records;
    }

-- what an acceptance says of the bytes and of the records
pub record AcceptedPlan (p : Bytes) : Type 0 where
  pub layout : LaidOut p
  pub records : Facts (plan_of p)

pub plan_accepted : (p : Bytes) → plan_check p ≡ Ok tt → AcceptedPlan p
unfolding plan_check
plan_accepted p h = let r = then_pass _ _ h in record { layout = laid_out_lem p r.0; records = facts (plan_of p) r.1 }

pub plan_pass : (p : Bytes) → AcceptedPlan p → plan_check p ≡ Ok tt
unfolding plan_check
plan_pass p A = layout_pass p A.layout next facts_pass (plan_of p) A.records

-- the counts of an acceptance
pub record Counted (P : Plan) (a : Acceptance) : Type 0 where
  pub symbols_counted : a.symbols ≡ symbol_count P
  pub nodes_counted : a.nodes ≡ node_count P
  pub steps_counted : a.steps ≡ step_count P

pub verdict_accepted : (p : Bytes) (a : Acceptance) → verdict p ≡ Ok a → AcceptedPlan p × Counted (plan_of p) a
unfolding verdict
verdict_accepted p a h =
    let r = conclude_ok _ _ a h in
    (plan_accepted p r.0, record { symbols_counted = cc; nodes_counted = cc; steps_counted = cc })

pub accepted-verdict : (p : Bytes) → AcceptedPlan p → verdict p ≡ Ok (accepted (plan_of p))
unfolding verdict
accepted-verdict p A = conclude_pass _ _ (plan_pass p A)
