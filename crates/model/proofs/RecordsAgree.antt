-- Sections 1 to 3, 5 and 7 as wholes: their checks pass exactly where the plain statements hold of each record, and a refusal holds as the
-- table says. Assumes nothing.
use Prim.Native.Nat.{ℕ, ◌≤◌, ◌<◌}
use mathlib.Core.Path.{◌≡◌, refl, sym, ◌∙◌}
use mathlib.Core.Logic.{inl, inr}
use native.Mathlib.Omega.{arith}
use Rattle.std.specs.Prelude.{Ok, Err}
use Rattle.model.specs.Tests.{Is, non}
use Rattle.model.specs.Bytes.{Bytes}
use Rattle.model.specs.Layout.{Plan, plan_of, node_count, step_count, step_lemma, step_x, step_y, step_p, step_q}
use Rattle.model.specs.Nodes.{node_formed, node_agrees, duplicate_node, node_check}
use Rattle.model.specs.Lemmas.{step_formed, step_licensed, step_check}
use Rattle.model.specs.Declarations.{region_check, map_check, supplied_check}
use Rattle.model.specs.PlainPlan.{NodeFormed, NodeAgrees, SameNode, StepFormed, Licence}
use Rattle.model.specs.GivenWhen.{RecordInvalid, RegionsDisagree, invalid_record, region_mismatch, duplicate_node_lem, unlicensed_step}
use Rattle.model.specs.Verdict.{regions_check, maps_check, partitions_check, nodes_check, steps_check}
use Rattle.model.specs.declared.Refusal.{Refusal}
use Rattle.model.proofs.Tests.{lacks, refuted, split, latest}
use Rattle.model.proofs.Outcomes.{then_pass, passes_then, then_cases, require_pass, required, require_refuse, scan_pass, passes_scan, scan_refuse, never}
use Rattle.model.proofs.LayoutAgrees.{PlanGiven, region_formed, map_formed, supplied_formed}
use Rattle.model.proofs.NodesAgree.{node_formed_lem, node_agrees_lem, duplicate_node_lem as duplicate-agrees}
use Rattle.model.proofs.StepsAgree.{step_formed_lem, step_licence}

-- what holds below n, and of n, holds up to n
pub upto : {Q : ℕ → Type 0} (n : ℕ) → ((i : ℕ) → i < n → Q i) → Q n → (i : ℕ) → i ≤ n → Q i
upto n below here i le = elim (latest i n (omega arith)) [ inl e ↦ rw e here | inr l ↦ below i l ]

module _ (P : Plan) where
  pub node_passes : (j : ℕ) → node_check P j ≡ Ok tt → Is (node_formed P j) × Is (node_agrees P j) × Is (non (duplicate_node P j))
  unfolding node_check
  node_passes j h =
      let h1 = then_pass _ _ h in
      let h2 = then_pass _ _ h1.1 in
      (require_pass _ _ h1.0, require_pass _ _ h2.0, require_pass _ _ h2.1)

  pub step_passes : (t : ℕ) → step_check P t ≡ Ok tt → Is (step_formed P t) × Is (step_licensed P t)
  unfolding step_check
  step_passes t h = let h1 = then_pass _ _ h in (require_pass _ _ h1.0, require_pass _ _ h1.1)

  -- section 5
  pub record NodesRead : Type 0 where
    pub each : (j : ℕ) → j < node_count P → NodeFormed P j × NodeAgrees P j
    pub differ : (j k : ℕ) → j < node_count P → k < j → SameNode P k j → ⊥

  pub nodes_plainly : nodes_check P ≡ Ok tt → NodesRead
  nodes_plainly h =
      let formed : (j : ℕ) → j < node_count P → NodeFormed P j = λ j lt. (node_formed_lem P j).0 (node_passes j (scan_pass _ _ h j lt)).0 in
      record {
        each = λ j lt. (formed j lt, (node_agrees_lem P j (λ i le. formed i (omega arith))).0 (node_passes j (scan_pass _ _ h j lt)).1);
        differ = λ j k lt lk s. lacks (node_passes j (scan_pass _ _ h j lt)).2 ((duplicate-agrees P j).1 (k, lk, s));
      }

  pub passes_nodes : NodesRead → nodes_check P ≡ Ok tt
  unfolding node_check
  passes_nodes r =
      passes_scan _ _ (λ j lt.
      passes_then (required _ _ ((node_formed_lem P j).1 (r.each j lt).0))
      (passes_then (required _ _ ((node_agrees_lem P j (λ i le. (r.each i (omega arith)).0)).1 (r.each j lt).1))
      (required _ _ (refuted (λ d. let w = (duplicate-agrees P j).0 d in r.differ j w.0 lt w.1 w.2)))))

  -- section 7
  pub record StepsRead : Type 0 where
    pub formed : (t : ℕ) → t < step_count P → StepFormed P t
    pub licensed : (t : ℕ) → t < step_count P → Licence P (step_lemma P t) (step_x P t) (step_y P t) (step_p P t) (step_q P t)

  pub steps_plainly : steps_check P ≡ Ok tt → StepsRead
  steps_plainly h =
      let test : (t : ℕ) → t < step_count P → Is (step_formed P t) = λ t lt. (step_passes t (scan_pass _ _ h t lt)).0 in
      record {
        formed = λ t lt. (step_formed_lem P t).0 (test t lt);
        licensed = λ t lt. (step_licence P t (λ i le. test i (omega arith))).0 (step_passes t (scan_pass _ _ h t lt)).1;
      }

  pub passes_steps : StepsRead → steps_check P ≡ Ok tt
  unfolding step_check
  passes_steps r =
      let test : (t : ℕ) → t < step_count P → Is (step_formed P t) = λ t lt. (step_formed_lem P t).1 (r.formed t lt) in
      passes_scan _ _ (λ t lt.
      passes_then (required _ _ (test t lt)) (required _ _ ((step_licence P t (λ i le. test i (omega arith))).1 (r.licensed t lt))))

-- where a check of these sections refuses
module _ (p : Bytes) (r : Refusal) where
  pub regions_refuse : regions_check (plan_of p) ≡ Err r → PlanGiven p r
  unfolding region_check
  regions_refuse h =
      let w = scan_refuse _ _ r h in
      rw (← (require_refuse _ _ r w.refuses).1)
      (invalid_record refl
      (RecordInvalid.in_regions refl (omega (arith, w.inside)) (λ s. never (sym w.refuses ∙ (region_formed (plan_of p) w.at).1 s))))

  pub maps_refuse : maps_check (plan_of p) ≡ Err r → PlanGiven p r
  unfolding map_check
  maps_refuse h =
      let w = scan_refuse _ _ r h in
      rw (← (require_refuse _ _ r w.refuses).1)
      (invalid_record refl
      (RecordInvalid.in_maps refl (omega (arith, w.inside)) (λ s. never (sym w.refuses ∙ (map_formed (plan_of p) w.at).1 s))))

  pub supplied_refuse : partitions_check (plan_of p) ≡ Err r → PlanGiven p r
  unfolding supplied_check
  supplied_refuse h =
      let w = scan_refuse _ _ r h in
      rw (← (require_refuse _ _ r w.refuses).1)
      (invalid_record refl
      (RecordInvalid.in_supplied refl (omega (arith, w.inside)) (λ s. never (sym w.refuses ∙ (supplied_formed (plan_of p) w.at).1 s))))

  pub nodes_refuse : nodes_check (plan_of p) ≡ Err r → PlanGiven p r
  unfolding node_check
  nodes_refuse h =
      let w = scan_refuse _ _ r h in
      let lt : w.at < node_count (plan_of p) = omega (arith, w.inside) in
      let before : (i : ℕ) → i < w.at → NodeFormed (plan_of p) i = λ i li.
      (node_formed_lem (plan_of p) i).0 (node_passes (plan_of p) i (w.before i (omega arith) li)).0 in
      then_cases _ _ r w.refuses
      (λ e. let f = require_refuse _ _ r e in
      rw (← f.1) (invalid_record refl (RecordInvalid.in_nodes refl lt (λ s. lacks f.0 ((node_formed_lem (plan_of p) w.at).1 s)))))
      (λ formed h2. then_cases _ _ r h2
      (λ e. let f = require_refuse _ _ r e in
      rw (← f.1) (region_mismatch refl (RegionsDisagree.in_nodes refl lt (λ s.
      lacks f.0 ((node_agrees_lem (plan_of p) w.at (upto w.at before ((node_formed_lem (plan_of p) w.at).0 (require_pass _ _ formed)))).1 s)))))
      (λ agrees e. let f = require_refuse _ _ r e in
      rw (← f.1) (elim (split (duplicate_node (plan_of p) w.at)) [
        | inl y ↦ let e = (duplicate-agrees (plan_of p) w.at).0 y in duplicate_node_lem refl lt e.1 e.2
        | inr n ↦ absurd (lacks f.0 n)
      ])))

  pub steps_refuse : steps_check (plan_of p) ≡ Err r → PlanGiven p r
  unfolding step_check
  steps_refuse h =
      let w = scan_refuse _ _ r h in
      let lt : w.at < step_count (plan_of p) = omega (arith, w.inside) in
      then_cases _ _ r w.refuses
      (λ e. let f = require_refuse _ _ r e in
      rw (← f.1) (invalid_record refl (RecordInvalid.in_steps refl lt (λ s. lacks f.0 ((step_formed_lem (plan_of p) w.at).1 s)))))
      (λ formed e. let f = require_refuse _ _ r e in
      rw (← f.1) (unlicensed_step refl lt (λ s.
      lacks f.0 ((step_licence (plan_of p) w.at
      (upto w.at (λ i li. (step_passes (plan_of p) i (w.before i (omega arith) li)).0) (require_pass _ _ formed))).1 s))))
