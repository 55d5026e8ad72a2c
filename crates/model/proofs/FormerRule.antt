-- Nothing accepted before is lost: the rule by region alone, as it was before fields counted, is stronger than the rule by region and
-- field, in both readings. Of the verdict only refusal 8 moves. Assumes nothing.
use Prim.Native.Nat.{ℕ, ◌<◌}
use mathlib.Core.Path.{◌≡◌, refl, sym, ap, ◌∙◌}
use mathlib.Core.Logic.{◌⊎◌, inl, inr}
use mathlib.Core.Bool.{Bool}
use native.Mathlib.Omega.{arith}
use Rattle.std.specs.Prelude.{Ok, Err}
use Rattle.model.specs.declared.Acceptance.{Acceptance}
use Rattle.model.specs.Tests.{Is, ◌and◌, ◌or◌, non, ◌=?◌, every}
use Rattle.model.specs.Bytes.{Bytes}
use Rattle.model.specs.Outcomes.{require, ◌then◌, scan, conclude, Outcome, Answer}
use Rattle.model.specs.Layout.{Plan, plan_of, layout_check, statement_count, statement_kind, statement_c}
use Rattle.model.specs.Statements.{opens, operand_region}
use Rattle.model.specs.Parallel.{reads, writes, reduces, uncentered, access_of_loop, same_target, conflicts, parallelizable, loop_check}
use Rattle.model.specs.Needs.{assignment_count_check}
use Rattle.model.specs.Verdict.{regions_check, maps_check, partitions_check, statements_check, nodes_check, assignments_check, steps_check, needs_check, records_check, plan_check, accepted, verdict}
use Rattle.model.specs.LoopRelations.{VariableRegion, AccessThrough}
use Rattle.model.specs.PlainPlan.{ParallelizableLoop, WellFormed, Licensed, Concluded}
use Rattle.model.specs.Promises.{Accepts}
use Rattle.model.specs.declared.Refusal.TheVariants.{NotParallelizable}
use Rattle.model.proofs.Tests.{both, pair, lacks, refuted, implied, implies, every_at, every_of}
use Rattle.model.proofs.Outcomes.{require_pass, required, require_refuse, scan_pass, passes_scan, scan_refuse, conclude_ok}
use Rattle.model.proofs.TargetRule.{ParallelizableBy, finer, by_target}
use Rattle.model.proofs.Demand2.{demand_2}

module _ (P : Plan) where
  -- access s is of region r; two accesses of one region
  abbrev pub AccessRegion : ℕ → ℕ → Type 0
  AccessRegion s r = (d : ℕ) × AccessThrough P s d × VariableRegion P d r

  abbrev pub SameRegion : ℕ → ℕ → Type 0
  SameRegion s t = (r : ℕ) × AccessRegion s r × AccessRegion t r

  -- a loop that is parallelizable by region is parallelizable
  pub by_region : {f : ℕ} → ParallelizableBy P SameRegion f → ParallelizableLoop P f
  by_region {f} L =
      (by_target P f).0 (finer P (λ s t w. (w.0, (_, w.2.through, w.2.region), (_, w.3.through, w.3.region))) L)

-- the former clause of demand 2: its loops are parallelizable by region
abbrev pub ParallelizableByRegion : Bytes → Type 0
ParallelizableByRegion p =
    (f : ℕ) → f < statement_count (plan_of p) → statement_kind (plan_of p) f ≡ 0 → ParallelizableBy (plan_of p) (SameRegion (plan_of p)) f

-- a plan of which demand 2 held with the former clause is accepted, with the counts of its records
pub still_accepted : (p : Bytes) → WellFormed p × ParallelizableByRegion p × Licensed p × Concluded p → verdict p ≡ Ok (accepted (plan_of p))
unfolding verdict
still_accepted p (formed, loops, licensed, concluded) =
    let (a, e) = (demand_2 p).1 (formed, λ f lt k. by_region (plan_of p) (loops f lt k), licensed, concluded) in
    e ∙ ap Ok (sym (conclude_ok _ _ a e).1)

-- the same of the verdict: its test of a loop, and its checks with that test, over any test for accesses of one target
module _ (P : Plan) (same : ℕ → ℕ → Bool) where
  abbrev pub parallelizable_by : ℕ → Bool
  parallelizable_by f =
      every (statement_count P) (λ s. non (access_of_loop P f s) or
      non (writes P s and uncentered P s) and every (statement_count P) (λ t. non (access_of_loop P f t) or
      non (same s t
      and (reduces P s and uncentered P s and non (reduces P t and uncentered P t and statement_c P s =? statement_c P t)
      or reads P s and uncentered P s and (writes P t or reduces P t)))))

  abbrev pub loops_check_by : Outcome
  loops_check_by = scan (λ f. require (non (opens P f) or parallelizable_by f) (NotParallelizable f)) 0 (statement_count P)

  abbrev pub records_check_by : Outcome
  records_check_by =
      regions_check P then maps_check P then partitions_check P
      then statements_check P then loops_check_by
      then nodes_check P
      then assignment_count_check P then assignments_check P
      then steps_check P
      then needs_check P

abbrev pub plan_check_by : (Plan → ℕ → ℕ → Bool) → Bytes → Outcome
plan_check_by same p = layout_check p then records_check_by (plan_of p) (same (plan_of p))

abbrev pub verdict_by : (Plan → ℕ → ℕ → Bool) → Bytes → Answer
verdict_by same p = conclude (plan_check_by same p) (accepted (plan_of p))

-- the verdict is the one by region and field
pub by_target_verdict : (p : Bytes) → verdict p ≡ verdict_by same_target p
unfolding verdict plan_check records_check loop_check parallelizable conflicts
by_target_verdict p = refl

-- the former verdict goes by region alone
abbrev pub same_region : Plan → ℕ → ℕ → Bool
same_region P s t = operand_region P s =? operand_region P t

abbrev pub former_verdict : Bytes → Answer
former_verdict = verdict_by same_region

-- two outcomes are one, or the former is refusal 8
abbrev OneOrNotParallelizable : Outcome → Outcome → Type 0
OneOrNotParallelizable now former = (now ≡ former) ⊎ ((f : ℕ) × (former ≡ Err (NotParallelizable f)))

one_after : {now former : Outcome} (first : Outcome) → OneOrNotParallelizable now former → OneOrNotParallelizable (first then now) (first then former)
unfolding ◌then◌
one_after (Ok _) w = w
one_after (Err r) w = inl refl

module _ (P : Plan) where
  tested_by_region : (f : ℕ) → Is (parallelizable_by P (same_region P) f) → Is (parallelizable_by P (same_target P) f)
  unfolding same_target
  tested_by_region f h =
      every_of _ _ (λ s ls. implies (λ hs.
      let u = both (implied (every_at _ _ h s ls) hs) in
      pair u.0 (every_of _ _ (λ t lt. implies (λ ht. refuted (λ w.
      lacks (implied (every_at _ _ u.1 t lt) ht) (pair (both (both w).0).0 (both w).1)))))))

  loops_one : (rest : Outcome) → OneOrNotParallelizable (loops_check_by P (same_target P) then rest) (loops_check_by P (same_region P) then rest)
  unfolding ◌then◌
  loops_one rest = go (loops_check_by P (same_region P)) refl
    where
      passes : loops_check_by P (same_region P) ≡ Ok tt → loops_check_by P (same_target P) ≡ Ok tt
      passes h =
          passes_scan _ _ (λ f lt.
          required _ _ (implies (λ o. tested_by_region f (implied (require_pass _ _ (scan_pass _ _ h f lt)) o))))

      go : (former : Outcome) → loops_check_by P (same_region P) ≡ former →
          OneOrNotParallelizable (loops_check_by P (same_target P) then rest) (former then rest)
      go (Ok _) h = inl (rw (passes h) refl)
      go (Err r) h = let w = scan_refuse _ _ r h in inr (w.at, ap Err (sym (require_refuse _ _ r w.refuses).1))

-- only refusal 8 moves
pub only_refusal_8_moves : (p : Bytes) → (verdict p ≡ former_verdict p) ⊎ ((f : ℕ) × (former_verdict p ≡ Err (NotParallelizable f)))
unfolding conclude
only_refusal_8_moves p =
    let checks : OneOrNotParallelizable (plan_check_by same_target p) (plan_check_by same_region p) =
    one_after _ (one_after _ (one_after _ (one_after _ (one_after _ (loops_one (plan_of p) _))))) in
    elim checks [
      | inl e ↦ inl (by_target_verdict p ∙ ap (λ o. conclude o (accepted (plan_of p))) e)
      | inr e ↦ inr (e.0, ap (λ o. conclude o (accepted (plan_of p))) e.1)
    ]

-- what was accepted is accepted, with the same counts
pub nothing_lost : (p : Bytes) → Accepts (former_verdict p) → verdict p ≡ former_verdict p
nothing_lost p a =
    elim (only_refusal_8_moves p) [
      | inl e ↦ e
      | inr e ↦ absurd (accepted_not_refused (sym a.1 ∙ e.1))
    ]
  where
    accepted_not_refused : {a : Acceptance} {f : ℕ} → ◌≡◌ {A = Answer} (Ok a) (Err (NotParallelizable f)) → ⊥
    accepted_not_refused h = let z : ◌≡◌ {A = ℕ} 0 1 = cc in absurd (omega arith)
