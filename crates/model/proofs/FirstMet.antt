-- "The first met is given": where checking, evaluating or explaining refuses, the table's "given when" holds of nothing that is earlier in
-- the order.
-- Assumes nothing.
use Prim.Native.Nat.{ℕ, suc, ◌+◌, ◌*◌, ◌/◌, ◌%◌, ◌≤◌, ◌<◌}
use mathlib.Core.Path.{◌≡◌, refl, sym, ◌∙◌}
use mathlib.Core.Logic.{◌⊎◌}
use mathlib.Core.List.{List, [], ◌∷◌}
use mathlib.Core.Bool.{Bool}
use native.Mathlib.Decide.{dec_lt}
use native.Mathlib.Omega.{arith}
use lib.ListN.{get_or, length}
use Rattle.std.specs.Prelude.{Ok, Err}
use Rattle.model.specs.Tests.{Is, ◌and◌, pick, ◌=?◌, ◌<?◌, ◌≤?◌, every}
use Rattle.model.specs.Bytes.{Bytes, byte, u16, boundary, body}
use Rattle.model.specs.Outcomes.{require, ◌then◌, scan, Outcome}
use Rattle.model.specs.Layout.{Plan, plan_of, section_check, layout_check, region_count, map_count, supplied_count, statement_count, node_count, assignment_count, step_count, fields, source, target, totality, supplied_region, supplied_flags, statement_kind, step_lemma, step_x, step_y, step_p, step_q}
use Rattle.model.specs.Declarations.{region_check, map_check, supplied_check}
use Rattle.model.specs.Statements.{statement_check}
use Rattle.model.specs.Parallel.{loop_check}
use Rattle.model.specs.Nodes.{node_check}
use Rattle.model.specs.Needs.{has_symbol, symbol, symbol_node, assignment_count_check, assignment_check, need_check}
use Rattle.model.specs.Lemmas.{step_check}
use Rattle.model.specs.Verdict.{regions_check, maps_check, partitions_check, statements_check, loops_check, nodes_check, assignments_check, steps_check, needs_check, records_check, plan_check}
use Rattle.model.specs.AcceptedPlans.{Limits}
use Rattle.model.specs.DataSets.{data_of, size, well_framed, entries_check, declarations_hold, data_check}
use Rattle.model.specs.LoopRelations.{HasSymbol, SymbolsBefore, SymbolRegion, NodeRegion}
use Rattle.model.specs.PlainPlan.{SectionLength, StatementFormed, StatementAgrees, ParallelizableLoop, NodeFormed, NodeAgrees, SameNode, StepFormed, Licence, NeedsConcluded}
use Rattle.model.specs.PlainData.{WellFramed, EntryFits, DeclarationsHold}
use Rattle.model.specs.Evaluation.{inputs_check, evaluation_check}
use Rattle.model.specs.GivenWhen.{RecordInvalid, RegionsDisagree, PlanGivenWhen, empty, truncated, unknown_edition, trailing_bytes, invalid_length, invalid_record, region_mismatch, duplicate_node_lem, not_parallelizable, assignment_count_lem, unlicensed_step, unmet_need, invalid_data, invalid_entry, invalid_partition, DataGivenWhen, output_too_small, EvaluationGivenWhen, of_plan, of_data, of_output}
use Rattle.model.specs.RefusalOrder.{Turn, turn_at, turns, turn, Earlier}
use Rattle.model.specs.declared.Refusal.{Refusal}
use Rattle.model.specs.declared.Refusal.TheVariants.{Truncated, UnknownEdition, TrailingBytes, InvalidRecord, RegionMismatch, InvalidData, InvalidPartition}
use Rattle.model.proofs.Tests.{both, lacks, implied, less, most, every_at, pick-false, refuted, fails, same, ◌also◌, Firsts, at_each}
use Rattle.model.proofs.Outcomes.{then_assoc, passes_then, then_cases, require_pass, required, require_refuse, scan_pass, scan_refuse}
use Rattle.model.proofs.Turns.{turn_of, stage_passed, item_passed, check_passed, not_itself, ClearUpTo, clear_passes, clear_test, clear_first, clear_next, clear_both, ReachedAt, clear_scan, Placed, placed_require, placed_then, staged_require, scan_stage, clear_items}
use Rattle.model.proofs.Accepted.{LaidOut, length-body, laid_out_lem, limits}
use Rattle.model.proofs.LayoutAgrees.{measured, section-length, region_formed, map_formed, supplied_formed}
use Rattle.model.proofs.StatementKinds.{opens_is}
use Rattle.model.proofs.VariablesAgree.{FormedBefore}
use Rattle.model.proofs.StatementsAgree.{formed_next, statement_formed_lem, statement_agrees_lem}
use Rattle.model.proofs.ParallelAgree.{loop_parallelizable}
use Rattle.model.proofs.SymbolsAgree.{has_symbol_lem, symbol_computed, symbol_most, symbol_grows}
use Rattle.model.proofs.NodesAgree.{node_formed_lem, node_agrees_lem, duplicate_node_lem as duplicate-agrees}
use Rattle.model.proofs.StepsAgree.{step_formed_lem, step_licence}
use Rattle.model.proofs.RecordsAgree.{upto, node_passes, step_passes, NodesRead, nodes_plainly, steps_plainly}
use Rattle.model.proofs.Demand2Loops.{not_implied, statement_passes, StatementsRead, all_formed, statements_pass, assignment_read, assignments_pass, need_symbol, need_agrees}
use Rattle.model.proofs.DataAgrees.{frame_fits, entry_fits_lem, supplied_right}

-- checks in a row, whichever way they are grouped
then_end : (a : Outcome) → a then (Ok tt) ≡ a
unfolding ◌then◌
then_end (Ok _) = refl
then_end (Err r) = refl

-- section and record of a place
section_of : (k r : ℕ) → r < 256 → (k * 256 + r) / 256 ≡ k
section_of k r l = omega arith

record_of : (k r : ℕ) → r < 256 → (k * 256 + r) % 256 ≡ r
record_of k r l = omega arith

-- where the checks of single items refuse
invalid_placed : (b : Bool) (k r : ℕ) → r < 256 → Placed (require b (InvalidRecord (k * 256 + r))) (10 * k) r
unfolding turn turns
invalid_placed b k r l = placed_require b _ (rw (section_of k r l), record_of k r l)

mismatch_placed : (b : Bool) (k r : ℕ) → r < 256 → Placed (require b (RegionMismatch (k * 256 + r))) (10 * k) r
unfolding turn turns
mismatch_placed b k r l = placed_require b _ (rw (section_of k r l), record_of k r l)

-- the turn of a section's 1
section_turn : (place n : ℕ) → place ≡ suc n → ((turn 1 place).stage ≡ 3) × ((turn 1 place).item ≡ suc n) × ((turn 1 place).check ≡ 0)
unfolding turn turns
section_turn place n e =
    rw (pick-false (place =? 0) (turn_at 1 0 0) (turn_at 3 place 0) (fails (refuted (λ z. let z = same z in omega arith)))) (refl, e, refl)

-- a section's 1 is not after a turn at the section
section_first : (t : Turn) (place n : ℕ) → t.stage ≡ 3 → t.item ≡ suc n → place ≡ suc n → Earlier t (turn 1 place) → ⊥
section_first t place n stage item e =
    let (s, i, c) = section_turn place n e in check_passed (s ∙ sym stage) (i ∙ sym item) (omega arith)

section_placed : (p : Bytes) (n : ℕ) → Placed (section_check p n) 3 (suc n)
unfolding section_check
section_placed p n =
    placed_then _ _ (placed_require _ _ (let w = section_turn _ n (omega arith) in (w.0, w.1))) (placed_require _ _ (unfold turn turns in (refl, refl)))

module _ (P : Plan) where
  region_placed : (r : ℕ) → r < 256 → Placed (region_check P r) 10 r
  unfolding region_check
  region_placed r l = invalid_placed _ 1 r l

  map_placed : (m : ℕ) → m < 256 → Placed (map_check P m) 20 m
  unfolding map_check
  map_placed m l = invalid_placed _ 2 m l

  supplied_placed : (k : ℕ) → k < 256 → Placed (supplied_check P k) 30 k
  unfolding supplied_check
  supplied_placed k l = invalid_placed _ 3 k l

  statement_placed : (s : ℕ) → s < 256 → Placed (statement_check P s) 40 s
  unfolding statement_check
  statement_placed s l = placed_then _ _ (invalid_placed _ 4 s l) (mismatch_placed _ 4 s l)

  loop_placed : (f : ℕ) → Placed (loop_check P f) (turn 8 f).stage f
  unfolding loop_check turn turns
  loop_placed f = placed_require _ _ (refl, refl)

  node_placed : (j : ℕ) → j < 256 → Placed (node_check P j) 50 j
  unfolding node_check turn turns
  node_placed j l = placed_then _ _ (invalid_placed _ 5 j l) (placed_then _ _ (mismatch_placed _ 5 j l) (placed_require _ _ (refl, refl)))

  assignment_placed : (s : ℕ) → s < 256 → Placed (assignment_check P s) 60 (symbol P s)
  unfolding assignment_check
  assignment_placed s l =
      let m = symbol_most P s in
      placed_then _ _ (invalid_placed _ 6 (symbol P s) (omega arith)) (mismatch_placed _ 6 (symbol P s) (omega arith))

  step_placed : (t : ℕ) → t < 256 → Placed (step_check P t) 70 t
  unfolding step_check turn turns
  step_placed t l = placed_then _ _ (invalid_placed _ 7 t l) (placed_require _ _ (refl, refl))

  need_placed : (s : ℕ) → Placed (need_check P s) (turn 11 0).stage (symbol P s)
  unfolding need_check turn turns
  need_placed s = placed_require _ _ (refl, refl)

  -- what sections 6 and the needs refuse for is a symbol's
  assignment_symbol : (s : ℕ) (q : Refusal) → assignment_check P s ≡ Err q → Is (has_symbol P s)
  unfolding assignment_check
  assignment_symbol s q e =
      then_cases _ _ q e (λ f. (not_implied (require_refuse _ _ q f).0).0) (λ l f. (not_implied (require_refuse _ _ q f).0).0)

  unmet_symbol : (s : ℕ) (q : Refusal) → need_check P s ≡ Err q → Is (has_symbol P s)
  unfolding need_check
  unmet_symbol s q e = (has_symbol_lem P s).1 (need_symbol P s (require_refuse _ _ q e).0)

-- a stage of the checks of plan and data set: its number in the order, which is that of some refusal, and what its checks say together
record Stage : Type 0 where
  number : ℕ
  outcome : Outcome

abbrev stage_of : ℕ → ℕ → Outcome → Stage
stage_of number place outcome = record { number = (turn number place).stage; outcome = outcome }

module _ (p d : Bytes) where
  unfoldable stages : List Stage
  stages =
      stage_of 1 0 (require (1 ≤? length p) (Truncated 0))
      ∷ stage_of 2 0 (require (byte p 0 =? 1) UnknownEdition)
      ∷ stage_of 1 1 (scan (section_check p) 0 7)
      ∷ stage_of 3 0 (require (length p ≤? boundary p 7) (TrailingBytes (boundary p 7)))
      ∷ stage_of 5 (1 * 256) (regions_check (plan_of p))
      ∷ stage_of 5 (2 * 256) (maps_check (plan_of p))
      ∷ stage_of 5 (3 * 256) (partitions_check (plan_of p))
      ∷ stage_of 5 (4 * 256) (statements_check (plan_of p))
      ∷ stage_of 8 0 (loops_check (plan_of p))
      ∷ stage_of 5 (5 * 256) (nodes_check (plan_of p))
      ∷ stage_of 9 0 (assignment_count_check (plan_of p))
      ∷ stage_of 5 (6 * 256) (assignments_check (plan_of p))
      ∷ stage_of 5 (7 * 256) (steps_check (plan_of p))
      ∷ stage_of 11 0 (needs_check (plan_of p))
      ∷ stage_of 12 0 (require (well_framed (plan_of p) d) InvalidData)
      ∷ stage_of 13 0 (scan (entries_check (plan_of p) (data_of d)) 0 (map_count (plan_of p)))
      ∷ stage_of 14 0 (scan (λ k. require (declarations_hold (plan_of p) (data_of d) k) (InvalidPartition k)) 0 (supplied_count (plan_of p)))
      ∷ []

  -- outcome and number of a stage, counted from 0
  unfoldable outcome_at : ℕ → Outcome
  outcome_at K = (get_or stages K (stage_of 0 0 (Ok tt))).outcome

  unfoldable number_at : ℕ → ℕ
  number_at K = (get_or stages K (stage_of 0 0 (Ok tt))).number

  -- the inputs are checked by these stages, one after the other
  in_stages : inputs_check p d ≡ scan outcome_at 0 17
  unfolding inputs_check plan_check layout_check records_check data_check scan outcome_at stages
  in_stages = simp (then_end, then_assoc)

  -- the stages come in the order of their numbers
  in_order : (j K : ℕ) → K < 17 → j < K → number_at j < number_at K
  in_order j K lk lj = less (every_at _ _ (every_at 17 (λ k. every k (λ j. number_at j <? number_at k)) ordered K lk) j lj)
    where
      ordered : Is (every 17 (λ k. every k (λ j. number_at j <? number_at k)))
      ordered = unfold turn turns pick ◌=?◌ number_at stages every ◌<?◌ ◌and◌ in refl

  -- the layout passed
  laid : ((i : ℕ) → i < 4 → outcome_at i ≡ Ok tt) → LaidOut p
  unfolding layout_check outcome_at stages
  laid h =
      laid_out_lem p (passes_then (h 0 (omega arith)) (passes_then (h 1 (omega arith)) (passes_then (h 2 (omega arith)) (h 3 (omega arith)))))

  -- what a stage refuses for, after those before it passed, has the stage's number
  abbrev Located : ℕ → Type 0
  Located j = ((i : ℕ) → i < j → outcome_at i ≡ Ok tt) → (s : Refusal) → outcome_at j ≡ Err s → (turn_of s).stage ≡ number_at j

  located : Firsts Located 0 17
  unfolding turn turns pick ◌=?◌ outcome_at number_at stages assignment_count_check entries_check
  located =
      (λ b. staged_require _ _ refl)
      also (λ b. staged_require _ _ refl)
      also (λ b. scan_stage _ _ _ (λ n l s e. (section_placed p n s e).0))
      also (λ b. staged_require _ _ refl)
      also (λ b. scan_stage _ _ _ (λ i l s e. (region_placed (plan_of p) i (omega (arith, (few b (omega arith)).few_regions)) s e).0))
      also (λ b. scan_stage _ _ _ (λ i l s e. (map_placed (plan_of p) i (omega (arith, (few b (omega arith)).few_maps)) s e).0))
      also (λ b. scan_stage _ _ _ (λ i l s e. (supplied_placed (plan_of p) i (omega (arith, (few b (omega arith)).few_supplied)) s e).0))
      also (λ b. scan_stage _ _ _ (λ i l s e. (statement_placed (plan_of p) i (omega (arith, (few b (omega arith)).few_statements)) s e).0))
      also (λ b. scan_stage _ _ _ (λ i l s e. (loop_placed (plan_of p) i s e).0))
      also (λ b. scan_stage _ _ _ (λ i l s e. (node_placed (plan_of p) i (omega (arith, (few b (omega arith)).few_nodes)) s e).0))
      also (λ b. staged_require _ _ refl)
      also (λ b. scan_stage _ _ _ (λ i l s e. (assignment_placed (plan_of p) i (omega (arith, (few b (omega arith)).few_statements)) s e).0))
      also (λ b. scan_stage _ _ _ (λ i l s e. (step_placed (plan_of p) i (omega (arith, (few b (omega arith)).few_steps)) s e).0))
      also (λ b. scan_stage _ _ _ (λ i l s e. (need_placed (plan_of p) i s e).0))
      also (λ b. staged_require _ _ refl)
      also (λ b. scan_stage _ _ _ (λ m l. scan_stage _ _ _ (λ k l. staged_require _ _ refl)))
      also (λ b. scan_stage _ _ _ (λ k l. staged_require _ _ refl))
      also tt
    where
      few : {j : ℕ} → ((i : ℕ) → i < j → outcome_at i ≡ Ok tt) → 4 ≤ j → Limits (plan_of p)
      few b l = limits p (laid (λ i k. b i (omega arith)))

  -- what the inputs are refused for comes before all that is asked after them
  inputs_early : (s : Refusal) → inputs_check p d ≡ Err s → (turn_of s).stage ≤ 100
  unfolding turn turns number_at stages
  inputs_early s e =
      let w = scan_refuse outcome_at 17 s (sym in_stages ∙ e) in
      let at = at_each Located 0 17 located w.at (omega arith) (omega (arith, w.inside)) (λ i l. w.before i (omega arith) l) s w.refuses in
      let few : number_at w.at ≤ number_at 16 = elim (dec_lt w.at 16) [
        | yes l ↦ let o = in_order w.at 16 (omega arith) l in omega arith
        | no l ↦ let z : w.at ≡ 16 = omega (arith, w.inside) in rw z (omega arith)
      ] in
      omega arith

  module _ (t : Turn) (h : ClearUpTo t (inputs_check p d)) where
    -- where nothing up to turn t is refused, the stages before it pass
    reached : (K : ℕ) → K < 17 → number_at K ≤ t.stage → ReachedAt t outcome_at K
    reached K l at =
        clear_scan t outcome_at 17 (rw in_stages at h) K l (λ j lj b s e.
        let w = at_each Located 0 17 located j (omega arith) (omega arith) b s e in
        let o = in_order j K l lj in
        stage_passed (omega arith))

    -- and where the turn is behind the layout's, the counts are in their limits
    limited : 10 ≤ t.stage → Limits (plan_of p)
    unfolding turn turns number_at stages
    limited l = limits p (laid (λ i k. (reached 4 (omega arith) l).before i k))

    -- the turn is at record r of section k
    abbrev AtRecord : ℕ → ℕ → Type 0
    AtRecord k r = (10 ≤ t.stage) × (r < 256 → (t.stage ≡ 10 * k) × (t.item ≡ r))

    at_place : (k r : ℕ) → 1 ≤ k → t.stage ≡ 10 * ((k * 256 + r) / 256) → t.item ≡ (k * 256 + r) % 256 → AtRecord k r
    at_place k r some stage item =
        (omega arith, λ l. (let e = section_of k r l in omega arith, let e = record_of k r l in omega arith))

    -- the records of a section up to that one
    record_reached :
        (K k n r : ℕ) (f : ℕ → Outcome) → K < 17 → outcome_at K ≡ scan f 0 n → number_at K ≡ 10 * k → (Limits (plan_of p) → n ≤ 256) →
        ((i : ℕ) → i < 256 → Placed (f i) (10 * k) i) → AtRecord k r → r < n → ReachedAt t f r
    record_reached K k n r f lk is number few placed (late, at) l =
        let most = few (limited late) in
        let (stage, item) = at (omega arith) in
        let R = reached K lk (omega arith) in
        clear_items t f n (10 * k) r (λ i. i) (rw is at R.here) l stage (λ i li. placed i (omega arith)) (λ i s li e. omega arith)

    region_reached : (r : ℕ) → AtRecord 1 r → r < region_count (plan_of p) → ReachedAt t (region_check (plan_of p)) r
    unfolding turn turns pick ◌=?◌ outcome_at number_at stages
    region_reached r = record_reached 4 1 _ r _ (omega arith) refl refl (λ L. omega (arith, L.few_regions)) (region_placed (plan_of p))

    map_reached : (m : ℕ) → AtRecord 2 m → m < map_count (plan_of p) → ReachedAt t (map_check (plan_of p)) m
    unfolding turn turns pick ◌=?◌ outcome_at number_at stages
    map_reached m = record_reached 5 2 _ m _ (omega arith) refl refl (λ L. omega (arith, L.few_maps)) (map_placed (plan_of p))

    supplied_reached : (k : ℕ) → AtRecord 3 k → k < supplied_count (plan_of p) → ReachedAt t (supplied_check (plan_of p)) k
    unfolding turn turns pick ◌=?◌ outcome_at number_at stages
    supplied_reached k = record_reached 6 3 _ k _ (omega arith) refl refl (λ L. omega (arith, L.few_supplied)) (supplied_placed (plan_of p))

    statement_reached : (s : ℕ) → AtRecord 4 s → s < statement_count (plan_of p) → ReachedAt t (statement_check (plan_of p)) s
    unfolding turn turns pick ◌=?◌ outcome_at number_at stages
    statement_reached s = record_reached 7 4 _ s _ (omega arith) refl refl (λ L. omega (arith, L.few_statements)) (statement_placed (plan_of p))

    node_reached : (j : ℕ) → AtRecord 5 j → j < node_count (plan_of p) → ReachedAt t (node_check (plan_of p)) j
    unfolding turn turns pick ◌=?◌ outcome_at number_at stages
    node_reached j = record_reached 9 5 _ j _ (omega arith) refl refl (λ L. omega (arith, L.few_nodes)) (node_placed (plan_of p))

    step_reached : (k : ℕ) → AtRecord 7 k → k < step_count (plan_of p) → ReachedAt t (step_check (plan_of p)) k
    unfolding turn turns pick ◌=?◌ outcome_at number_at stages
    step_reached k = record_reached 12 7 _ k _ (omega arith) refl refl (λ L. omega (arith, L.few_steps)) (step_placed (plan_of p))

    section_reached : (n : ℕ) → t.stage ≡ 3 → t.item ≡ suc n → n < 7 → ReachedAt t (section_check p) n
    unfolding turn turns pick ◌=?◌ outcome_at number_at stages
    section_reached n stage item l =
        clear_items t (section_check p) 7 3 n suc (reached 2 (omega arith) (omega arith)).here l stage (λ i li. section_placed p i)
        (λ i s li e. omega arith)

    -- sections 4, 5 and 6 as read before that
    statements_read : number_at 8 ≤ t.stage → StatementsRead (plan_of p)
    unfolding turn turns pick ◌=?◌ outcome_at number_at stages
    statements_read l = (statements_pass (plan_of p)).0 ((reached 8 (omega arith) l).before 7 (omega arith))

    nodes_read : number_at 10 ≤ t.stage → NodesRead (plan_of p)
    unfolding turn turns pick ◌=?◌ outcome_at number_at stages
    nodes_read l = nodes_plainly (plan_of p) ((reached 10 (omega arith) l).before 9 (omega arith))

    -- the statement that a symbol's turn is at
    assignment_reached :
        (s : ℕ) → AtRecord 6 (symbol (plan_of p) s) → s < statement_count (plan_of p) → ReachedAt t (assignment_check (plan_of p)) s
    unfolding turn turns pick ◌=?◌ outcome_at number_at stages
    assignment_reached s (late, at) l =
        let few = (limited late).few_statements in
        let m = symbol_most (plan_of p) s in
        let (stage, item) = at (omega arith) in
        clear_items t (assignment_check (plan_of p)) _ 60 s (symbol (plan_of p)) (reached 11 (omega arith) (omega arith)).here l stage
        (λ i li. assignment_placed (plan_of p) i (omega arith))
        (λ i q li e. let g = symbol_grows (plan_of p) i s li (assignment_symbol (plan_of p) i q e) in omega arith)

    need_reached : (s : ℕ) → t.stage ≡ number_at 13 → t.item ≡ symbol (plan_of p) s → s < statement_count (plan_of p) → ReachedAt t (need_check (plan_of p)) s
    unfolding turn turns pick ◌=?◌ outcome_at number_at stages
    need_reached s stage item l =
        clear_items t (need_check (plan_of p)) _ (number_at 13) s (symbol (plan_of p)) (reached 13 (omega arith) (omega arith)).here l stage
        (λ i li. need_placed (plan_of p) i)
        (λ i q li e. let g = symbol_grows (plan_of p) i s li (unmet_symbol (plan_of p) i q e) in omega arith)

  -- the rows of the table: where nothing is refused up to a row's turn, what it is given for is not so
  abbrev Clear : ℕ → ℕ → Type 0
  Clear number place = ClearUpTo (turn number place) (inputs_check p d)

  -- the layout
  some_byte : Clear 1 0 → 1 ≤ length p
  unfolding turn turns pick ◌=?◌ outcome_at number_at stages
  some_byte h = most (clear_test _ _ (reached _ h 0 (omega arith) (omega arith)).here not_itself)

  section_ends : (n : ℕ) → n < 7 → Clear 1 (suc n) → boundary p (suc n) ≤ length p
  unfolding section_check
  section_ends n l h =
      let at = section_turn (suc n) n refl in
      let R = section_reached _ h n at.0 at.1 l in
      most (both (clear_both _ _ _ R.here (section_first _ _ n at.0 at.1 (omega arith))).0).1

  edition_known : Clear 2 0 → byte p 0 ≡ 1
  unfolding turn turns pick ◌=?◌ outcome_at number_at stages
  edition_known h = same (clear_test _ _ (reached _ h 1 (omega arith) (omega arith)).here not_itself)

  nothing_after : Clear 3 (boundary p 7) → length p ≤ boundary p 7
  unfolding turn turns pick ◌=?◌ outcome_at number_at stages
  nothing_after h = most (clear_test _ _ (reached _ h 3 (omega arith) (omega arith)).here not_itself)

  section_measured : (n : ℕ) → n < 7 → Clear 4 (suc n) → SectionLength (suc n) (length (body p n))
  unfolding section_check measured turn turns
  section_measured n l h =
      let R = section_reached _ h n refl refl l in
      let (ends, rest) = clear_both _ _ _ R.here (section_first _ _ n refl refl (omega arith)) in
      let e = length-body p n (most (both ends).1) in
      rw e ((section-length n (u16 p (boundary p n)) l).0 (clear_test _ _ rest not_itself))

  -- sections 1 to 3
  region_clear : (r : ℕ) → r < region_count (plan_of p) → Clear 5 (1 * 256 + r) → (1 ≤ fields (plan_of p) r) × (fields (plan_of p) r ≤ 8)
  unfolding region_check turn turns
  region_clear r l h =
      let R = region_reached _ h r (at_place _ h 1 r (omega arith) refl refl) l in
      (region_formed (plan_of p) r).0 (required _ _ (clear_test _ _ R.here not_itself))

  map_clear :
      (m : ℕ) → m < map_count (plan_of p) → Clear 5 (2 * 256 + m) →
      (source (plan_of p) m < region_count (plan_of p)) × (target (plan_of p) m < region_count (plan_of p)) ×
      ((totality (plan_of p) m ≡ 0) ⊎ (totality (plan_of p) m ≡ 1))
  unfolding map_check turn turns
  map_clear m l h =
      let R = map_reached _ h m (at_place _ h 2 m (omega arith) refl refl) l in
      (map_formed (plan_of p) m).0 (required _ _ (clear_test _ _ R.here not_itself))

  supplied_clear :
      (k : ℕ) → k < supplied_count (plan_of p) → Clear 5 (3 * 256 + k) →
      (supplied_region (plan_of p) k < region_count (plan_of p)) × (supplied_flags (plan_of p) k ≤ 3)
  unfolding supplied_check turn turns
  supplied_clear k l h =
      let R = supplied_reached _ h k (at_place _ h 3 k (omega arith) refl refl) l in
      (supplied_formed (plan_of p) k).0 (required _ _ (clear_test _ _ R.here not_itself))

  -- section 4, and the loops after it
  formed_before : {t : Turn} {s : ℕ} → ReachedAt t (statement_check (plan_of p)) s → FormedBefore (plan_of p) s
  formed_before R i l = ((statement_passes (plan_of p) i).0 (R.before i l)).0

  statement_formed_clear : (s : ℕ) → s < statement_count (plan_of p) → Clear 5 (4 * 256 + s) → StatementFormed (plan_of p) s
  unfolding statement_check turn turns
  statement_formed_clear s l h =
      let R = statement_reached _ h s (at_place _ h 4 s (omega arith) refl refl) l in
      (statement_formed_lem (plan_of p) s (formed_before R)).0 (clear_both _ _ _ R.here not_itself).0

  statement_agrees_clear : (s : ℕ) → s < statement_count (plan_of p) → Clear 6 (4 * 256 + s) → StatementAgrees (plan_of p) s
  unfolding statement_check turn turns
  statement_agrees_clear s l h =
      let R = statement_reached _ h s (at_place _ h 4 s (omega arith) refl refl) l in
      let (formed, rest) = clear_both _ _ _ R.here (check_passed refl refl (omega arith)) in
      (statement_agrees_lem (plan_of p) s (formed_next (plan_of p) (formed_before R) formed)).0 (clear_test _ _ rest not_itself)

  loop_clear :
      (f : ℕ) → f < statement_count (plan_of p) → statement_kind (plan_of p) f ≡ 0 → Clear 8 f → ParallelizableLoop (plan_of p) f
  unfolding loop_check turn turns pick ◌=?◌ outcome_at number_at stages
  loop_clear f l e h =
      let R = clear_items _ (loop_check (plan_of p)) _ (turn 8 f).stage f (λ i. i) (reached _ h 8 (omega arith) (omega arith)).here l refl
      (λ i li. loop_placed (plan_of p) i) (λ i s li q. li) in
      let S = all_formed (plan_of p) (statements_read _ h (omega arith)) in
      (loop_parallelizable (plan_of p) S f).0 (implied (clear_test _ _ R.here not_itself) ((opens_is (plan_of p) f).1 e))

  -- section 5
  nodes_before : {t : Turn} {j : ℕ} → ReachedAt t (node_check (plan_of p)) j → (i : ℕ) → i < j → NodeFormed (plan_of p) i
  nodes_before R i l = (node_formed_lem (plan_of p) i).0 (node_passes (plan_of p) i (R.before i l)).0

  node_formed_clear : (j : ℕ) → j < node_count (plan_of p) → Clear 5 (5 * 256 + j) → NodeFormed (plan_of p) j
  unfolding node_check turn turns
  node_formed_clear j l h =
      let R = node_reached _ h j (at_place _ h 5 j (omega arith) refl refl) l in
      (node_formed_lem (plan_of p) j).0 (clear_both _ _ _ R.here not_itself).0

  node_agrees_clear : (j : ℕ) → j < node_count (plan_of p) → Clear 6 (5 * 256 + j) → NodeAgrees (plan_of p) j
  unfolding node_check turn turns
  node_agrees_clear j l h =
      let R = node_reached _ h j (at_place _ h 5 j (omega arith) refl refl) l in
      let (formed, rest) = clear_both _ _ _ R.here (check_passed refl refl (omega arith)) in
      (node_agrees_lem (plan_of p) j (upto j (nodes_before R) ((node_formed_lem (plan_of p) j).0 formed))).0 (clear_both _ _ _ rest not_itself).0

  node_new_clear : (j k : ℕ) → j < node_count (plan_of p) → k < j → SameNode (plan_of p) k j → Clear 7 j → ⊥
  unfolding node_check turn turns
  node_new_clear j k l lk w h =
      let few = (limited _ h (omega arith)).few_nodes in
      let R = node_reached _ h j (omega arith, λ l. (refl, refl)) l in
      let s = section_of 5 j (omega arith) in
      let i = record_of 5 j (omega arith) in
      let (formed, rest) = clear_both _ _ _ R.here (check_passed (rw s) i (omega arith)) in
      let (agrees, rest) = clear_both _ _ _ rest (check_passed (rw s) i (omega arith)) in
      lacks (clear_test _ _ rest not_itself) ((duplicate-agrees (plan_of p) j).1 (k, lk, w))

  -- section 6, and the count before it
  count_clear : (n : ℕ) → SymbolsBefore (plan_of p) (statement_count (plan_of p)) n → Clear 9 n → assignment_count (plan_of p) ≡ n
  unfolding assignment_count_check turn turns pick ◌=?◌ outcome_at number_at stages
  count_clear n w h =
      same (clear_test _ _ (reached _ h 10 (omega arith) (omega arith)).here not_itself) ∙ symbol_computed (plan_of p) w

  assigned_clear :
      (s : ℕ) → s < statement_count (plan_of p) → HasSymbol (plan_of p) s → Clear 5 (6 * 256 + symbol (plan_of p) s) →
      symbol_node (plan_of p) s < node_count (plan_of p)
  unfolding assignment_check turn turns
  assigned_clear s l y h =
      let R = assignment_reached _ h s (at_place _ h 6 _ (omega arith) refl refl) l in
      less (implied (clear_both _ _ _ R.here not_itself).0 ((has_symbol_lem (plan_of p) s).1 y))

  assigned_region_clear :
      (s : ℕ) → s < statement_count (plan_of p) → HasSymbol (plan_of p) s → Clear 6 (6 * 256 + symbol (plan_of p) s) →
      (r : ℕ) → SymbolRegion (plan_of p) s r → NodeRegion (plan_of p) (symbol_node (plan_of p) s) r
  unfolding assignment_check turn turns pick ◌=?◌ number_at stages
  assigned_region_clear s l y h =
      let at = at_place _ h 6 (symbol (plan_of p) s) (omega arith) refl refl in
      let few = (limited _ h at.0).few_statements in
      let m = symbol_most (plan_of p) s in
      let (stage, item) = at.1 (omega arith) in
      let R = assignment_reached _ h s at l in
      let (listed, rest) = clear_both _ _ _ R.here (check_passed refl refl (omega arith)) in
      (assignment_read (plan_of p) (statements_read _ h (omega arith)) (nodes_read _ h (omega arith)) s l y
      (passes_then (required _ _ listed) (required _ _ (clear_test _ _ rest not_itself)))).1

  -- section 7, and the needs
  step_formed_clear : (k : ℕ) → k < step_count (plan_of p) → Clear 5 (7 * 256 + k) → StepFormed (plan_of p) k
  unfolding step_check turn turns
  step_formed_clear k l h =
      let R = step_reached _ h k (at_place _ h 7 k (omega arith) refl refl) l in
      (step_formed_lem (plan_of p) k).0 (clear_both _ _ _ R.here not_itself).0

  licence_clear :
      (k : ℕ) → k < step_count (plan_of p) → Clear 10 k →
      Licence (plan_of p) (step_lemma (plan_of p) k) (step_x (plan_of p) k) (step_y (plan_of p) k) (step_p (plan_of p) k) (step_q (plan_of p) k)
  unfolding step_check turn turns
  licence_clear k l h =
      let few = (limited _ h (omega arith)).few_steps in
      let R = step_reached _ h k (omega arith, λ l. (refl, refl)) l in
      let s = section_of 7 k (omega arith) in
      let i = record_of 7 k (omega arith) in
      let (formed, rest) = clear_both _ _ _ R.here (check_passed (rw s) i (omega arith)) in
      (step_licence (plan_of p) k (upto k (λ i l. (step_passes (plan_of p) i (R.before i l)).0) formed)).0 (clear_test _ _ rest not_itself)

  needs_clear : (s : ℕ) → s < statement_count (plan_of p) → Clear 11 (symbol (plan_of p) s) → NeedsConcluded (plan_of p) s
  unfolding need_check turn turns pick ◌=?◌ outcome_at number_at stages
  needs_clear s l h =
      let R = need_reached _ h s refl refl l in
      let B = reached _ h 13 (omega arith) (omega arith) in
      let S = statements_read _ h (omega arith) in
      let N = nodes_read _ h (omega arith) in
      let A = (assignments_pass (plan_of p) S N).0 (B.before 11 (omega arith)) in
      let T = (steps_plainly (plan_of p) (B.before 12 (omega arith))).formed in
      (need_agrees (plan_of p) S N A T s l).0 (clear_test _ _ R.here not_itself)

  -- the data set
  frame_clear : Clear 12 0 → WellFramed (plan_of p) d
  unfolding turn turns pick ◌=?◌ outcome_at number_at stages
  frame_clear h = (frame_fits (plan_of p) d).0 (clear_test _ _ (reached _ h 14 (omega arith) (omega arith)).here not_itself)

  entry_clear :
      (m k : ℕ) → m < map_count (plan_of p) → k < size (data_of d) (source (plan_of p) m) → Clear 13 (m * 512 + k) →
      EntryFits (plan_of p) (data_of d) m k
  unfolding entries_check turn turns pick ◌=?◌ outcome_at number_at stages
  entry_clear m k lm lk h =
      let B = reached _ h 15 (omega arith) (omega arith) in
      let frame = (frame_fits (plan_of p) d).0 (require_pass _ _ (B.before 14 (omega arith))) in
      let few : (i : ℕ) → i < map_count (plan_of p) → size (data_of d) (source (plan_of p) i) ≤ 512 = λ i li.
      frame.sizes _ ((map_formed (plan_of p) i).0 (scan_pass _ _ (B.before 5 (omega arith)) i li)).0 in
      let M = clear_scan _ _ _ B.here m lm (λ i li b s e.
      let w = scan_refuse _ _ s e in
      let f = few i (omega arith) in
      let at = placed_require _ _ (refl, refl) s w.refuses in
      item_passed at.0 (omega (arith, at.1, w.inside))) in
      let K = clear_scan _ _ _ M.here k lk (λ i li b s e.
      let at = placed_require _ _ (refl, refl) s e in item_passed at.0 (omega (arith, at.1))) in
      (entry_fits_lem (plan_of p) (data_of d) m k).0 (clear_test _ _ K.here (check_passed refl (omega arith) (omega arith)))

  declarations_clear : (k : ℕ) → k < supplied_count (plan_of p) → Clear 14 k → DeclarationsHold (plan_of p) (data_of d) k
  unfolding turn turns pick ◌=?◌ outcome_at number_at stages
  declarations_clear k l h =
      let R = clear_items _ _ _ (turn 14 k).stage k (λ i. i) (reached _ h 16 (omega arith) (omega arith)).here l refl
      (λ i li. placed_require _ _ (refl, refl)) (λ i s li e. li) in
      (supplied_right (plan_of p) (data_of d) k).0 (clear_test _ _ R.here not_itself)

  -- nothing up to a turn is refused, and so no row is given there
  record_clear : {q : ℕ} → Clear 5 q → RecordInvalid (plan_of p) q → ⊥
  record_clear h (RecordInvalid.in_regions {r = r} e l n) = n (region_clear r l (rw e at h))
  record_clear h (RecordInvalid.in_maps {m = m} e l n) = n (map_clear m l (rw e at h))
  record_clear h (RecordInvalid.in_supplied {k = k} e l n) = n (supplied_clear k l (rw e at h))
  record_clear h (RecordInvalid.in_statements {s = s} e l n) = n (statement_formed_clear s l (rw e at h))
  record_clear h (RecordInvalid.in_nodes {j = j} e l n) = n (node_formed_clear j l (rw e at h))
  record_clear h (RecordInvalid.in_assignments {s = s} e l y w n) =
      n (rw (symbol_computed (plan_of p) w) at (assigned_clear s l y (rw (symbol_computed (plan_of p) w) (rw e at h))))
  record_clear h (RecordInvalid.in_steps {t = t} e l n) = n (step_formed_clear t l (rw e at h))

  regions_clear : {q : ℕ} → Clear 6 q → RegionsDisagree (plan_of p) q → ⊥
  regions_clear h (RegionsDisagree.in_statements {s = s} e l n) = n (statement_agrees_clear s l (rw e at h))
  regions_clear h (RegionsDisagree.in_nodes {j = j} e l n) = n (node_agrees_clear j l (rw e at h))
  regions_clear h (RegionsDisagree.in_assignments {s = s} e l y w n) =
      n (rw (symbol_computed (plan_of p) w) at (assigned_region_clear s l y (rw (symbol_computed (plan_of p) w) (rw e at h))))

  plan_clear : {n q : ℕ} → Clear n q → PlanGivenWhen p n q → ⊥
  plan_clear h (empty e f z) = let l = some_byte (rw (e, f) at h) in omega arith
  plan_clear h (truncated {n = n} e f l a b) = let c = section_ends n l (rw (e, f) at h) in omega arith
  plan_clear h (unknown_edition e f z) = z (edition_known (rw (e, f) at h))
  plan_clear h (trailing_bytes e f z) = let l = nothing_after (rw (e, f) at h) in omega arith
  plan_clear h (invalid_length {n = n} e f l z) = rw f at z (section_measured n l (rw (e, f) at h))
  plan_clear h (invalid_record e w) = record_clear (rw e at h) w
  plan_clear h (region_mismatch e w) = regions_clear (rw e at h) w
  plan_clear {q} h (duplicate_node_lem {earlier = k} e l a w) = node_new_clear q k l a w (rw e at h)
  plan_clear {q} h (not_parallelizable e l k z) = z (loop_clear q l k (rw e at h))
  plan_clear {q} h (assignment_count_lem e w z) = z (count_clear q w (rw e at h))
  plan_clear {q} h (unlicensed_step e l z) = z (licence_clear q l (rw e at h))
  plan_clear h (unmet_need {s = s} e l y w z) = z (needs_clear s l (rw (symbol_computed (plan_of p) w) (rw e at h)))

  data_clear : {n q : ℕ} → Clear n q → DataGivenWhen (plan_of p) d n q → ⊥
  data_clear h (invalid_data e f z) = z (frame_clear (rw (e, f) at h))
  data_clear h (invalid_entry {m = m} {k = k} e f lm lk z) = z (entry_clear m k (omega arith) (omega arith) (rw (e, f) at h))
  data_clear {q} h (invalid_partition e l z) = z (declarations_clear q (omega arith) (rw e at h))

  -- what comes after the inputs: where nothing up to a turn is refused, no row of theirs is given there, and they pass where the turn is later
  module _ (rest : Outcome) where
    pub plan_rows_clear : {n q : ℕ} → ClearUpTo (turn n q) (inputs_check p d then rest) → PlanGivenWhen p n q → ⊥
    plan_rows_clear h = plan_clear (clear_first _ _ h)

    pub data_rows_clear : {n q : ℕ} → ClearUpTo (turn n q) (inputs_check p d then rest) → DataGivenWhen (plan_of p) d n q → ⊥
    data_rows_clear h = data_clear (clear_first _ _ h)

    pub after_inputs :
        {t : Turn} → 100 < t.stage → ClearUpTo t (inputs_check p d then rest) → (inputs_check p d ≡ Ok tt) × ClearUpTo t rest
    after_inputs {t} late h =
        let pass = clear_passes t (inputs_check p d) (clear_first _ _ h) (λ s e. let l = inputs_early s e in stage_passed (omega arith)) in
        (pass, clear_next _ _ h pass)

-- nothing earlier than the refusal that is given is refused
pub clear_before :
    (o : Outcome) (r : Refusal) → o ≡ Err r → {t : Turn} → Earlier t (turn_of r) → ClearUpTo t o
clear_before o r h e s k = let is : r ≡ s = cc in rw is at e

-- by evaluating
pub evaluation_first :
    (p d : Bytes) (lent : ℕ) (r : Refusal) → evaluation_check p d lent ≡ Err r →
    (n q : ℕ) → Earlier (turn n q) (turn_of r) → EvaluationGivenWhen p d lent n q → ⊥
unfolding evaluation_check turn turns
evaluation_first p d lent r h n q e w = go (clear_before _ r h e) w
  where
    go : ClearUpTo (turn n q) (evaluation_check p d lent) → EvaluationGivenWhen p d lent n q → ⊥
    go c (of_plan w) = plan_rows_clear p d _ c w
    go c (of_data w) = data_rows_clear p d _ c w
    go c (of_output (output_too_small is f l)) =
        let m = most (clear_test _ _ (after_inputs p d _ (omega arith) (rw is at c)).1 (check_passed refl refl (omega arith))) in omega arith

-- and by checking
pub plan_first :
    (p : Bytes) (r : Refusal) → plan_check p ≡ Err r → (n q : ℕ) → Earlier (turn n q) (turn_of r) → PlanGivenWhen p n q → ⊥
unfolding inputs_check ◌then◌
plan_first p r h n q e = plan_rows_clear p [] (Ok tt) (clear_before _ r (rw (h, ◌then◌)) e)
