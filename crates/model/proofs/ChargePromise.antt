-- Charging keeps its whole promise where its answer is the defined one. Assumes nothing.
use Prim.Native.Nat.{ℕ, ◌*◌, ◌≤◌, ◌<◌}
use mathlib.Core.Path.{◌≡◌, refl, sym, ap, ◌∙◌}
use mathlib.Core.Logic.{◌⊎◌, inl, inr, ◌↔◌}
use native.Mathlib.Nat.{div-add-mod', mod-lt}
use native.Mathlib.Omega.{arith}
use Rattle.std.specs.Prelude.{Ok, Err}
use Rattle.model.specs.Outcomes.{Charged}
use Rattle.model.specs.Tests.{Is, ◌and◌, ◌=?◌, ◌<?◌}
use Rattle.model.specs.Answers.{refusal_report, charge_report}
use Rattle.model.specs.Bytes.{Bytes}
use Rattle.model.specs.Layout.{Plan, plan_of, node_count}
use Rattle.model.specs.Nodes.{node_region}
use Rattle.model.specs.DataSets.{data_of}
use Rattle.model.specs.Evaluation.{inputs_check}
use Rattle.model.specs.LoopRelations.{NodeRegion}
use Rattle.model.specs.declared.Transfer.{Transfer}
use Rattle.model.specs.Transfers.{transfer_count, transfer_check, priced, charge_check, charge}
use Rattle.model.specs.Fetches.{BothExist, OneRegion, Chargeable}
use Rattle.model.specs.PlainPlan.{WellFormed, Parallelizable, Licensed, Concluded}
use Rattle.model.specs.PlainData.{Fits}
use Rattle.model.specs.GivenWhen.{TransferGivenWhen, no_node, regions_differ, price_too_high, ChargeGivenWhen, of_plan, of_data, of_transfer}
use Rattle.model.specs.RefusalOrder.{turns, turn, Earlier, by_stage, by_item, by_check}
use Rattle.model.specs.Promises.{ChargeMeans, ChargePromise}
use Rattle.model.specs.declared.Refusal.{Refusal}
use Rattle.model.specs.declared.Charge.{Charge}
use Rattle.model.proofs.Tests.{both, pair, lacks, less, less!, most, most!, same, same! }
use Rattle.model.proofs.Outcomes.{then_pass, passes_then, then_cases, require_pass, required, require_refuse, conclude_ok, conclude_refused, conclude_pass}
use Rattle.model.proofs.Turns.{turn_of, not_itself, ClearUpTo, clear_test, clear_both}
use Rattle.model.proofs.Fitting.{Fit, fit}
use Rattle.model.proofs.DataAgrees.{data_refuses}
use Rattle.model.proofs.NodesAgree.{node_formed_lem, region_is, node_region_lem}
use Rattle.model.proofs.Counting.{numbered_once}
use Rattle.model.proofs.Transfers.{ones_are_fetched, fetched_numbered, nothing_fetched, fetched_most, fetched_few}
use Rattle.model.proofs.AcceptedInputs.{AcceptedInputs, inputs_accepted, inputs_exactly}
use Rattle.model.proofs.GivenWhen.{plan_refuses}
use Rattle.model.proofs.FirstMet.{plan_rows_clear, data_rows_clear, after_inputs, clear_before}

-- nodes and price, of accepted inputs
module _ {p d : Bytes} (inputs : AcceptedInputs p d) (t : Transfer) where
  abbrev P : Plan
  P = plan_of p

  region_of : (j : ℕ) → j < node_count P → NodeRegion P j (node_region P j)
  region_of j lj = (node_region_lem P j (node_region P j) (λ k le. (node_formed_lem P k).0 (inputs.facts.node_formed_lem k (omega arith)))).0 refl

  -- the plain readings of the three tests
  nodes_listed : Is (t.accessed <? node_count P and t.owned <? node_count P) ↔ BothExist P t
  nodes_listed = (
    λ h. record { accessed_exists = less (both h).0; owned_exists = less (both h).1 },
    λ w. pair (less! w.accessed_exists) (less! w.owned_exists),
  )

  same_region_lem : BothExist P t → Is (node_region P t.accessed =? node_region P t.owned) ↔ OneRegion P t
  same_region_lem nodes = (
    λ h r s a o. sym (region_is P a) ∙ same h ∙ region_is P o,
    λ w. same! (w _ _ (region_of _ nodes.accessed_exists) (region_of _ nodes.owned_exists)),
  )

  chargeable : (transfer_check P t ≡ Ok tt) ↔ Chargeable P t
  unfolding transfer_check
  chargeable = (
    λ h.
        let (listed, h) = then_pass _ _ h in
        let (regions, h) = then_pass _ _ h in
        let nodes = nodes_listed.0 (require_pass _ _ listed) in
        record {
          both_exist = nodes;
          one_region = (same_region_lem nodes).0 (require_pass _ _ regions);
          price_listed = most (require_pass _ _ h);
        },
    λ c.
        passes_then (required _ _ (nodes_listed.1 c.both_exist))
        (passes_then (required _ _ ((same_region_lem c.both_exist).1 c.one_region)) (required _ _ (most! c.price_listed))),
  )

  -- 17 holds as the table says
  transfer_refuses : (r : Refusal) → transfer_check P t ≡ Err r → TransferGivenWhen P t (refusal_report r).number (refusal_report r).place
  unfolding transfer_check
  transfer_refuses r h =
      then_cases _ _ r h
      (λ h. let (n, e) = require_refuse _ _ r h in rw (← e) (no_node refl refl (λ w. lacks n (nodes_listed.1 w)))) λ listed h.
      let nodes = nodes_listed.0 (require_pass _ _ listed) in
      then_cases _ _ r h
      (λ h. let (n, e) = require_refuse _ _ r h in rw (← e) (regions_differ refl refl nodes (λ w. lacks n ((same_region_lem nodes).1 w)))) λ regions h.
      let (n, e) = require_refuse _ _ r h in
      let high : (t.price ≤ 1000000 → ⊥) = λ l. lacks n (most! l) in
      rw (← e) (price_too_high refl refl nodes ((same_region_lem nodes).0 (require_pass _ _ regions)) (omega (arith, high)))

  -- and nothing earlier does
  not_before : {a b : ℕ} → a ≤ b → Earlier (turn 17 b) (turn 17 a) → ⊥
  unfolding turn turns
  not_before le (by_stage l) = omega arith
  not_before le (by_item e l) = omega arith
  not_before le (by_check e f l) = omega arith

  transfer_clear : {n place : ℕ} → ClearUpTo (turn n place) (transfer_check P t) → TransferGivenWhen P t n place → ⊥
  unfolding transfer_check turn turns
  transfer_clear h (no_node is at z) =
      let h = rw (is, at) at h in
      z (nodes_listed.0 (clear_both _ _ _ h not_itself).0)
  transfer_clear h (regions_differ is at nodes z) =
      let h = rw (is, at) at h in
      let (listed, h) = clear_both _ _ _ h (not_before (omega arith)) in
      z ((same_region_lem nodes).0 (clear_both _ _ _ h not_itself).0)
  transfer_clear h (price_too_high is at nodes region high) =
      let h = rw (is, at) at h in
      let (listed, h) = clear_both _ _ _ h (not_before (omega arith)) in
      let (regions, h) = clear_both _ _ _ h (not_before (omega arith)) in
      let low = most (clear_test _ _ h not_itself) in
      omega arith

-- what charging answers
module _ (p d : Bytes) (t : Transfer) where
  -- T2b
  charge_refuses : (r : Refusal) → charge_check p d t ≡ Err r → ChargeGivenWhen p d t (refusal_report r).number (refusal_report r).place
  unfolding charge_check inputs_check
  charge_refuses r h =
      then_cases _ _ r h
      (λ i. then_cases _ _ r i (λ e. of_plan (plan_refuses p r e)) λ plan e. of_data (data_refuses (plan_of p) d r e)) λ passed h.
      of_transfer (transfer_refuses (inputs_accepted p d passed) t r h)

  -- "The first met is given"
  charge_first :
      (r : Refusal) → charge_check p d t ≡ Err r → (n place : ℕ) → Earlier (turn n place) (turn_of r) → ChargeGivenWhen p d t n place → ⊥
  unfolding charge_check turn turns
  charge_first r h n place e w = go (clear_before _ r h e) w
    where
      late : TransferGivenWhen (plan_of p) t n place → n ≡ 17
      late (no_node is at z) = is
      late (regions_differ is at nodes z) = is
      late (price_too_high is at nodes region high) = is

      go : ClearUpTo (turn n place) (charge_check p d t) → ChargeGivenWhen p d t n place → ⊥
      go c (of_plan w) = plan_rows_clear p d _ c w
      go c (of_data w) = data_rows_clear p d _ c w
      go c (of_transfer w) =
          let is = late w in
          let (passed, c) = after_inputs p d _ (rw is (omega arith)) c in
          transfer_clear (inputs_accepted p d passed) t c w

  -- a charge is made exactly when the plain statements hold
  passes_exactly :
      (charge_check p d t ≡ Ok tt) ↔
      (WellFormed p × Parallelizable p × Licensed p × Concluded p × Fits (plan_of p) d × Chargeable (plan_of p) t)
  unfolding charge_check
  passes_exactly = (
    λ h.
        let (passed, h) = then_pass _ _ h in
        let (formed, loops, steps, needs, fits) = (inputs_exactly p d).0 passed in
        (formed, loops, steps, needs, fits, (chargeable (inputs_accepted p d passed) t).0 h),
    λ w.
        let (formed, loops, steps, needs, fits, c) = w in
        let passed = (inputs_exactly p d).1 (formed, loops, steps, needs, fits) in
        passes_then passed ((chargeable (inputs_accepted p d passed) t).1 c),
  )

  -- the three numbers, once all checks passed
  module _ (passed : charge_check p d t ≡ Ok tt) where
    inputs : AcceptedInputs p d
    unfolding charge_check
    inputs = inputs_accepted p d (then_pass _ _ passed).0

    may : Chargeable (plan_of p) t
    may = let (formed, loops, steps, needs, fits, c) = passes_exactly.0 passed in c

    fitted : Fit (plan_of p) (data_of d)
    fitted = fit (plan_of p) d inputs.fits

    -- eight thousand million at most, a number of 64 bits by far
    pub charge_few : (transfer_count (plan_of p) (data_of d) t ≤ 8192) × (t.price ≤ 1000000)
    charge_few = (fetched_few (plan_of p) (data_of d) inputs.facts fitted t may.both_exist, may.price_listed)

    charge_means : (n : ℕ) → n ≡ transfer_count (plan_of p) (data_of d) t → ChargeMeans p d t (priced n t.price)
    unfolding priced
    charge_means n is =
        let F = inputs.facts in
        let nodes = may.both_exist in
        record {
          counted = λ sets defined. rw is (fetched_numbered (plan_of p) (data_of d) F fitted t nodes sets defined);
          only_count = λ sets defined m N. numbered_once N (fetched_numbered (plan_of p) (data_of d) F fitted t nodes sets defined) ∙ sym is;
          one_bits = λ old new a E accepts. is ∙ sym (ones_are_fetched (plan_of p) (data_of d) F fitted t nodes new _ refl
              (λ j i e of li le. E.sets accepts j i e (listed nodes of) li le));
          exact = div-add-mod' (n * t.price) 1000;
          below_a_cent = mod-lt (n * t.price) (omega arith);
          contained = λ sets defined. rw is (nothing_fetched (plan_of p) (data_of d) F fitted t nodes sets defined);
          most = λ r R. rw is (rw (region_is (plan_of p) R) at (fetched_most (plan_of p) (data_of d) F fitted t nodes));
        }
      where
        listed : BothExist (plan_of p) t → {j : ℕ} → (j ≡ t.accessed) ⊎ (j ≡ t.owned) → j < node_count (plan_of p)
        listed nodes (inl is) = rw is nodes.accessed_exists
        listed nodes (inr is) = rw is nodes.owned_exists

  -- an answer that is the definition's
  module _ (r : Charged) (answers : r ≡ charge p d t) where
    charges : (c : Charge) → r ≡ Ok c → ChargeMeans p d t c
    unfolding charge
    charges c is =
        let (passed, told) = conclude_ok _ _ _ (sym answers ∙ is) in rw (← told) (charge_means passed _ refl)

    refuses : (s : Refusal) → r ≡ Err s → charge_check p d t ≡ Err s
    unfolding charge
    refuses s is = conclude_refused _ _ s (sym answers ∙ is)

    pub charge_promise : ChargePromise p d t r
    unfolding charge_report charge priced
    charge_promise =
        record {
          answer = ap charge_report answers;
          exactly = (
            λ w. passes_exactly.0 (conclude_ok _ _ _ (sym answers ∙ w.1)).0,
            λ w. (_, answers ∙ conclude_pass _ _ (passes_exactly.1 w)),
          );
          refused = λ s is. rw is (charge_refuses s (refuses s is));
          first = λ s is. rw is (charge_first s (refuses s is));
          means = charges;
        }
