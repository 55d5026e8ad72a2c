-- Explaining keeps its whole promise where its answer and both slices are the defined ones. Assumes nothing.
use Prim.Native.Nat.{ℕ, ◌+◌, ◌≤◌, ◌<◌}
use mathlib.Core.Path.{◌≡◌, refl, sym, ap, ◌∙◌}
use mathlib.Core.Logic.Iff
use mathlib.Core.Logic.{◌⊎◌, inl, inr, ◌↔◌}
use mathlib.Core.List.{List}
use mathlib.Core.Bool.{Bool}
use native.Mathlib.Decide.{dec_lt}
use native.Mathlib.Omega.{arith}
use lib.ListN.{length, get_or, drop}
use Rattle.std.specs.Prelude.{Ok, Err}
use Rattle.model.specs.Outcomes.{Written}
use Rattle.model.specs.Tests.{Is, ◌and◌, non, ◌≤?◌}
use Rattle.model.specs.Answers.{refusal_report, written_report}
use Rattle.model.specs.Bytes.{Bytes}
use Rattle.model.specs.Layout.{Plan, plan_of, node_count}
use Rattle.model.specs.Nodes.{node_region}
use Rattle.model.specs.DataSets.{DataSet, data_of, pieces, size}
use Rattle.model.specs.Membership.{member}
use Rattle.model.specs.Words.{store, list_after}
use Rattle.model.specs.Evaluation.{inputs_check}
use Rattle.model.specs.declared.Question.{Question}
use Rattle.model.specs.Provenance.{chain_pair, pairs_needed, question_check, chain_room_check, explanation_check, explanation, nodes_after, elements_after}
use Rattle.model.specs.PlainPlan.{WellFormed, Parallelizable, Licensed, Concluded}
use Rattle.model.specs.PlainData.{Fits}
use Rattle.model.specs.PlainSets.{DefinedSets}
use Rattle.model.specs.Grounds.{PairExists, Grounds, Explainable}
use Rattle.model.specs.GivenWhen.{QuestionGivenWhen, no_node, no_piece, no_element, no_member, chain_too_long, ExplanationGivenWhen, of_plan, of_data, of_question, of_chain}
use Rattle.model.specs.RefusalOrder.{turns, turn, Earlier, by_stage, by_item, by_check}
use Rattle.model.specs.Promises.{ExplanationPromise}
use Rattle.model.specs.declared.Refusal.{Refusal}
use Rattle.model.proofs.Tests.{both, pair, lacks, less, less!, most, most! }
use Rattle.model.proofs.Outcomes.{then_pass, passes_then, then_cases, require_pass, required, require_refuse, conclude_ok, conclude_refused, conclude_pass}
use Rattle.model.proofs.Turns.{turn_of, check_passed, stage_passed, not_itself, ClearUpTo, clear_passes, clear_test, clear_first, clear_next, clear_both, Staged, staged_require, staged_then}
use Rattle.model.proofs.Words.{store_length, store_inside, store_behind}
use Rattle.model.proofs.Fitting.{Fit, fit}
use Rattle.model.proofs.DataAgrees.{data_refuses}
use Rattle.model.proofs.SetsAgree.{SameSets, sets_agree, members_follow}
use Rattle.model.proofs.Successors.{pair_exists, exists_inside, exists_few}
use Rattle.model.proofs.Provenance.{MembersOf, grounds_at, grounds_same, chain_only, chain_few, chain_grounds}
use Rattle.model.proofs.AcceptedInputs.{AcceptedInputs, inputs_accepted, inputs_exactly}
use Rattle.model.proofs.GivenWhen.{plan_refuses}
use Rattle.model.proofs.FirstMet.{plan_rows_clear, data_rows_clear, after_inputs, clear_before}

-- what is asked, of accepted inputs
module _ {p d : Bytes} (inputs : AcceptedInputs p d) (q : Question) where
  abbrev P : Plan
  P = plan_of p

  abbrev D : DataSet
  D = data_of d

  fitted : Fit P D
  fitted = fit P d inputs.fits

  -- sets that the operators define are the members
  same_sets : (sets : ℕ → ℕ → ℕ → Bool) → DefinedSets P D sets → SameSets P D (λ j i e. Is (sets j i e)) (MembersOf P D inputs.facts fitted q)
  same_sets sets defined = (sets_agree P D inputs.facts fitted _).0 defined

  exists : (element : ℕ) → q.node < node_count P → element < size D (node_region P q.node) → PairExists P D q.node element
  exists element lj le = pair_exists P D inputs.facts fitted q.piece q.node element lj le

  inside : PairExists P D q.node q.element → q.element < size D (node_region P q.node)
  inside x = exists_inside P D inputs.facts fitted q.piece x

  -- the question's own tests
  record Asked : Type 0 where
    node_listed : q.node < node_count P
    piece_listed : q.piece < pieces D
    element_inside : q.element < size D (node_region P q.node)
    holds : Is (member P D q.node q.piece q.element)

  asked_passes : (question_check P D q ≡ Ok tt) ↔ Asked
  unfolding question_check
  asked_passes = (
    λ h.
        let (node, h) = then_pass _ _ h in
        let (piece, h) = then_pass _ _ h in
        let (element, h) = then_pass _ _ h in
        record {
          node_listed = less (require_pass _ _ node);
          piece_listed = less (require_pass _ _ piece);
          element_inside = less (require_pass _ _ element);
          holds = require_pass _ _ h;
        },
    λ a.
        passes_then (required _ _ (less! a.node_listed))
        (passes_then (required _ _ (less! a.piece_listed))
        (passes_then (required _ _ (less! a.element_inside)) (required _ _ a.holds))),
  )

  -- 16 holds as the table says
  question_refuses : (r : Refusal) → question_check P D q ≡ Err r → QuestionGivenWhen P D q (refusal_report r).number (refusal_report r).place
  unfolding question_check
  question_refuses r h =
      then_cases _ _ r h (λ h. let (n, e) = require_refuse _ _ r h in rw (← e) (no_node refl refl (λ l. lacks n (less! l)))) λ node h.
      let lj = less (require_pass _ _ node) in
      then_cases _ _ r h (λ h. let (n, e) = require_refuse _ _ r h in rw (← e) (no_piece refl refl lj (λ l. lacks n (less! l)))) λ piece h.
      let li = less (require_pass _ _ piece) in
      then_cases _ _ r h
      (λ h. let (n, e) = require_refuse _ _ r h in rw (← e) (no_element refl refl lj li (λ x. lacks n (less! (inside x))))) λ element h.
      let (n, e) = require_refuse _ _ r h in
      let there = exists q.element lj (less (require_pass _ _ element)) in
      let few = exists_few P D inputs.facts fitted q.piece there in
      rw (← e) (no_member refl refl li there (λ sets defined m. lacks n ((same_sets sets defined _ _ _ lj li few).0 m)))

  -- and of nothing earlier
  question_staged : Staged (question_check P D q) (turn 16 1).stage
  unfolding question_check turn turns
  question_staged =
      staged_then _ _ (staged_require _ _ refl)
      (staged_then _ _ (staged_require _ _ refl) (staged_then _ _ (staged_require _ _ refl) (staged_require _ _ refl)))

  not_before : {a b : ℕ} → a ≤ b → Earlier (turn 16 b) (turn 16 a) → ⊥
  unfolding turn turns
  not_before le (by_stage l) = omega arith
  not_before le (by_item e l) = omega arith
  not_before le (by_check e f l) = omega arith

  question_clear : {n place : ℕ} → ClearUpTo (turn n place) (question_check P D q) → QuestionGivenWhen P D q n place → ⊥
  unfolding question_check turn turns
  question_clear h (no_node is at z) =
      let h = rw (is, at) at h in
      z (less (clear_both _ _ _ h not_itself).0)
  question_clear h (no_piece is at lj z) =
      let h = rw (is, at) at h in
      let (node, h) = clear_both _ _ _ h (not_before (omega arith)) in
      z (less (clear_both _ _ _ h not_itself).0)
  question_clear h (no_element is at lj li z) =
      let h = rw (is, at) at h in
      let (node, h) = clear_both _ _ _ h (not_before (omega arith)) in
      let (piece, h) = clear_both _ _ _ h (not_before (omega arith)) in
      z (exists q.element lj (less (clear_both _ _ _ h not_itself).0))
  question_clear h (no_member is at li x z) =
      let h = rw (is, at) at h in
      let (node, h) = clear_both _ _ _ h (not_before (omega arith)) in
      let (piece, h) = clear_both _ _ _ h (not_before (omega arith)) in
      let (element, h) = clear_both _ _ _ h (not_before (omega arith)) in
      z (member P D) (members_follow P D inputs.facts fitted) (clear_test _ _ h not_itself)

  -- the slices
  module _ (asked : Asked) where
    needed_few : pairs_needed P D q ≤ 48
    needed_few =
        let few = chain_few P D inputs.facts fitted q asked.node_listed asked.holds in
        omega (arith, inputs.limits.few_nodes, asked.node_listed)

    -- the chain has grounds in any reading of the sets, and no other chain has
    any_grounds :
        (sets : ℕ → ℕ → ℕ → Bool) → DefinedSets P D sets →
        Grounds P D (λ j i e. Is (sets j i e)) q (pairs_needed P D q) (λ k. (chain_pair P D q k).node) (λ k. (chain_pair P D q k).element)
    any_grounds sets defined =
        grounds_same P D inputs.facts fitted q _ _ (λ j i e lj li le. Iff.symm (same_sets sets defined j i e lj li le)) asked.piece_listed
        (chain_grounds P D inputs.facts fitted q asked.node_listed asked.holds)

  only_grounds :
      q.piece < pieces D → (sets : ℕ → ℕ → ℕ → Bool) → DefinedSets P D sets → {n : ℕ} {nodes elements : ℕ → ℕ} →
      Grounds P D (λ j i e. Is (sets j i e)) q n nodes elements →
      (n ≡ pairs_needed P D q) × ((k : ℕ) → k < n → (nodes k ≡ (chain_pair P D q k).node) × (elements k ≡ (chain_pair P D q k).element))
  only_grounds li sets defined G =
      chain_only P D inputs.facts fitted q _ _ _ (grounds_same P D inputs.facts fitted q _ _ (same_sets sets defined) li G)

-- the chain is short, wherever it is asked how long it is
pub explanation_needed :
    (p d : Bytes) (q : Question) → inputs_check p d ≡ Ok tt → question_check (plan_of p) (data_of d) q ≡ Ok tt → pairs_needed (plan_of p) (data_of d) q ≤ 48
explanation_needed p d q passed question = let inputs = inputs_accepted p d passed in needed_few inputs q ((asked_passes inputs q).0 question)

-- what explaining answers
module _ (p d : Bytes) (q : Question) (lentNodes lentElements : ℕ) where
  -- all its checks pass
  record Explained : Type 0 where
    inputs : AcceptedInputs p d
    asked : Asked inputs q
    room_nodes : pairs_needed (plan_of p) (data_of d) q ≤ lentNodes
    room_elements : pairs_needed (plan_of p) (data_of d) q ≤ lentElements

  explained : explanation_check p d q lentNodes lentElements ≡ Ok tt → Explained
  unfolding explanation_check chain_room_check
  explained h =
      let (inputs, h) = then_pass _ _ h in
      let (question, h) = then_pass _ _ h in
      let room = both (require_pass _ _ h) in
      record {
        inputs = inputs_accepted p d inputs;
        asked = (asked_passes (inputs_accepted p d inputs) q).0 question;
        room_nodes = most room.0;
        room_elements = most room.1;
      }

  -- T2b
  pub explanation_refuses :
      (r : Refusal) → explanation_check p d q lentNodes lentElements ≡ Err r →
      ExplanationGivenWhen p d q lentNodes lentElements (refusal_report r).number (refusal_report r).place
  unfolding explanation_check inputs_check chain_room_check
  explanation_refuses r h =
      then_cases _ _ r h
      (λ i. then_cases _ _ r i (λ e. of_plan (plan_refuses p r e)) λ plan e. of_data (data_refuses (plan_of p) d r e)) λ passed h.
      let inputs = inputs_accepted p d passed in
      then_cases _ _ r h (λ e. of_question (question_refuses inputs q r e)) λ question h.
      let asked = (asked_passes inputs q).0 question in
      let (n, e) = require_refuse _ _ r h in
      let sets = members_follow (plan_of p) (data_of d) inputs.facts (fitted inputs q) in
      rw (← e) (of_chain (chain_too_long refl asked.piece_listed sets (any_grounds inputs q asked (member (plan_of p) (data_of d)) sets) (short n)))
    where
      short : {a b c : ℕ} → Is (non (a ≤? b and a ≤? c)) → (b < a) ⊎ (c < a)
      short {a} {b} {c} n =
          elim (dec_lt b a) [
            | yes l ↦ inl l
            | no l ↦ elim (dec_lt c a) [ yes m ↦ inr m | no m ↦ absurd (lacks n (pair (most! (omega arith)) (most! (omega arith)))) ]
          ]

  -- "The first met is given"
  pub explanation_first :
      (r : Refusal) → explanation_check p d q lentNodes lentElements ≡ Err r → (n place : ℕ) → Earlier (turn n place) (turn_of r) →
      ExplanationGivenWhen p d q lentNodes lentElements n place → ⊥
  unfolding explanation_check chain_room_check turn turns
  explanation_first r h n place e w = go (clear_before _ r h e) w
    where
      go : ClearUpTo (turn n place) (explanation_check p d q lentNodes lentElements) → ExplanationGivenWhen p d q lentNodes lentElements n place → ⊥
      go c (of_plan w) = plan_rows_clear p d _ c w
      go c (of_data w) = data_rows_clear p d _ c w
      go c (of_question w) = of_16 w
        where
          late : QuestionGivenWhen (plan_of p) (data_of d) q n place → n ≡ 16
          late (no_node is at z) = is
          late (no_piece is at l z) = is
          late (no_element is at l m z) = is
          late (no_member is at l x z) = is

          of_16 : QuestionGivenWhen (plan_of p) (data_of d) q n place → ⊥
          of_16 w =
              let is = late w in
              let (inputs, c) = after_inputs p d _ (rw is (omega arith)) c in
              question_clear (inputs_accepted p d inputs) q (clear_first _ _ c) w
      go c (of_chain (chain_too_long {sets = sets} is li defined G short)) =
          let (passed, c) = after_inputs p d _ (rw is (omega arith)) c in
          let inputs = inputs_accepted p d passed in
          let question = clear_passes _ _ (clear_first _ _ c) (λ s e. let l = question_staged inputs q s e in rw is (stage_passed (omega arith))) in
          let room = both (clear_test _ _ (clear_next _ _ c question) (rw is (check_passed refl refl (omega arith)))) in
          let same = (only_grounds inputs q li sets defined G).0 in
          let a = most room.0 in
          let b = most room.1 in
          elim short [ inl l ↦ omega arith | inr l ↦ omega arith ]

  -- a chain is written exactly when the plain statements hold
  passes_exactly :
      (explanation_check p d q lentNodes lentElements ≡ Ok tt) ↔
      (WellFormed p × Parallelizable p × Licensed p × Concluded p × Fits (plan_of p) d × Explainable (plan_of p) (data_of d) q lentNodes lentElements)
  unfolding explanation_check chain_room_check
  passes_exactly = (
    λ h.
        let (formed, loops, steps, needs, fits) = (inputs_exactly p d).0 (then_pass _ _ h).0 in
        (formed, loops, steps, needs, fits, plainly (explained h)),
    λ w.
        let (formed, loops, steps, needs, fits, x) = w in
        let passed = (inputs_exactly p d).1 (formed, loops, steps, needs, fits) in
        let inputs = inputs_accepted p d passed in
        let asked = asks inputs x in
        let sets = members_follow (plan_of p) (data_of d) inputs.facts (fitted inputs q) in
        let room = x.room (member (plan_of p) (data_of d)) sets _ _ _ (any_grounds inputs q asked _ sets) in
        passes_then passed (passes_then ((asked_passes inputs q).1 asked) (required _ _ (pair (most! room.0) (most! room.1)))),
  )
    where
      asks : (inputs : AcceptedInputs p d) → Explainable (plan_of p) (data_of d) q lentNodes lentElements → Asked inputs q
      asks inputs x =
          record {
            node_listed = x.pair_exists.node_exists;
            piece_listed = x.piece_exists;
            element_inside = inside inputs q x.pair_exists;
            holds = x.member (member (plan_of p) (data_of d)) (members_follow (plan_of p) (data_of d) inputs.facts (fitted inputs q));
          }

      plainly : Explained → Explainable (plan_of p) (data_of d) q lentNodes lentElements
      plainly w =
          let a = w.asked in
          let there = exists w.inputs q q.element a.node_listed a.element_inside in
          let few = exists_few (plan_of p) (data_of d) w.inputs.facts (fitted w.inputs q) q.piece there in
          record {
            piece_exists = a.piece_listed;
            pair_exists = there;
            member = λ sets defined. (same_sets w.inputs q sets defined _ _ _ a.node_listed a.piece_listed few).1 a.holds;
            room = λ sets defined n nodes elements G.
                let same = (only_grounds w.inputs q a.piece_listed sets defined G).0 in
                (rw same w.room_nodes, rw same w.room_elements);
          }

-- explaining into slices that held these
module _ (p d : Bytes) (q : Question) (oldNodes newNodes oldElements newElements : List ℕ) (r : Written)
    (answers : r ≡ explanation p d q (length oldNodes) (length oldElements)) (leaves-nodes : newNodes ≡ nodes_after p d q oldNodes r)
    (leaves-elements : newElements ≡ elements_after p d q oldElements r) where
  -- all checks pass, and the length is that of the chain
  module _ (n : ℕ) (is : r ≡ Ok n) where
    passes : (explanation_check p d q (length oldNodes) (length oldElements) ≡ Ok tt) × (pairs_needed (plan_of p) (data_of d) q ≡ n)
    unfolding explanation
    passes = conclude_ok _ _ n (sym answers ∙ is)

    done : Explained p d q (length oldNodes) (length oldElements)
    done = explained p d q _ _ passes.0

    -- a slice after it, of values stored from its start on
    module _ (value : ℕ → ℕ) (old new : List ℕ) (leaves : new ≡ list_after value old r) where
      stored : new ≡ store old 0 n value
      unfolding list_after
      stored = leaves ∙ ap (list_after value old) is

      kept : (length new ≡ length old) × (drop n new ≡ drop n old)
      kept = rw stored (store_length old 0 n value, store_behind old 0 n n value (omega arith))

      value_at : n ≤ length old → (k : ℕ) → k < n → get_or new k 0 ≡ value k
      value_at room k lt = let z : 0 + k ≡ k = omega arith in rw stored (rw z at (store_inside old 0 n value k (omega arith) lt))

    -- the pair that stands at a position
    pairs_at : (k : ℕ) → k < n →
        (get_or newNodes k 0 ≡ (chain_pair (plan_of p) (data_of d) q k).node) × (get_or newElements k 0 ≡ (chain_pair (plan_of p) (data_of d) q k).element)
    pairs_at k lt = (
      value_at _ oldNodes newNodes leaves-nodes (omega (arith, passes.1, done.room_nodes)) k lt,
      value_at _ oldElements newElements leaves-elements (omega (arith, passes.1, done.room_elements)) k lt,
    )

    length_few : n ≤ 48
    length_few = omega (arith, passes.1, needed_few done.inputs q done.asked)

    has_grounds :
        (sets : ℕ → ℕ → ℕ → Bool) → DefinedSets (plan_of p) (data_of d) sets →
        Grounds (plan_of p) (data_of d) (λ j i e. Is (sets j i e)) q n (λ k. get_or newNodes k 0) (λ k. get_or newElements k 0)
    has_grounds sets defined =
        grounds_at (plan_of p) (data_of d) _ q (rw passes.1 at (any_grounds done.inputs q done.asked sets defined)) pairs_at

    no_other :
        (sets : ℕ → ℕ → ℕ → Bool) → DefinedSets (plan_of p) (data_of d) sets →
        (m : ℕ) (nodes elements : ℕ → ℕ) → Grounds (plan_of p) (data_of d) (λ j i e. Is (sets j i e)) q m nodes elements →
        (m ≡ n) × ((k : ℕ) → k < n → (nodes k ≡ get_or newNodes k 0) × (elements k ≡ get_or newElements k 0))
    no_other sets defined m nodes elements G =
        let (length, pairs) = only_grounds done.inputs q done.asked.piece_listed sets defined G in
        let same : m ≡ n = length ∙ passes.1 in
        (same, λ k lt. let (a, b) = pairs k (omega arith) in let (c, e) = pairs_at k lt in (a ∙ sym c, b ∙ sym e))

  refuses : (s : Refusal) → r ≡ Err s → explanation_check p d q (length oldNodes) (length oldElements) ≡ Err s
  unfolding explanation
  refuses s is = conclude_refused _ _ s (sym answers ∙ is)

  pub explanation_promise : ExplanationPromise p d q oldNodes newNodes oldElements newElements r
  unfolding written_report explanation list_after
  explanation_promise =
      record {
        answer = ap written_report answers;
        nodes = leaves-nodes;
        elements = leaves-elements;
        exactly = (
          λ w. (passes_exactly p d q _ _).0 (passes w.0 w.1).0,
          λ w. (_, answers ∙ conclude_pass _ _ ((passes_exactly p d q _ _).1 w)),
        );
        untouched = λ s is. (leaves-nodes ∙ rw is, leaves-elements ∙ rw is);
        later = λ n is.
            let (a, b) = kept n is _ oldNodes newNodes leaves-nodes in
            let (c, e) = kept n is _ oldElements newElements leaves-elements in
            (a, b, c, e);
        refused = λ s is. rw is (explanation_refuses p d q _ _ s (refuses s is));
        first = λ s is. rw is (explanation_first p d q _ _ s (refuses s is));
        few = length_few;
        grounds = has_grounds;
        only = no_other;
      }
