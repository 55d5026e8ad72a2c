-- Evaluating keeps its whole promise where its answer and its final words are the defined ones. Assumes nothing.
use Prim.Native.Nat.{ℕ, ◌+◌, ◌*◌, ◌≤◌, ◌<◌}
use mathlib.Core.Path.{◌≡◌, sym, ap, ◌∙◌}
use mathlib.Core.Logic.{inl, inr, ◌↔◌}
use mathlib.Core.List.{List}
use mathlib.Core.Bool.{false}
use native.Mathlib.Omega.{arith}
use lib.ListN.{length, drop}
use Rattle.std.specs.Prelude.{Err}
use Rattle.model.specs.Outcomes.{Answer}
use Rattle.model.specs.Tests.{Is}
use Rattle.model.specs.Answers.{report}
use Rattle.model.specs.Bytes.{Bytes}
use Rattle.model.specs.Layout.{plan_of, node_count}
use Rattle.model.specs.Nodes.{node_region}
use Rattle.model.specs.DataSets.{data_of, pieces, size}
use Rattle.model.specs.Membership.{member}
use Rattle.model.specs.Words.{holds}
use Rattle.model.specs.Evaluation.{words_needed, evaluation_check, evaluation, filled_words, words_after}
use Rattle.model.specs.Verdict.{verdict}
use Rattle.model.specs.PlainPlan.{WellFormed, Parallelizable, Licensed, Concluded}
use Rattle.model.specs.PlainData.{Fits}
use Rattle.model.specs.PlainSets.{OperatorSets}
use Rattle.model.specs.Promises.{Accepts, EvaluationPromise}
use Rattle.model.specs.declared.Refusal.{Refusal}
use Rattle.model.proofs.Tests.{split, fails}
use Rattle.model.proofs.Outcomes.{conclude_refused, conclude_pass}
use Rattle.model.proofs.Accepted.{plan_accepted}
use Rattle.model.proofs.DataAgrees.{data_fits}
use Rattle.model.proofs.Fitting.{fit}
use Rattle.model.proofs.NodeSets.{node_within}
use Rattle.model.proofs.SetsAgree.{sets_agree}
use Rattle.model.proofs.FinalWords.{filled_length, filled_later, filled_holds}
use Rattle.model.proofs.Demand3.{Evaluated, evaluated, acceptance_given, demand_3}
use Rattle.model.proofs.Undisturbed.{undisturbed}
use Rattle.model.proofs.FirstMet.{evaluation_first}
use Rattle.model.proofs.GivenWhen.{evaluation_refuses}
use Rattle.model.proofs.Demand2.{demand_2}

module _ (p d : Bytes) (old new : List ℕ) (r : Answer) (answers : r ≡ evaluation p d (length old)) (leaves : new ≡ words_after p d old r) where
  module _ (a : Accepts r) where
    checked : Evaluated p d (length old) a.0
    checked = evaluated p d (length old) _ (sym answers ∙ a.1)

    filled : new ≡ filled_words (plan_of p) (data_of d) old
    filled = leaves ∙ ap (words_after p d old) a.1

    exact : (j i e : ℕ) → j < node_count (plan_of p) → i < pieces (data_of d) → e < 512 →
        holds new ((j * pieces (data_of d) + i) * 8) e ≡ member (plan_of p) (data_of d) j i e
    exact j i e lj li le = rw filled (filled_holds (plan_of p) (data_of d) old checked.enough j i e lj li le)

    -- what the words hold are the operators' sets in the plain reading too
    follow : OperatorSets (plan_of p) (data_of d) (λ j i e. Is (holds new ((j * pieces (data_of d) + i) * 8) e))
    follow =
        (sets_agree (plan_of p) (data_of d) (plan_accepted p checked.plan_passes).records (fit (plan_of p) d checked.data_passes) _).1
        (λ j i e lj li le. let is = exact j i e lj li le in (λ h. sym is ∙ h, λ h. is ∙ h))

    outside : (j i e : ℕ) → j < node_count (plan_of p) → size (data_of d) (node_region (plan_of p) j) ≤ e → member (plan_of p) (data_of d) j i e ≡ false
    outside j i e lj le =
        elim (split (member (plan_of p) (data_of d) j i e)) [
          | inl m ↦
              let w = node_within (plan_of p) (data_of d) (plan_accepted p checked.plan_passes).records (fit (plan_of p) d checked.data_passes) j lj i e m in
              absurd (omega (arith, w.1))
          | inr n ↦ fails n
        ]

    kept : (length new ≡ length old) × (drop (words_needed (plan_of p) (data_of d)) new ≡ drop (words_needed (plan_of p) (data_of d)) old)
    kept = rw filled (filled_length (plan_of p) (data_of d) old, filled_later (plan_of p) (data_of d) old)

  refuses : (q : Refusal) → r ≡ Err q → evaluation_check p d (length old) ≡ Err q
  unfolding evaluation
  refuses q h = conclude_refused _ _ q (sym answers ∙ h)

  accepts : Accepts r ↔
      (WellFormed p × Parallelizable p × Licensed p × Concluded p × Fits (plan_of p) d × (words_needed (plan_of p) (data_of d) ≤ length old))
  unfolding verdict
  accepts = (
    λ a.
        let c = checked a in
        let (formed, loops, steps, needs) = (demand_2 p).0 (_, conclude_pass _ _ c.plan_passes) in
        (formed, loops, steps, needs, (data_fits (plan_of p) d).0 c.data_passes, c.enough),
    λ w.
        let (formed, loops, steps, needs, fits, enough) = w in
        let (a, h) = (demand_2 p).1 (formed, loops, steps, needs) in
        (a, answers ∙ acceptance_given p d (length old) a h ((data_fits (plan_of p) d).1 fits) enough),
  )

  pub evaluation_promise : EvaluationPromise p d old new r
  unfolding report
  evaluation_promise =
      record {
        answer = ap report answers;
        words = leaves;
        exactly = accepts;
        untouched = λ q h. leaves ∙ ap (words_after p d old) h;
        later = kept;
        refused = λ q h. rw h (evaluation_refuses p q d (length old) (refuses q h));
        first = λ q h. rw h (evaluation_first p d (length old) q (refuses q h));
        sets = exact;
        operator_sets = follow;
        above_size = λ a j i e lj li low high. exact a j i e lj li high ∙ outside a j i e lj low;
        legal = λ a. rw (filled a) (demand_3 p d old (checked a).plan_passes (checked a).data_passes (checked a).enough);
        undisturbed = λ a. undisturbed p d (accepts.0 a).1;
      }
