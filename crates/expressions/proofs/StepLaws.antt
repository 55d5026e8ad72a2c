-- Section 7: what a step's key says that it concludes, and what its form and its record say of it. Assumes nothing.
use Prim.Native.Nat.{ℕ, ◌+◌, ◌<◌}
use mathlib.Core.Path.{◌≡◌}
use mathlib.Core.Bool.{false}
use mathlib.Core.List.{List}
use native.Mathlib.Omega.{arith}
use lib.ListN.{get_or, length, set}
use Rattle.model.specs.Tests.{◌and◌, ◌=?◌}
use Rattle.model.specs.Layout.{Plan, step_count}
use Rattle.model.specs.Lemmas.{lemma_row, is_subset, is_disjoint, is_complete, concludes_subset, concludes_disjoint, concludes_complete, step_licensed, step_check}
use Rattle.model.specs.declared.Conclusion.{Conclusion}
use Rattle.model.specs.declared.Conclusion.TheVariants.{Subset, Disjoint, Complete}
use Rattle.model.specs.declared.Lemma.{Lemma}
use Rattle.model.proofs.Tests.{both, pair, same, same!, fails, refuted, same_truth}
use Rattle.primitives.proofs.Scanning.{Scanning}
use Rattle.expressions.proofs.NodeLaws.{equal_alike}
use Rattle.expressions.specs.Steps.{subset_key, disjoint_key, complete_key, conclusion_key, StepRead, FormedStep, ConclusionKey, ConclusionKeys}
use Rattle.expressions.specs.Licences.{licensed_as, PremiseKeys}
use Rattle.expressions.specs.declared.records.Step.{Step}
use Rattle.expressions.specs.declared.steps.Premises.{Premises}
use Rattle.primitives.proofs.Filling.{entry_next}

never_same : {a b : ℕ} → (a ≡ b → ⊥) → (a =? b) ≡ false
never_same h = fails (refuted (λ e. h (same e)))

subset_keys : {x y v w : ℕ} → x < 256 → y < 256 → v < 256 → w < 256 → (subset_key x y =? subset_key v w) ≡ (x =? v and y =? w)
subset_keys {x} {y} {v} {w} x< y< v< w< =
    same_truth
    (λ h. let e : subset_key x y ≡ subset_key v w = same h in pair (same! (omega arith)) (same! (omega arith)))
    (λ h. let e-x = same (both h).0 in let e-y = same (both h).1 in same! (omega arith))

-- what a lemma of some form concludes of bytes, compared with a conclusion
module _ {x y : ℕ} (x< : x < 256) (y< : y < 256) where
  subset_same : (form : Conclusion) {v w : ℕ} → v < 256 → w < 256
      → (conclusion_key form x y =? subset_key v w) ≡ (is_subset form and x =? v and y =? w)
  unfolding conclusion_key is_subset ◌and◌
  subset_same Subset v< w< = subset_keys x< y< v< w<
  subset_same Disjoint v< w< = never_same (λ e. omega arith)
  subset_same Complete v< w< = never_same (λ e. omega arith)

  disjoint_same : (form : Conclusion) {v : ℕ} → v < 256 → (conclusion_key form x y =? disjoint_key v) ≡ (is_disjoint form and x =? v)
  unfolding conclusion_key is_disjoint ◌and◌
  disjoint_same Subset v< = never_same (λ e. omega arith)
  disjoint_same Disjoint {v} v< = equal_alike (λ e. omega arith) (λ e. omega arith)
  disjoint_same Complete v< = never_same (λ e. omega arith)

  complete_same : (form : Conclusion) {v : ℕ} → v < 256 → (conclusion_key form x y =? complete_key v) ≡ (is_complete form and x =? v)
  unfolding conclusion_key is_complete ◌and◌
  complete_same Subset v< = never_same (λ e. omega arith)
  complete_same Disjoint v< = never_same (λ e. omega arith)
  complete_same Complete {v} v< = equal_alike (λ e. omega arith) (λ e. omega arith)

  small_key : (form : Conclusion) → conclusion_key form x y < 196608
  unfolding conclusion_key
  small_key Subset = omega arith
  small_key Disjoint = omega arith
  small_key Complete = omega arith

-- the key of step t, as it was read with its row
own_conclusion : {P : Plan} {t key : ℕ} {step : Step} {row : Lemma} → step.x < 256 → step.y < 256 → StepRead P t step
    → row ≡ lemma_row step.lemma → key ≡ conclusion_key row.conclusion step.x step.y → ConclusionKey P t key
unfolding concludes_subset concludes_disjoint concludes_complete
own_conclusion {P} {t} {key} {step} x< y< read listed is =
    record {
      subset = λ v w v< w<. rw (own, ← read.lemma, ← read.x, ← read.y) (subset_same x< y< _ v< w<);
      disjoint = λ v v<. rw (own, ← read.lemma, ← read.x) (disjoint_same x< y< _ v<);
      complete = λ v v<. rw (own, ← read.lemma, ← read.x) (complete_same x< y< _ v<);
      small = rw own (small_key x< y< _);
    }
  where
    own : key ≡ conclusion_key (lemma_row step.lemma).conclusion step.x step.y
    own = rw (is, listed)

-- once step t is stored
pub next_keys : {P : Plan} {t key : ℕ} {step : Step} {row : Lemma} (table : List ℕ) → t < length table → ConclusionKeys P t table
    → step.x < 256 → step.y < 256 → StepRead P t step → row ≡ lemma_row step.lemma → key ≡ conclusion_key row.conclusion step.x step.y
    → ConclusionKeys P (t + 1) (set table t key)
next_keys {P} {t} {key} table inside earlier x< y< read listed is =
    entry_next 0 (ConclusionKey P) table t key inside earlier (own_conclusion x< y< read listed is)

-- what steps p and q of step t conclude, as the table has it
pub premise_keys : {P : Plan} {step : Step} {t : ℕ} {r : Premises} (table : List ℕ) → ConclusionKeys P (t + 1) table → FormedStep step t
    → r.p ≡ get_or table step.p 0 → r.q ≡ get_or table step.q 0 → PremiseKeys P step r
premise_keys table keys formed p q =
    record { p = rw p (keys _ (omega (arith, formed.p))); q = rw q (keys _ (omega (arith, formed.q))) }

-- the licence of step t, as it was read
pub licence_known : {P : Plan} {t : ℕ} {step : Step} → StepRead P t step → licensed_as P step step.lemma ≡ step_licensed P t
unfolding step_licensed
licence_known read = rw (read.lemma, read.x, read.y, read.p, read.q)

-- the loop over the steps: the steps before step t passed, and the table has what they conclude
pub record StepsPassed (P : Plan) (table : List ℕ) (t : ℕ) : Type 0 where
  pub earlier : ConclusionKeys P t table
  pub scanning : Scanning (step_check P) (step_count P) t
