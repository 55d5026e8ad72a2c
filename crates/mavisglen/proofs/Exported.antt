-- An export keeps its promise where it returns the number of an answer that keeps the entry point's: what the answer reports is what the
-- definition reports, and that can be read from its number. Assumes nothing.
use Prim.Native.Nat.{ℕ}
use mathlib.Core.Path.{◌≡◌, sym, ap, ◌∙◌}
use mathlib.Core.List.{List}
use lib.ListN.{length}
use Rattle.model.specs.Outcomes.{Answer, Written, Charged}
use Rattle.model.specs.Bytes.{Bytes}
use Rattle.model.specs.Verdict.{verdict}
use Rattle.model.specs.Evaluation.{evaluation}
use Rattle.model.specs.Provenance.{explanation}
use Rattle.model.specs.Transfers.{charge}
use Rattle.model.specs.Packed.{Packing, packed_by, unpacked_by, answer_packing, packed, written_packing, charge_packing}
use Rattle.model.specs.Promises.{CheckPromise, EvaluationPromise, ExplanationPromise, ChargePromise}
use Rattle.model.specs.declared.Question.{Question}
use Rattle.model.specs.declared.Transfer.{Transfer}
use Rattle.model.proofs.Answers.{report_injective, written_injective, charge_injective}
use Rattle.model.proofs.Packed.{verdict_read, evaluation_read, explanation_read, charge_read_lem}
use Rattle.mavisglen.specs.Exported.{Exported, ExportedCheck, ExportedEvaluation, ExportedExplanation, ExportedCharge}

-- for answers of any type that what they report determines; `defined` is what the definition answers
exported :
    {A R : Type 0} (packing : Packing A R) → ((r s : A) → packing.report r ≡ packing.report s → r ≡ s) → (Promise : A → Type 0) (result : ℕ)
    (r defined : A) → result ≡ packed_by packing r → packing.report r ≡ packing.report defined →
    unpacked_by packing (packed_by packing defined) ≡ packing.report defined → Promise r → Exported packing Promise result
exported packing determined Promise result r defined e same read h =
    record {
      answer = r;
      packs = e;
      reads = ap (unpacked_by packing) (e ∙ ap (packed_by packing) (determined r defined same)) ∙ read ∙ sym same;
      promise = h;
    }

module _ (result : ℕ) (r : Answer) (e : result ≡ packed r) where
  pub exported_check : (p : Bytes) → CheckPromise p r → ExportedCheck p result
  exported_check p h = exported answer_packing report_injective (CheckPromise p) result r (verdict p) e h.answer (verdict_read p) h

  pub exported_evaluation : (p d : Bytes) (old new : List ℕ) → EvaluationPromise p d old new r → ExportedEvaluation p d old new result
  exported_evaluation p d old new h =
      exported answer_packing report_injective (EvaluationPromise p d old new) result r (evaluation p d (length old)) e h.answer
      (evaluation_read p d (length old)) h

pub exported_explanation :
    (result : ℕ) (r : Written) → result ≡ packed_by written_packing r → (p d : Bytes) (q : Question) (oldNodes newNodes oldElements newElements : List ℕ) →
    ExplanationPromise p d q oldNodes newNodes oldElements newElements r → ExportedExplanation p d q oldNodes newNodes oldElements newElements result
exported_explanation result r e p d q oldNodes newNodes oldElements newElements h =
    exported written_packing written_injective (ExplanationPromise p d q oldNodes newNodes oldElements newElements) result r
    (explanation p d q (length oldNodes) (length oldElements)) e h.answer (explanation_read p d q (length oldNodes) (length oldElements)) h

pub exported_charge :
    (result : ℕ) (r : Charged) → result ≡ packed_by charge_packing r → (p d : Bytes) (t : Transfer) → ChargePromise p d t r → ExportedCharge p d t result
exported_charge result r e p d t h =
    exported charge_packing charge_injective (ChargePromise p d t) result r (charge p d t) e h.answer (charge_read_lem p d t) h
