-- What the exported functions promise of the number that they return, for all inputs.
use Rattle.std.specs.Prelude.{ℕ, ◌≡◌, List}
use Rattle.model.specs.Bytes.{Bytes}
use Rattle.model.specs.Packed.{Packing, packed_by, unpacked_by, answer_packing, written_packing, charge_packing}
use Rattle.model.specs.Promises.{CheckPromise, EvaluationPromise, ExplanationPromise, ChargePromise}
use Rattle.model.specs.declared.Question.{Question}
use Rattle.model.specs.declared.Transfer.{Transfer}

-- the number returned is that of an answer which keeps the entry point's whole promise, and a caller reads from it what the answer reports
pub record Exported {A R : Type 0} (packing : Packing A R) (Promise : A → Type 0) (result : ℕ) : Type 0 where
  pub answer : A
  pub packs : result ≡ packed_by packing answer
  pub reads : unpacked_by packing result ≡ packing.report answer
  pub promise : Promise answer

-- checking the plan's bytes p: the promise of `check`
abbrev pub ExportedCheck : Bytes → ℕ → Type 0
ExportedCheck p = Exported answer_packing (CheckPromise p)

-- evaluating plan p over data set d into words that held `old`: the promise of `evaluate`, with the words `new` that it leaves
abbrev pub ExportedEvaluation : Bytes → Bytes → List ℕ → List ℕ → ℕ → Type 0
ExportedEvaluation p d old new = Exported answer_packing (EvaluationPromise p d old new)

-- explaining what q asks into slices that held the old lists: the promise of `explain`, with the new ones that it leaves
abbrev pub ExportedExplanation : Bytes → Bytes → Question → List ℕ → List ℕ → List ℕ → List ℕ → ℕ → Type 0
ExportedExplanation p d q oldNodes newNodes oldElements newElements =
    Exported written_packing (ExplanationPromise p d q oldNodes newNodes oldElements newElements)

-- charging for t: the promise of `charge`
abbrev pub ExportedCharge : Bytes → Bytes → Transfer → ℕ → Type 0
ExportedCharge p d t = Exported charge_packing (ChargePromise p d t)
