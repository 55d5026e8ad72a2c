-- Whether a step is by its lemma.
use Rattle.std.specs.Prelude.{ℕ, Bool}
use Rattle.model.specs.Layout.{Plan}
use Rattle.model.specs.Lemmas.{licence}
use Rattle.expressions.specs.Steps.{ConclusionKey}
use Rattle.expressions.specs.declared.records.Step.{Step}
use Rattle.expressions.specs.declared.steps.Premises.{Premises}

-- the step is by this lemma
abbrev pub licensed_as : Plan → Step → ℕ → Bool
licensed_as P step lemma = licence P lemma step.x step.y step.p step.q

-- the premises tell what steps p and q conclude
pub record PremiseKeys (P : Plan) (step : Step) (premises : Premises) : Type 0 where
  pub p : ConclusionKey P step.p premises.p
  pub q : ConclusionKey P step.q premises.q
