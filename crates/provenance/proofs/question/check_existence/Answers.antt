-- One after the other. Assumes nothing.
use Prim.Native.Nat.{ℕ}
use mathlib.Core.Path.{◌≡◌, sym, ap, ◌∙◌}
use native.Mathlib.Omega.{arith}
use Rattle.std.specs.Prelude.{Ok}
use Rattle.model.specs.Tests.{◌<?◌}
use Rattle.model.specs.Outcomes.{Outcome, require}
use Rattle.model.specs.Layout.{Plan, node_count}
use Rattle.model.specs.declared.Refusal.TheVariants.{NotFound}
use Rattle.model.specs.DataSets.{DataSet, pieces}
use Rattle.model.proofs.Tests.{less}
use Rattle.model.proofs.Outcomes.{require_pass}
use Rattle.primitives.proofs.Stages.{then_ok, then_err, handed_on}
use Rattle.evaluate.specs.Inputs.{plan_given}
use Rattle.provenance.proofs.question.check_existence.Goals as goal

pub returns-in_err-require : goal.returns-in_err-require
unfolding ◌<?◌
returns-in_err-require c =
    handed_on _ c.from_residual.ensures.1
    ∙ sym (then_err _ (rw c.node_count-nodes.ensures.0 at (sym c.require.ensures ∙ c.in_err-require.was)))

-- The first test, passed with the count of nodes that was read, passes.
node_listed : (P : Plan) (node : ℕ) {count : ℕ} {answer : Outcome} → count ≡ node_count P →
    answer ≡ require (node <? count) (NotFound 1) → answer ≡ Ok tt → require (node <? node_count P) (NotFound 1) ≡ Ok tt
node_listed P node counted asked passed = rw counted at (sym asked ∙ passed)

pub returns-in_err-require-2 : goal.returns-in_err-require-2
unfolding ◌<?◌
returns-in_err-require-2 c =
    let inputs = c.args.inputs.now in
    let first = node_listed (plan_given c.args.inputs.now) c.args.question.node c.node_count-nodes.ensures.0 c.require.ensures c.in_ok-require.was in
    handed_on _ c.from_residual-in_err-require-2.ensures.1
    ∙ sym (then_ok _ first ∙ then_err _ (rw (ap pieces inputs.placed.parts) at (sym c.require-2.ensures ∙ c.in_err-require-2.was)))

pub returns : goal.returns
unfolding ◌<?◌
returns c =
    let inputs = c.args.inputs.now in
    let first = node_listed (plan_given c.args.inputs.now) c.args.question.node c.node_count-nodes.ensures.0 c.require.ensures c.in_ok-require.was in
    let listed = less (require_pass _ _ first) in
    let size = c.node_size-size.ensures.size (plan_given inputs) inputs.«data».now (record {
      sizes_are = c.sources_of.ensures.sizes_are ∙ ap (λ (D : DataSet). D.sizes) inputs.placed.parts;
      node_regions_are = λ j lt. rw c.sources_of.ensures.node_regions_are (inputs.reading.regions_known j (omega arith));
    }) in
    let second = rw (ap pieces inputs.placed.parts) at (sym c.require-2.ensures ∙ c.in_ok-require-2.was) in
    c.require-3.ensures ∙ rw size (sym (then_ok _ first ∙ then_ok _ second))
