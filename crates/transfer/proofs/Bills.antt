-- What is known of a transfer whose tests passed, and the promise that follows. Assumes nothing.
use Prim.Native.Nat.{◌≤◌, ◌<◌}
use mathlib.Core.Path.{◌≡◌, sym, ap, ap₂, ◌∙◌}
use native.Mathlib.Omega.{arith}
use Rattle.std.specs.Prelude.{Ok, Err}
use Rattle.model.specs.Bytes.{Bytes}
use Rattle.model.specs.Tests.{◌and◌, ◌=?◌, ◌<?◌, ◌≤?◌}
use Rattle.model.specs.Outcomes.{require, ◌then◌, conclude}
use Rattle.model.specs.Layout.{Plan, node_count}
use Rattle.model.specs.Nodes.{node_region}
use Rattle.model.specs.DataSets.{DataSet, data_of}
use Rattle.model.specs.Evaluation.{inputs_check}
use Rattle.model.specs.Promises.{ChargePromise}
use Rattle.model.specs.Fetches.{BothExist}
use Rattle.model.specs.Transfers.{transfer_count, transfer_check, priced, charge_check, charge}
use Rattle.model.specs.declared.Charge.{Charge}
use Rattle.model.specs.declared.Transfer.{Transfer}
use Rattle.model.specs.declared.Refusal.{Refusal}
use Rattle.model.specs.declared.Refusal.TheVariants.{InvalidCharge}
use Rattle.model.proofs.Tests.{both, pair, less, less!, most}
use Rattle.model.proofs.Outcomes.{then_pass, require_pass, required, require_fails}
use Rattle.model.proofs.ChargePromise.{charge_promise}
use Rattle.evaluate.specs.Inputs.{plan_given, data_given, InputsOf}
use Rattle.evaluate.specs.declared.inputs.Inputs.{Inputs}
use Rattle.evaluate.proofs.Stages.{refused_before, rest_decides}

-- a node that does not exist
module _ (P : Plan) (t : Transfer) where
  refused : (BothExist P t → ⊥) → transfer_check P t ≡ Err (InvalidCharge 1)
  unfolding transfer_check ◌then◌
  refused none = rw (require_fails (λ h. let listed = both h in none (record { accessed_exists = less listed.0; owned_exists = less listed.1 })))

  pub no_accessed : node_count P ≤ t.accessed → transfer_check P t ≡ Err (InvalidCharge 1)
  no_accessed le = refused (λ nodes. omega (arith, nodes.accessed_exists))

  pub no_owned : node_count P ≤ t.owned → transfer_check P t ≡ Err (InvalidCharge 1)
  no_owned le = refused (λ nodes. omega (arith, nodes.owned_exists))

  -- the tests that are left where both exist
  pub past_nodes : t.accessed < node_count P → t.owned < node_count P →
      transfer_check P t ≡ (require (node_region P t.accessed =? node_region P t.owned) (InvalidCharge 2) then require (t.price ≤? 1000000) (InvalidCharge 3))
  unfolding transfer_check ◌then◌
  past_nodes accessed owned = rw (required (t.accessed <? node_count P and t.owned <? node_count P) (InvalidCharge 1) (pair (less! accessed) (less! owned)))

-- what is known once the tests passed
module _ (P : Plan) (t : Transfer) (passes : transfer_check P t ≡ Ok tt) where
  pub both_exist : BothExist P t
  unfolding transfer_check
  both_exist =
      let listed = both (require_pass _ _ (then_pass _ _ passes).0) in record { accessed_exists = less listed.0; owned_exists = less listed.1 }

  pub price_few : t.price ≤ 1000000
  unfolding transfer_check
  price_few = most (require_pass _ _ (then_pass _ _ (then_pass _ _ passes).1).1)

module _ (p d : Bytes) (t : Transfer) where
  -- refused for plan or data set
  pub inputs_refused : {r : Refusal} → inputs_check p d ≡ Err r → ChargePromise p d t (Err r)
  unfolding charge charge_check conclude
  inputs_refused h = charge_promise p d t _ (rw (refused_before p d _ h))

  module _ {inputs : Inputs} (read : InputsOf p d inputs) where
    decided : charge p d t ≡ conclude (transfer_check (plan_given inputs) t) (priced (transfer_count (plan_given inputs) (data_given inputs) t) t.price)
    unfolding charge charge_check
    decided =
        rw (rest_decides p d _ read.passes)
        (ap₂ (λ (P : Plan) (D : DataSet). conclude (transfer_check P t) (priced (transfer_count P D t) t.price)) (sym read.plan_is) (ap data_of (sym read.data_is)))

    -- refused for the transfer
    pub transfer_refused : {r : Refusal} → transfer_check (plan_given inputs) t ≡ Err r → ChargePromise p d t (Err r)
    unfolding conclude
    transfer_refused h = charge_promise p d t _ (sym (decided ∙ rw h))

    -- charged
    pub charged : transfer_check (plan_given inputs) t ≡ Ok tt → {c : Charge} → c ≡ priced (transfer_count (plan_given inputs) (data_given inputs) t) t.price →
        ChargePromise p d t (Ok c)
    unfolding conclude
    charged h is = charge_promise p d t _ (sym (decided ∙ rw (h, is)))
