-- The one bits that are counted in the words of the two nodes are the elements that are fetched. Assumes nothing.
use Prim.Native.Nat.{ℕ, ◌+◌, ◌*◌, ◌≤◌, ◌<◌}
use mathlib.Core.Path.{◌≡◌, ap₂, ◌∙◌}
use mathlib.Core.Logic.{◌⊎◌, inl, inr}
use mathlib.Core.List.{List}
use native.Mathlib.Omega.{arith}
use Rattle.model.specs.DataSets.{pieces}
use Rattle.model.specs.Membership.{member}
use lib.Bits.{bit_or}
use Rattle.model.specs.Tests.{Is}
use Rattle.model.specs.Words.{bit, holds}
use Rattle.model.specs.Counting.{sum, ones_lacking}
use Rattle.model.specs.Fetches.{BothExist}
use Rattle.model.specs.declared.Transfer.{Transfer}
use Rattle.model.specs.Transfers.{transfer_count, transfer_ones}
use Rattle.model.proofs.Tests.{one}
use Rattle.primitives.proofs.Bits.{bit-bit_or}
use Rattle.bitsets.specs.Elements.{OneBit}
use Rattle.model.proofs.Counting.{sum_same}
use Rattle.model.proofs.Transfers.{ones_are_fetched}
use Rattle.evaluate.specs.Inputs.{plan_given, data_given}
use Rattle.evaluate.specs.Words.{WantedFilled}
use Rattle.evaluate.specs.declared.inputs.Inputs.{Inputs}
use Rattle.evaluate.proofs.Spans.{inputs_fit}
use Rattle.transfer.specs.Fetching.{RoomReady}

module _ {inputs : Inputs} {t : Transfer} {nodes lent : ℕ}
    (ready : RoomReady inputs t nodes lent) {x y : ℕ} (first : OneBit t.accessed x) (second : OneBit t.owned y) {words : List ℕ}
    (filled : WantedFilled (plan_given inputs) (data_given inputs) nodes (bit_or x y) lent words) {N : ℕ} (counted : N ≡ pieces (data_given inputs)) where
  pub both_exist : BothExist (plan_given inputs) t
  both_exist =
      record {
        accessed_exists = omega (arith, ready.accessed_among, ready.room.nodes_listed);
        owned_exists = omega (arith, ready.owned_among, ready.room.nodes_listed);
      }

  few_nodes : nodes ≤ 48
  few_nodes = omega (arith, ready.room.nodes_listed, inputs.reading.sections.limits.few_nodes)

  -- both nodes are wanted
  accessed_wanted : Is (bit (bit_or x y) t.accessed)
  accessed_wanted = bit-bit_or x y _ ∙ one (inl (first.its_bit (omega (arith, ready.accessed_among, few_nodes))))

  owned_wanted : Is (bit (bit_or x y) t.owned)
  owned_wanted = bit-bit_or x y _ ∙ one (inr (second.its_bit (omega (arith, ready.owned_among, few_nodes))))

  held : (j i e : ℕ) → (j ≡ t.accessed) ⊎ (j ≡ t.owned) → i < N → e < 512 → holds words ((j * N + i) * 8) e ≡ member (plan_given inputs) (data_given inputs) j i e
  held j i e (inl is) li le =
      rw (is, counted) (filled.held t.accessed i e ready.accessed_among accessed_wanted (rw counted at li) le)
  held j i e (inr is) li le =
      rw (is, counted) (filled.held t.owned i e ready.owned_among owned_wanted (rw counted at li) le)

  -- piece by piece, as the words are laid out
  in_order : sum N (λ i. ones_lacking words (t.accessed * N * 8 + i * 8) (t.owned * N * 8 + i * 8)) ≡ transfer_ones words N t.accessed t.owned
  unfolding transfer_ones
  in_order =
      sum_same N _ _ (λ i l. ap₂ (ones_lacking words) (place t.accessed i) (place t.owned i))
    where
      place : (j i : ℕ) → j * N * 8 + i * 8 ≡ (j * N + i) * 8
      place j i = omega arith

  pub ones_counted : sum N (λ i. ones_lacking words (t.accessed * N * 8 + i * 8) (t.owned * N * 8 + i * 8)) ≡ transfer_count (plan_given inputs) (data_given inputs) t
  ones_counted =
      in_order ∙ ones_are_fetched (plan_given inputs) (data_given inputs) inputs.reading.facts (inputs_fit inputs) t both_exist words N counted held
