-- "Transfer charge": the elements that the tasks must fetch, counted, and what they cost.
use Rattle.std.specs.Prelude.{ℕ, ◌+◌, ◌*◌, ◌/◌, ◌%◌, Bool, List}
use Rattle.model.specs.Tests.{◌and◌, non, ◌=?◌, ◌<?◌, ◌≤?◌}
use Rattle.model.specs.Bytes.{Bytes}
use Rattle.model.specs.Outcomes.{require, ◌then◌, conclude, Outcome, Charged}
use Rattle.model.specs.Layout.{Plan, plan_of, node_count}
use Rattle.model.specs.Nodes.{node_region}
use Rattle.model.specs.DataSets.{DataSet, data_of, pieces, size}
use Rattle.model.specs.Membership.{member}
use Rattle.model.specs.Counting.{count, sum, ones_lacking}
use Rattle.model.specs.Evaluation.{inputs_check}
use Rattle.model.specs.declared.Transfer.{Transfer}
use Rattle.model.specs.declared.Refusal.TheVariants.{InvalidCharge}
use Rattle.model.specs.declared.Charge.{Charge}

-- these two nodes at this price
abbrev pub transferring : ℕ → ℕ → ℕ → Transfer
transferring accessed owned price = record { accessed = accessed; owned = owned; price = price }

-- "a price in cents per thousand elements, from 0 to 1,000,000"
abbrev pub MOST_PRICE : ℕ
MOST_PRICE = 1000000

module _ (P : Plan) (D : DataSet) (t : Transfer) where
  -- "the elements of each accessed piece that the same owned piece lacks"
  unfoldable pub fetched : ℕ → ℕ → Bool
  fetched i e = member P D t.accessed i e and non (member P D t.owned i e)

  -- "count .., and add over the pieces"
  unfoldable pub transfer_count : ℕ
  transfer_count = sum (pieces D) (λ i. count (size D (node_region P t.accessed)) (fetched i))

-- "The count is the number of one bits in the words concerned": node j, piece i starts at word (j × N + i) × 8
unfoldable pub transfer_ones : List ℕ → ℕ → ℕ → ℕ → ℕ
transfer_ones words N accessed owned = sum N (λ i. ones_lacking words ((accessed * N + i) * 8) ((owned * N + i) * 8))

-- Unpriced: "a node does not exist, place 1; the two differ in region, 2; the price is above 1,000,000, 3; the lowest is given"
unfoldable pub transfer_check : Plan → Transfer → Outcome
transfer_check P t =
    require (t.accessed <? node_count P and t.owned <? node_count P) (InvalidCharge 1)
    then require (node_region P t.accessed =? node_region P t.owned) (InvalidCharge 2)
    then require (t.price ≤? MOST_PRICE) (InvalidCharge 3)

-- "count times price, divided by 1,000: whole cents, and the exact remainder"
unfoldable pub priced : ℕ → ℕ → Charge
priced n price = record { count = n; cents = n * price / 1000; remainder = n * price % 1000 }

module _ (p d : Bytes) (t : Transfer) where
  -- "after 14"
  unfoldable pub charge_check : Outcome
  charge_check = inputs_check p d then transfer_check (plan_of p) t

  -- what charging answers
  unfoldable pub charge : Charged
  charge = conclude charge_check (priced (transfer_count (plan_of p) (data_of d) t) t.price)
