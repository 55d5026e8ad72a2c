-- A question about inputs, in the stages of its answer.
use Rattle.std.specs.Prelude.{ℕ, ◌+◌, ◌*◌, ◌≤◌, ◌≡◌, List, length, Ok}
use Rattle.model.specs.Tests.{◌<?◌}
use Rattle.model.specs.Outcomes.{require, ◌then◌, conclude, Outcome, Written}
use Rattle.model.specs.Layout.{Plan, node_count}
use Rattle.model.specs.Nodes.{node_region}
use Rattle.model.specs.DataSets.{DataSet, pieces, size}
use Rattle.model.specs.Words.{list_after}
use Rattle.model.specs.Provenance.{chain_pair, pairs_needed, question_check, chain_room_check}
use Rattle.model.specs.declared.Refusal.TheVariants.{NotFound}
use Rattle.model.specs.declared.Question.{Question}
use Rattle.evaluate.specs.Inputs.{plan_given, data_given}
use Rattle.evaluate.specs.declared.inputs.Inputs.{Inputs}

-- places 1 to 3 of 16: "node, piece or element does not exist"
abbrev pub existence_check : Plan → DataSet → Question → Outcome
existence_check P D q =
    require (q.node <? node_count P) (NotFound 1)
    then require (q.piece <? pieces D) (NotFound 2)
    then require (q.element <? size D (node_region P q.node)) (NotFound 3)

-- what is asked about exists, and so many words are enough for one piece of the nodes up to it
pub record ExistingReady (inputs : Inputs) (q : Question) (lent : ℕ) : Type 0 where
  pub exists : existence_check (plan_given inputs) (data_given inputs) q ≡ Ok tt
  pub room : (q.node + 1) * 8 ≤ lent

-- the answer after accepted inputs, and both slices as it leaves them
pub record Answered (P : Plan) (D : DataSet) (q : Question) (old_nodes new_nodes old_elements new_elements : List ℕ) (r : Written) : Type 0 where
  pub answer : r ≡ conclude (question_check P D q then chain_room_check P D q (length old_nodes) (length old_elements)) (pairs_needed P D q)
  pub nodes_are : new_nodes ≡ list_after (λ k. (chain_pair P D q k).node) old_nodes r
  pub elements_are : new_elements ≡ list_after (λ k. (chain_pair P D q k).element) old_elements r
