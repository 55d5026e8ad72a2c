-- When what is fetched can be counted.
use Rattle.std.specs.Prelude.{ℕ, ◌<◌}
use Rattle.model.specs.declared.Transfer.{Transfer}
use Rattle.evaluate.specs.Words.{WantedReady}
use Rattle.evaluate.specs.declared.inputs.Inputs.{Inputs}

-- both nodes are among the first, for which so many words are enough
pub record RoomReady (inputs : Inputs) (t : Transfer) (nodes lent : ℕ) : Type 0 where
  pub room : WantedReady inputs nodes lent
  pub accessed_among : t.accessed < nodes
  pub owned_among : t.owned < nodes
