-- The table's element, looked up in the set. Assumes nothing.
use Prim.Native.Nat.{ℕ}
use mathlib.Core.Path.{ap, ◌∙◌}
use Rattle.model.specs.Words.{digit, holds}
use Rattle.bitsets.specs.Elements.{through}
use Rattle.subregions.proofs.operators.member_at.Goals as goal

pub returns : goal.returns
unfolding through
returns c = c.bit_of.ensures ∙ ap (λ (e : ℕ). digit (holds c.args.set.now 0 e)) c.from.ensures
