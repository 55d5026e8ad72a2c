-- The operand is the variable's definition; the rest follows. Assumes nothing.
use mathlib.Core.Path.{◌≡◌}
use Rattle.model.specs.Statements.{operand_definition}
use Rattle.loops.proofs.statements.entry_of.Goals as goal

pub returns : goal.returns
unfolding operand_definition
returns c =
    λ P maps is held.
    let o : c.entry_or-operand.result ≡ operand_definition P c.args.s = rw (c.entry_or-operand.ensures, c.from.ensures, c.operand.ensures P _ is) (held.definitions_are _) in
    c.entry_following.ensures P maps is o held.regions_are held.centers_are
