-- What is read is the access, from the record and what the tables have. Assumes nothing.
use Rattle.loops.proofs.Accesses.{access_is}
use Rattle.loops.proofs.tables.StatementLoops.access.Goals as goal

pub returns : goal.returns
returns c =
    λ P known.
    let at = c.statement_at-statement.ensures P known.section in
    access_is P c.args.self.now known (rw known.section c.requires) at c.access_of-access.ensures (c.field-field.ensures P _ at) c.byte_at-operand.ensures.0 c.byte_at.ensures.0 c.entry_or.ensures
