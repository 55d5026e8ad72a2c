-- Of what is read of the statement (Accesses). Assumes nothing.
use Rattle.loops.proofs.Accesses.{reduction_is}
use Rattle.loops.proofs.parallel.is_pointer_reduction.Goals as goal

pub returns : goal.returns
returns c =
    λ P known lt. reduction_is P known lt c.is_reduce.ensures c.access_of-access.ensures (c.kind_at.ensures P known.section) c.entry_or.ensures c.byte_at-operand.ensures.0
