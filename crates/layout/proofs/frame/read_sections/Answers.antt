-- The sections are the plan's, whose layout passes (Frames). Assumes nothing.
use Rattle.std.proofs.Common.{rules}
use Rattle.layout.proofs.Frames.{bodies_limited}
use Rattle.layout.proofs.frame.read_sections.Goals as goal

pub invariant_of-result : goal.invariant_of-result
invariant_of-result c = record { limits = bodies_limited c.args.plan.now (search rules) (search rules) }
