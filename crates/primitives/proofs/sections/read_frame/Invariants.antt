-- After each section the places so far are stored (Bodies). Assumes nothing.
use Rattle.primitives.proofs.Bodies.{Located}
use Rattle.primitives.proofs.sections.read_frame.Given as goal

abbrev pub invariant-loop-n : goal.invariant-loop-n
invariant-loop-n l = Located l.s l.boundaries l.at l.n
