-- What was seen are the classes of the loop's accesses so far; one that is not admitted decides. Assumes nothing.
use Prim.Native.Nat.{◌/◌, ◌≤◌}
use lib.ListN.{length}
use Rattle.model.specs.Tests.{Is}
use Rattle.model.specs.Layout.{Plan}
use Rattle.model.specs.Statements.{opens}
use Rattle.loops.specs.Parallel.{LoopsOf, LoopSpan}
use Rattle.loops.proofs.SeenClasses.{Seen}
use Rattle.loops.proofs.tables.StatementLoops.is_parallelizable.Given as goal

abbrev pub invariant-loop-s : goal.invariant-loop-s
invariant-loop-s l = (l.fn.f ≤ l.s-iterator.start) × (l.s-iterator.end ≤ length l.fn.self.statements.now / 4)
    × ((P : Plan) → LoopsOf P l.fn.self → Is (opens P l.fn.f) → LoopSpan P l.fn.f l.s-iterator.end × Seen P l.fn.f l.s-iterator.start l.seen)
