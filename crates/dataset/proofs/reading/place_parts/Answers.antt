-- The starts of the parts before stand, and the next one's is in hand. Assumes nothing.
use Rattle.std.proofs.Common.{rules, arith}
use Rattle.dataset.proofs.Starts.{next_placed}
use Rattle.dataset.proofs.reading.place_parts.Goals as goal

pub loop-part-preserved : goal.loop-part-preserved
loop-part-preserved g c =
    let l = c.loop-part in (
      search rules,
      omega (arith, c.requires.narrow l.part c.width-end.result c.loop-part-test.true c.width-end.ensures),
      λ start zero next.
          next_placed start l.part _ (omega arith) (l.invariant.2 start zero next) (next l.part _ c.loop-part-test.true c.width-end.ensures),
    )
