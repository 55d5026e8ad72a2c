-- Word by word. Assumes nothing.
use mathlib.Core.Path.{refl}
use Rattle.subregions.proofs.Piece.{written_none, written_next}
use Rattle.subregions.proofs.operators.write_piece.Goals as goal

pub loop-w-init : goal.loop-w-init
loop-w-init c = written_none _ _ _

pub loop-w-preserved : goal.loop-w-preserved
loop-w-preserved c = written_next _ _ _ _ _ _ c.loop-w.invariant c.loop-w-test.true refl
