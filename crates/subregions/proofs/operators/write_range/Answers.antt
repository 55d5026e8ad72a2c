-- Word by word in the cleared piece, from the first that has an element; the others stay 0. Assumes nothing.
use native.Mathlib.Omega.{arith}
use Rattle.bitsets.proofs.Elements.{between_none, empty_word}
use Rattle.subregions.proofs.Piece.{begun_from, begun_to}
use Rattle.subregions.proofs.operators.write_range.Goals as goal

pub loop-w-init : goal.loop-w-init
loop-w-init c =
    begun_from _ _ _ _ c.requires.room c.clear_piece.ensures _ (omega (arith, c.requires.low_inside))
    (λ k l. empty_word _ k (λ e h m. between_none _ _ e (λ p q. omega arith)))

pub returns : goal.returns
returns c =
    begun_to _ _ _ _ c.requires.room c.clear_piece.ensures _ _ c.loop-w.invariant
    (λ k l m. empty_word _ k (λ e h n. between_none _ _ e (λ p q. omega (arith, c.loop-w-test.false))))
