-- Word by word, as far as there is a place. Assumes nothing.
use native.Mathlib.Omega.{arith}
use Rattle.bitsets.proofs.Elements.{empty_word}
use Rattle.subregions.proofs.Piece.{made_to}
use Rattle.subregions.proofs.operators.preimage_piece.Goals as goal

pub returns : goal.returns
returns c = made_to _ _ _ c.loop-w.invariant (λ k l m. empty_word _ k (λ e h n. c.requires.past e (omega arith) (omega arith)))
