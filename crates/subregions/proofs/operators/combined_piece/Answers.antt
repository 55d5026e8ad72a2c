-- Word by word. Assumes nothing.
use Rattle.std.proofs.Common.{rules, refl, ◌≡◌, ◌∙◌, ◌+◌, get_or, bit_and}
use Rattle.model.specs.Words.{from_bits}
use Rattle.bitsets.specs.Elements.{combined_bits}
use Rattle.subregions.proofs.Piece.{combined-word}
use Rattle.subregions.proofs.operators.combined_piece.Goals as goal

pub returns : goal.returns
returns g c =
    let a = c.args in
    record {
      eight = search rules;
      word_is = λ w l.
          let made : get_or c.from_fn.result w 0
          ≡ bit_and (from_bits 64 (combined_bits g.O.SetOperator.combination (get_or a.left.now (a.at + w) 0) (get_or a.right.now (a.at + w) 0))) (get_or a.masks.now w 0) =
          search rules in
          made ∙ combined-word a.left.now a.right.now a.masks.now g.O.SetOperator.combination a.at w _ refl;
    }
