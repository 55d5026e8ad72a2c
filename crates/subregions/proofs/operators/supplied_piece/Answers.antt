-- Word by word: eight bytes, each reversed, are the elements in order. Assumes nothing.
use Rattle.std.proofs.Common.{rules, refl, ◌≡◌, ◌∙◌, ◌*◌, get_or, bit_and}
use Rattle.model.specs.Words.{from_bits}
use Rattle.bitsets.specs.Elements.{bytes_bits, reversed_bits}
use Rattle.subregions.proofs.Piece.{supplied_word}
use Rattle.subregions.proofs.operators.supplied_piece.Goals as goal

pub returns : goal.returns
returns c =
    let a = c.args in
    record {
      eight = search rules;
      word_is = λ w l.
          let made : get_or c.from_fn.result w 0 ≡ bit_and (from_bits 64 (reversed_bits (from_bits 64 (bytes_bits a.members.now (8 * w))))) (get_or a.masks.now w 0) =
          search rules in
          made ∙ supplied_word a.masks.now a.members.now w _ _ refl refl;
    }
