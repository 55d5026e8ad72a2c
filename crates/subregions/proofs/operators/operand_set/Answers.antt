-- Word by word; the spare word is 0. Assumes nothing.
use Rattle.std.proofs.Common.{rules, ◌≡◌, ◌+◌, ◌<◌, ℕ, get_or, bit_and}
use Rattle.subregions.proofs.Piece.{operand_made}
use Rattle.subregions.proofs.operators.operand_set.Goals as goal

pub returns : goal.returns
returns c =
    let a = c.args in
    let made : (w : ℕ) → w < 8 → get_or c.from_fn.result w 0 ≡ bit_and (get_or a.operand.now (a.at + w) 0) (get_or a.masks.now w 0) = λ w l. search rules in
    operand_made _ _ _ _ (search rules) made (search rules)
