-- The eight words are 0, and the others as they were. Assumes nothing.
use Rattle.std.proofs.Common.{rules, arith, ◌≡◌, replicate}
use Rattle.subregions.proofs.Piece.{cleared}
use Rattle.subregions.proofs.operators.clear_piece.Goals as goal

pub returns : goal.returns
returns c =
    let zeros : c.fill.new.self ≡ replicate 8 0 = search rules in
    cleared _ _ _ _ c.requires (omega arith) zeros
