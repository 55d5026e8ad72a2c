-- Word by word: the entries of a word's members are added to those of the words before. Assumes nothing.
use Prim.Native.Nat.{◌*◌, ◌≤◌}
use Rattle.model.specs.Words.{holds}
use Rattle.bitsets.specs.Elements.{masked, entries_of}
use Rattle.subregions.specs.Operators.{SetOf}
use Rattle.subregions.proofs.operators.image_piece.Given as goal

abbrev pub invariant-loop-k : goal.invariant-loop-k
invariant-loop-k l = (l.k ≤ 8) × SetOf (entries_of (64 * l.k) l.entries 0 (masked l.masks (holds l.operand l.at))) l.set
