-- Piece by piece, by starts. Assumes nothing.
use Rattle.model.specs.Partitions.{equal_start}
use Rattle.bitsets.specs.Elements.{between}
use Prim.Native.Nat.{ℕ}
use mathlib.Core.Path.{ap₂}
use native.Mathlib.Omega.{arith}
use Rattle.subregions.specs.Pieces.{equal_pieces}
use Rattle.subregions.proofs.NodePieces.{pieces_none, set_next}
use Rattle.subregions.proofs.pieces.fill_equal.Goals as goal
use Rattle.subregions.proofs.pieces.fill_equal.Goals.{In-loop-i}

pub loop-i-init : goal.loop-i-init
loop-i-init c = record { written = pieces_none; starts = omega (arith, c.equal_start-low.ensures) }

pub loop-i-preserved : goal.loop-i-preserved
unfolding equal_pieces equal_start
loop-i-preserved c =
    record {
      written = set_next c.loop-i.invariant.written c.loop-i-test.true c.write_range.ensures
          (λ e h. ap₂ (λ (low high : ℕ). between low high e) c.loop-i.invariant.starts c.equal_start-high.ensures);
      starts = omega (arith, c.equal_start-high.ensures);
    }
