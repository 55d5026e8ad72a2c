-- Set by set, the sum so far. Assumes nothing.
use Rattle.std.proofs.Common.{◌≡◌, ◌+◌, ◌*◌, ◌≤◌}
use Rattle.model.specs.Counting.{sum, ones_lacking}
use Rattle.bitsets.proofs.counts.lacking_pieces.Given as goal

abbrev pub invariant-loop-i : goal.invariant-loop-i
invariant-loop-i l = (l.count ≤ l.i * 512) × (l.count ≡ sum l.i (λ k. ones_lacking l.words (l.at + k * 8) (l.from + k * 8)))
