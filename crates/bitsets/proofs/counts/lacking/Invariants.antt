-- Word by word, the sum so far. Assumes nothing.
use Rattle.std.proofs.Common.{◌≡◌, ◌+◌, ◌*◌, ◌≤◌, get_or}
use Rattle.model.specs.Counting.{sum, ones, without}
use Rattle.bitsets.proofs.counts.lacking.Given as goal

abbrev pub invariant-loop-w : goal.invariant-loop-w
invariant-loop-w l = (l.count ≤ l.w * 64) × (l.count ≡ sum l.w (λ k. ones (without (get_or l.words (l.at + k) 0) (get_or l.words (l.from + k) 0))))
