-- The starts of the parts before stand, and the next one's is in hand. Assumes nothing.
use Rattle.std.proofs.Common.{ℕ, suc, ◌+◌, ◌*◌, ◌≤◌, ◌<◌, ◌≡◌, length}
use Rattle.dataset.specs.Layout.{PartsPlaced}
use Rattle.dataset.proofs.reading.place_parts.Given as goal

abbrev pub invariant-loop-part : goal.invariant-loop-part
invariant-loop-part g l = (length l.starts ≡ g.row.N)
    × (l.end ≤ l.part * 2088960)
    × ((start : ℕ → ℕ) → start 0 ≡ 0 → ((part bytes : ℕ) → part < l.count → goal.W-post g l.width part bytes → start (suc part) ≡ start part + bytes) → PartsPlaced start l.part l.starts l.end)
