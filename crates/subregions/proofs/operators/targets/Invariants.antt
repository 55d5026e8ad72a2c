-- Entry by entry; the places behind the last one keep 512. Assumes nothing.
use Prim.Native.Nat.{ℕ, ◌*◌, ◌≤◌, ◌<◌, min}
use mathlib.Core.Path.{◌≡◌}
use lib.ListN.{length, get_or}
use Rattle.model.specs.Bytes.{u16}
use Rattle.subregions.proofs.operators.targets.Given as goal

abbrev pub invariant-loop-k : goal.invariant-loop-k
invariant-loop-k l = (l.k ≤ l.count) × (length l.table ≡ 512)
    × ((n : ℕ) → n < l.k → get_or l.table n 0 ≡ min (u16 l.entries (2 * n)) 512) × ((n : ℕ) → l.k ≤ n → n < 512 → get_or l.table n 0 ≡ 512)
