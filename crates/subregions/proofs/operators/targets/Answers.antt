-- Entry by entry; the places behind the last one keep 512. Assumes nothing.
use Prim.Native.Nat.{ℕ}
use native.Mathlib.Omega.{arith}
use lib.ListN.{length-replicate, get_or-replicate}
use Rattle.subregions.proofs.operators.targets.Goals as goal

pub loop-k-init : goal.loop-k-init
loop-k-init c = (omega arith, length-replicate {A = ℕ} 512 512, λ n l. absurd (omega arith), λ n h l. get_or-replicate {A = ℕ} 512 n 512 0 l)
