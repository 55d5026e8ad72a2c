-- Before position k the chain's pairs stand in both slices. Assumes nothing.
use Prim.Native.Nat.{ℕ, ◌+◌}
use mathlib.Core.Path.{◌≡◌, refl}
use mathlib.Core.List.{List}
use native.Mathlib.Omega.{arith}
use lib.ListN.{set}
use Rattle.model.specs.Words.{store}
use Rattle.model.proofs.Words.{store_next}
use Rattle.provenance.proofs.chain.write_chain.Goals as goal

-- one position more
written_next : (list old : List ℕ) (value : ℕ → ℕ) (k : ℕ) → list ≡ store old 0 k value → set list k (value k) ≡ store old 0 (k + 1) value
written_next list old value k is = let z : 0 + k ≡ k = omega arith in rw is (rw z at (store_next old 0 k value))

pub loop-k-init : goal.loop-k-init
unfolding store
loop-k-init c = record { nodes_are = refl; elements_are = refl }

pub loop-k-preserved : goal.loop-k-preserved
loop-k-preserved c =
    let h = c.loop-k.invariant in
    record { nodes_are = written_next _ _ _ _ h.nodes_are; elements_are = written_next _ _ _ _ h.elements_are }
