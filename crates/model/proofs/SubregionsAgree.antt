-- A symbol's subregion as the claim states it, and as a test by the verdict's functions, agree where the statements so far are formed.
-- Assumes nothing.
use Prim.Native.Nat.{ℕ, suc, ◌+◌, ◌*◌}
use mathlib.Core.Path.{refl}
use mathlib.Core.Logic.{◌↔◌}
use mathlib.Core.List.{List}
use mathlib.Core.Bool.{Bool}
use native.Mathlib.Omega.{arith}
use Rattle.model.specs.Tests.{Is, ◌and◌, ◌<?◌}
use Rattle.model.specs.Layout.{Plan}
use Rattle.model.specs.LoopRelations.{HasSymbol}
use Rattle.model.specs.Needs.{symbol_node, symbol_region}
use Rattle.model.specs.DataSets.{DataSet, pieces, size}
use Rattle.model.specs.Words.{holds}
use Rattle.model.specs.Legal.{InSubregion}
use Rattle.model.proofs.Tests.{both, pair, less, less! }
use Rattle.model.proofs.VariablesAgree.{FormedBefore}
use Rattle.model.proofs.SymbolsAgree.{symbol_computed, symbols_before, region_of_symbol, symbol_region_lem}

module _ (P : Plan) (D : DataSet) (words : List ℕ) where
  -- element e is below the size and its bit is 1
  unfoldable pub subregion : ℕ → ℕ → ℕ → Bool
  subregion s i e = e <? size D (symbol_region P s) and holds words ((symbol_node P s * pieces D + i) * 8) e

  pub subregion_computed : {s i e : ℕ} → InSubregion P D words s i e → Is (subregion s i e)
  unfolding subregion
  subregion_computed w =
      rw (symbol_computed P w.numbered, region_of_symbol P w.belongs) (pair (less! (omega arith)) w.held)

  pub subregion_is : {s i e : ℕ} → FormedBefore P (suc s) → HasSymbol P s → Is (subregion s i e) ↔ InSubregion P D words s i e
  unfolding subregion
  subregion_is {s} F h = (
    λ t. record {
      symbol = _;
      numbered = symbols_before P s;
      region = _;
      belongs = (symbol_region_lem P F h).0 refl;
      below_size = omega (arith, less (both t).0);
      held = (both t).1;
    },
    subregion_computed,
  )
