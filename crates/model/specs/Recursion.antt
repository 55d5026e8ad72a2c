-- A value for each number, made from the values at smaller numbers: for nodes from their operands, for variables from those they follow.
use Rattle.std.specs.Prelude.{ℕ, zero, suc}
use Rattle.model.specs.Tests.{◌<?◌, pick}

module _ {A : Type 0} (default : A) where
  -- the values below j; the default elsewhere
  unfoldable pub below : ℕ → (ℕ → A) → ℕ → A
  below j values k = pick (k <? j) (values k) default

  module _ (step : ℕ → (ℕ → A) → A) where
    -- with so many levels left
    unfoldable pub levels : ℕ → ℕ → A
    levels zero j = default
    levels (suc n) j = step j (below j (levels n))

    -- the value at j is `step j` of the values below j
    unfoldable pub course : ℕ → A
    course j = levels (suc j) j
