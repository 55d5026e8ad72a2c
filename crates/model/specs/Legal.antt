-- Demand 3, one claim on the bytes of plan and data set and on the final words. Legal is 001's word for partitions that make the
-- accesses of every task safe. The claim shares only the accessors of cells with the verdict.
use Rattle.std.specs.Prelude.{ℕ, ◌+◌, ◌*◌, ◌<◌, ◌≡◌, List}
use Rattle.model.specs.Tests.{Is}
use Rattle.model.specs.Bytes.{Bytes}
use Rattle.model.specs.Layout.{Plan, plan_of, statement_kind, statement_a, statement_count, assigned}
use Rattle.model.specs.LoopRelations.{InLoop, ReducesThroughPointer, SymbolsBefore, SymbolRegion}
use Rattle.model.specs.DataSets.{DataSet, data_of, pieces, size}
use Rattle.model.specs.Touches.{Touches}
use Rattle.model.specs.Words.{holds}

module _ (P : Plan) (D : DataSet) (words : List ℕ) where
  -- "A symbol's subregion in piece i is the elements below its region's size whose bit is 1 in the final words of the symbol's node,
  -- piece i": element e is one of them; the symbol is that of statement s
  pub record InSubregion (s i e : ℕ) : Type 0 where
    pub symbol : ℕ
    pub numbered : SymbolsBefore P s symbol
    pub region : ℕ
    pub belongs : SymbolRegion P s region
    pub below_size : e < size D region
    pub held : Is (holds words ((assigned P symbol * pieces D + i) * 8) e)

  -- what is claimed of the loop that FOR f opens; its "iterations are all elements of its FOR's region"
  pub record LegalLoop (f : ℕ) : Type 0 where
    -- every iteration is in at least one piece
    pub covered : (k : ℕ) → k < size D (statement_a P f) → (i : ℕ) × (i < pieces D) × InSubregion f i k
    -- in exactly one where its loop "reduces through a pointer"
    pub once :
        (k i j : ℕ) → ReducesThroughPointer P f → i < pieces D → j < pieces D → InSubregion f i k → InSubregion f j k → i ≡ j
    -- for each access and each piece that "holds" the iteration, every touched element is in the subregion handed to that piece's task
    pub contained :
        (s i k e : ℕ) → s < statement_count P → InLoop P f s → i < pieces D → InSubregion f i k → Touches P D s k e → InSubregion s i e

-- demand 3: the claim holds of every loop of the plan p, over the data set d, by the words
abbrev pub Legal : Bytes → Bytes → List ℕ → Type 0
Legal p d words =
    (f : ℕ) → f < statement_count (plan_of p) → statement_kind (plan_of p) f ≡ 0 → LegalLoop (plan_of p) (data_of d) words f
