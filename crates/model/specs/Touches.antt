-- "Touch": which elements the accesses of an iteration reach, over the relations of the second reading.
use Rattle.std.specs.Prelude.{ℕ, ◌≡◌}
use Rattle.model.specs.Layout.{Plan, statement_kind, statement_a, statement_b}
use Rattle.model.specs.LoopRelations.{Resolves, AccessThrough}
use Rattle.model.specs.DataSets.{DataSet}
use Rattle.model.specs.PlainData.{PointsTo}

-- in iteration k the variable that statement s defines is element e; a variable that is none is no element
pub data Value (P : Plan) (D : DataSet) : ℕ → ℕ → ℕ → Type 0 where
  -- "In iteration k variable 0 is k"
  itself : {s k : ℕ} → statement_kind P s ≡ 0 → Value P D s k k
  -- "LOAD and CALL give the map's entry"; "or a variable that is none, gives none"
  loaded :
      {s c k d e : ℕ} → statement_kind P s ≡ 1 → Resolves P s (statement_b P s) c → Value P D c k d → PointsTo P D (statement_a P s) d e →
      Value P D s k e
  called :
      {s c k d e : ℕ} → statement_kind P s ≡ 2 → Resolves P s (statement_b P s) c → Value P D c k d → PointsTo P D (statement_a P s) d e →
      Value P D s k e
  -- "COPY copies"
  copied : {s c k e : ℕ} → statement_kind P s ≡ 3 → Resolves P s (statement_a P s) c → Value P D c k e → Value P D s k e

-- "An access touches its variable's element (a LOAD that of its b), or nothing"
abbrev pub Touches : Plan → DataSet → ℕ → ℕ → ℕ → Type 0
Touches P D s k e = (d : ℕ) × AccessThrough P s d × Value P D d k e
