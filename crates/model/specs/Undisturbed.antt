-- "No iteration disturbs another", so that a loop's iterations may run in any order. Said of touches: which iteration reaches which field of
-- which element, and by which access. The claim goes by the second reading alone; needs, nodes and words play no part in it.
use Rattle.std.specs.Prelude.{ℕ, ◌<◌, ◌≡◌, ◌⊎◌}
use Rattle.model.specs.Bytes.{Bytes}
use Rattle.model.specs.Layout.{Plan, plan_of, statement_kind, statement_a, statement_c, statement_count}
use Rattle.model.specs.LoopRelations.{InLoop, VariableRegion, Centered, AccessField}
use Rattle.model.specs.DataSets.{DataSet, data_of, size}
use Rattle.model.specs.Touches.{Touches}

module _ (P : Plan) (D : DataSet) where
  -- in iteration k of the loop that FOR f opens, access s touches field g of element e of region r
  pub record TouchesField (f s k r e g : ℕ) : Type 0 where
    pub inside : s < statement_count P
    pub within : InLoop P f s
    -- "A loop's iterations are all elements of its FOR's region"
    pub iteration : k < size D (statement_a P f)
    -- the access goes through the variable that statement `touch.0` defines
    pub touch : Touches P D s k e
    pub region : VariableRegion P touch.0 r
    pub field : AccessField P s g

  -- it reduces that field through a pointer
  pub record ReducesField (f s k r e g : ℕ) : Type 0 where
    pub touched : TouchesField f s k r e g
    pub reduces : statement_kind P s ≡ 6
    pub uncentered : Centered P touched.touch.0 → ⊥

  -- "an element's field that one iteration writes, or reduces through a centered variable, is touched in that field by no other iteration of
  -- the loop": s and t are any two accesses, perhaps the same one
  abbrev pub WrittenAlone : ℕ → Type 0
  WrittenAlone f =
      (s t k l r e g : ℕ) (x : TouchesField f s k r e g) → TouchesField f t l r e g →
      (statement_kind P s ≡ 5) ⊎ ((statement_kind P s ≡ 6) × Centered P x.touch.0) → k ≡ l

  -- what is claimed of the loop that FOR f opens
  pub record UndisturbedLoop (f : ℕ) : Type 0 where
    pub alone : WrittenAlone f
    -- what an iteration reduces through a pointer is otherwise touched, in whichever iteration, by REDUCEs through pointers of the same
    -- operator only. Stronger than the sentences below: one iteration that reduces is enough, its own other accesses count, and a field that
    -- is so reduced is not written either
    pub one_operator :
        (s t k l r e g : ℕ) → ReducesField f s k r e g → (y : TouchesField f t l r e g) →
        (statement_kind P t ≡ 6) × (Centered P y.touch.0 → ⊥) × (statement_c P t ≡ statement_c P s)

  -- the claim in the sentences as they stand, and no more. That it comes to the same over all data sets that fit is a theorem
  pub record PlainlyUndisturbedLoop (f : ℕ) : Type 0 where
    pub alone : WrittenAlone f
    -- "Where several iterations reduce one field of one element through pointers, all use one operator"
    pub one_operator :
        (s t k l r e g : ℕ) → ReducesField f s k r e g → ReducesField f t l r e g → (k ≡ l → ⊥) → statement_c P t ≡ statement_c P s
    -- "and none reads it"
    pub none_reads :
        (s t u k l m r e g : ℕ) → ReducesField f s k r e g → ReducesField f t l r e g → (k ≡ l → ⊥) → TouchesField f u m r e g →
        (statement_kind P u ≡ 1) ⊎ (statement_kind P u ≡ 4) → ⊥

-- no iteration of any loop of the plan p disturbs another, over the data set d
abbrev pub Undisturbed : Bytes → Bytes → Type 0
Undisturbed p d = (f : ℕ) → f < statement_count (plan_of p) → statement_kind (plan_of p) f ≡ 0 → UndisturbedLoop (plan_of p) (data_of d) f

-- the same in the sentences as they stand
abbrev pub PlainlyUndisturbed : Bytes → Bytes → Type 0
PlainlyUndisturbed p d =
    (f : ℕ) → f < statement_count (plan_of p) → statement_kind (plan_of p) f ≡ 0 → PlainlyUndisturbedLoop (plan_of p) (data_of d) f
