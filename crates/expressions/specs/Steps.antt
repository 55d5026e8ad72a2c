-- A record of section 7 as it is read, and the table of what the steps conclude.
use Rattle.std.specs.Prelude.{ℕ, ◌+◌, ◌*◌, ◌≤◌, ◌<◌, ◌≡◌, List, get_or, Ok}
use Rattle.model.specs.Outcomes.{Outcome}
use Rattle.model.specs.Tests.{◌=?◌}
use Rattle.model.specs.Bytes.{Bytes}
use Rattle.model.specs.Layout.{Plan, step_count, step_lemma, step_x, step_y, step_p, step_q}
use Rattle.model.specs.Lemmas.{concludes_subset, concludes_disjoint, concludes_complete}
use Rattle.model.specs.Verdict.{steps_check}
use Rattle.model.specs.declared.Conclusion.{Conclusion}
use Rattle.model.specs.declared.Conclusion.TheVariants.{Subset, Disjoint, Complete}
use Rattle.expressions.specs.declared.records.Step.{Step}

-- a plan of the sections that steps are checked by
pub record StepSources (P : Plan) (maps supplied nodes steps : Bytes) : Type 0 where
  pub maps_are : P.maps ≡ maps
  pub supplied_are : P.supplied ≡ supplied
  pub nodes_are : P.nodes ≡ nodes
  pub steps_are : P.steps ≡ steps

-- SUB(x, y), DISJ(x) and COMP(x) as keys
abbrev pub subset_key : ℕ → ℕ → ℕ
subset_key x y = x * 256 + y

abbrev pub disjoint_key : ℕ → ℕ
disjoint_key x = 65536 + x * 256

abbrev pub complete_key : ℕ → ℕ
complete_key x = 131072 + x * 256

-- what a lemma of this form concludes of x and y
unfoldable pub conclusion_key : Conclusion → ℕ → ℕ → ℕ
conclusion_key Subset x y = subset_key x y
conclusion_key Disjoint x y = disjoint_key x
conclusion_key Complete x y = complete_key x

-- what was read is step t: "lemma, x, y, p, q"
pub record StepRead (P : Plan) (t : ℕ) (r : Step) : Type 0 where
  pub lemma : r.lemma ≡ step_lemma P t
  pub x : r.x ≡ step_x P t
  pub y : r.y ≡ step_y P t
  pub p : r.p ≡ step_p P t
  pub q : r.q ≡ step_q P t

-- the lemma is one of the 21, and p and q are steps up to t
pub record FormedStep (step : Step) (t : ℕ) : Type 0 where
  pub from : 1 ≤ step.lemma
  pub to : step.lemma ≤ 21
  pub p : step.p ≤ t
  pub q : step.q ≤ t

-- the key tells what step t concludes
pub record ConclusionKey (P : Plan) (t key : ℕ) : Type 0 where
  pub subset : (x y : ℕ) → x < 256 → y < 256 → (key =? subset_key x y) ≡ concludes_subset P t x y
  pub disjoint : (x : ℕ) → x < 256 → (key =? disjoint_key x) ≡ concludes_disjoint P t x
  pub complete : (x : ℕ) → x < 256 → (key =? complete_key x) ≡ concludes_complete P t x
  pub small : key < 196608

-- the table has such a key for each of the first n steps
abbrev pub ConclusionKeys : Plan → ℕ → List ℕ → Type 0
ConclusionKeys P n table = (t : ℕ) → t < n → ConclusionKey P t (get_or table t 0)

-- the outcome of section 7 and, after a pass, what each step concludes
pub record StepsRead (P : Plan) (r : Outcome) (table : List ℕ) : Type 0 where
  pub outcome : r ≡ steps_check P
  pub conclusions : r ≡ Ok tt → ConclusionKeys P (step_count P) table
