-- T7: the paper's table about the definitions, all ten rows in one theorem, and beside it the other filed examples. By computation.
-- Assumes nothing.
use Prim.Native.Nat.{ℕ, zero, suc}
use mathlib.Core.Path.{◌≡◌, refl}
use mathlib.Core.List.{List, [], ◌∷◌, ◌++◌, map}
use mathlib.Core.Bool.{Bool, true, false}
use Rattle.std.specs.Prelude.{Ok, Err}
use Rattle.model.specs.Outcomes.{Written}
use Rattle.model.specs.Answers.{report, refusal}
use Rattle.model.specs.Bytes.{Bytes}
use Rattle.model.specs.Partitions.{contiguous, equal_start}
use Rattle.model.specs.Layout.{plan_of}
use Rattle.model.specs.Verdict.{verdict}
use Rattle.model.specs.DataSets.{data_of, pieces, size, data_check}
use Rattle.model.specs.Membership.{member}
use Rattle.model.specs.Evaluation.{evaluation}
use Rattle.model.specs.Provenance.{asking, explanation, nodes_after, elements_after}
use Rattle.model.specs.declared.Report.{Report}
use Rattle.model.specs.declared.Refusal.TheVariants.{InvalidData, OutputTooSmall, NotFound}
use Rattle.model.specs.declared.Question.{Question}
use Rattle.model.proofs.Computing.{definitions}
use Rattle.model.proofs.FiledPlans.{plan_a, plan_a_stepless, plan_a_written, plan_b, plan_b_partial, data_d}

-- a row's input: a plan to check; a node of a plan over a data set, with its region; equal of n elements over N pieces
pub data Input : Type 0 where
  checking : Bytes → Input
  evaluating : Bytes → Bytes → ℕ → ℕ → Input
  dividing : ℕ → ℕ → Input

-- what it gives: an answer, or the elements of each piece
pub data Output : Type 0 where
  answer : Report → Output
  subregions : List (List ℕ) → Output

-- the numbers from k on, of n, that pass
abbrev pub passing : (ℕ → Bool) → ℕ → ℕ → List ℕ
passing test k zero = []
passing test k (suc n) = elim (test k) [ true ↦ k ∷ passing test (suc k) n | false ↦ passing test (suc k) n ]

abbrev pub listed : (ℕ → ℕ → Bool) → ℕ → ℕ → ℕ → List (List ℕ)
listed partition n i zero = []
listed partition n i (suc N) = passing (partition i) 0 n ∷ listed partition n (suc i) N

abbrev pub gives : Input → Output
gives (checking p) = answer (report (verdict p))
gives (evaluating p d j r) = subregions (listed (member (plan_of p) (data_of d) j) (size (data_of d) r) 0 (pieces (data_of d)))
gives (dividing n N) = subregions (listed (contiguous N (equal_start N n)) n 0 N)

abbrev pub accepts : ℕ → ℕ → ℕ → Output
accepts symbols nodes steps = answer (record { number = 0; place = 0; symbols = symbols; nodes = nodes; steps = steps })

abbrev pub refuses : ℕ → ℕ → Output
refuses number place = answer (refusal number place)

abbrev pub inputs : List Input
inputs =
    checking []
    ∷ checking plan_a
    ∷ checking plan_a_stepless
    ∷ checking plan_a_written
    ∷ checking (plan_a ++ 0 ∷ [])
    ∷ checking plan_b
    ∷ checking plan_b_partial
    ∷ evaluating plan_b data_d 1 0
    ∷ dividing 0 3
    ∷ dividing 2 3
    ∷ []

abbrev pub outputs : List Output
outputs =
    refuses 1 0
    ∷ accepts 4 2 3
    ∷ refuses 11 0
    ∷ refuses 8 0
    ∷ refuses 3 63
    ∷ accepts 4 3 4
    ∷ refuses 10 1
    ∷ subregions ((0 ∷ 1 ∷ 3 ∷ []) ∷ (2 ∷ 4 ∷ []) ∷ [])
    ∷ subregions ([] ∷ [] ∷ [] ∷ [])
    ∷ subregions ((0 ∷ []) ∷ (1 ∷ []) ∷ [] ∷ [])
    ∷ []

pub filed_table : map gives inputs ≡ outputs
unfolding definitions
filed_table = refl

-- "So 7 over 3 gives 3, 2, 2"
pub seven_over_three : gives (dividing 7 3) ≡ subregions ((0 ∷ 1 ∷ 2 ∷ []) ∷ (3 ∷ 4 ∷ []) ∷ (5 ∷ 6 ∷ []) ∷ [])
unfolding definitions
seven_over_three = refl

-- D fits A and B; evaluating them over D into "nodes × N × 8" words, and into one word less
abbrev pub evaluated : Bytes → ℕ → Output
evaluated p lent = answer (report (evaluation p data_d lent))

pub filed_evaluations :
    (data_check (plan_of plan_a) data_d ≡ Ok tt) × (evaluated plan_a 32 ≡ accepts 4 2 3) × (evaluated plan_a 31 ≡ refuses 15 32)
    × (data_check (plan_of plan_b) data_d ≡ Ok tt) × (evaluated plan_b 48 ≡ accepts 4 3 4) × (evaluated plan_b 47 ≡ refuses 15 48)
unfolding definitions
filed_evaluations = (refl, refl, refl, refl, refl, refl)

-- why pieces of A's and B's nodes hold elements, over D: the answer, and what slices of three places, which held 9, hold then
pub record Explained : Type 0 where
  pub answered : Written
  pub nodes : List ℕ
  pub elements : List ℕ

abbrev pub explained : Bytes → Question → Explained
explained p q =
    let r = explanation p data_d q 3 3 in
    let old : List ℕ = 9 ∷ 9 ∷ 9 ∷ [] in
    record { answered = r; nodes = nodes_after p data_d q old r; elements = elements_after p data_d q old r }

pub filed_explanations :
    (explained plan_a (asking 1 1 2) ≡ record { answered = Ok 2; nodes = 1 ∷ 0 ∷ 9 ∷ []; elements = 2 ∷ 4 ∷ 9 ∷ [] })
    × (explained plan_b (asking 2 0 1) ≡ record { answered = Ok 3; nodes = 2 ∷ 1 ∷ 0 ∷ []; elements = 1 ∷ 3 ∷ 1 ∷ [] })
    × (explained plan_a (asking 1 0 1) ≡ record { answered = Err (NotFound 4); nodes = 9 ∷ 9 ∷ 9 ∷ []; elements = 9 ∷ 9 ∷ 9 ∷ [] })
    × (explanation plan_a data_d (asking 2 2 9) 3 3 ≡ Err (NotFound 1))
    × (explanation plan_a data_d (asking 1 2 9) 3 3 ≡ Err (NotFound 2))
    × (explanation plan_a data_d (asking 1 1 3) 3 3 ≡ Err (NotFound 3))
    × (explanation plan_a data_d (asking 1 1 2) 1 2 ≡ Err (OutputTooSmall 2))
    × (explanation plan_a data_d (asking 1 1 2) 2 1 ≡ Err (OutputTooSmall 2))
    × (explanation plan_a [] (asking 2 2 9) 0 0 ≡ Err InvalidData)
unfolding definitions
filed_explanations = (refl, refl, refl, refl, refl, refl, refl, refl, refl)
