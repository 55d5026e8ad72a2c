-- What the entry points promise, for all inputs: the contracts of `check`, `evaluate`, `explain` and `charge` cite these
-- records.
use Rattle.std.specs.Prelude.{ℕ, ◌+◌, ◌*◌, ◌/◌, ◌≤◌, ◌<◌, ◌≡◌, ◌↔◌, List, Bool, false, length, get_or, drop, Ok, Err}
use Rattle.model.specs.Outcomes.{Answer, Written, Charged}
use Rattle.model.specs.Tests.{Is}
use Rattle.model.specs.Answers.{report, written_report, charge_report}
use Rattle.model.specs.Bytes.{Bytes, body}
use Rattle.model.specs.Layout.{plan_of, statement_count, node_count}
use Rattle.model.specs.Nodes.{node_region}
use Rattle.model.specs.Verdict.{verdict}
use Rattle.model.specs.DataSets.{data_of, pieces, size}
use Rattle.model.specs.Membership.{member}
use Rattle.model.specs.Words.{holds}
use Rattle.model.specs.Evaluation.{evaluation, words_after}
use Rattle.model.specs.LoopRelations.{SymbolsBefore, NodeRegion}
use Rattle.model.specs.PlainPlan.{WellFormed, Parallelizable, Licensed, Concluded}
use Rattle.model.specs.PlainData.{Fits}
use Rattle.model.specs.GivenWhen.{PlanGivenWhen, EvaluationGivenWhen, ExplanationGivenWhen, ChargeGivenWhen}
use Rattle.model.specs.RefusalOrder.{turn, Earlier}
use Rattle.model.specs.PlainSets.{OperatorSets, DefinedSets}
use Rattle.model.specs.declared.Question.{Question}
use Rattle.model.specs.Provenance.{explanation, nodes_after, elements_after}
use Rattle.model.specs.Grounds.{Grounds, Explainable}
use Rattle.model.specs.declared.Transfer.{Transfer}
use Rattle.model.specs.Transfers.{transfer_ones, charge}
use Rattle.model.specs.Fetches.{Chargeable, Fetched, Numbered}
use Rattle.model.specs.Legal.{Legal}
use Rattle.model.specs.Undisturbed.{Undisturbed}
use Rattle.model.specs.declared.Refusal.{Refusal}
use Rattle.model.specs.declared.Acceptance.{Acceptance}
use Rattle.model.specs.declared.Charge.{Charge}

-- an answer is an acceptance
abbrev pub Accepts : Answer → Type 0
Accepts r = (a : Acceptance) × (r ≡ Ok a)

-- checking the plan's bytes p answers r
pub record CheckPromise (p : Bytes) (r : Answer) : Type 0 where
  -- number, place and counts are the verdict's
  pub answer : report r ≡ report (verdict p)
  -- demand 2: a plan is accepted exactly when it reads by the layout, its loops are parallelizable, each lemma step is licensed, and each
  -- need inferred from the loops is concluded by a step
  pub exactly : Accepts r ↔ (WellFormed p × Parallelizable p × Licensed p × Concluded p)
  -- the counts of an acceptance: symbols are the FORs and accesses, nodes and steps are records
  pub counts :
      (a : Acceptance) → r ≡ Ok a →
      SymbolsBefore (plan_of p) (statement_count (plan_of p)) a.symbols × (a.nodes ≡ length (body p 4) / 4) × (a.steps ≡ length (body p 6) / 5)
  -- a refusal holds as the table says: its number is "given when" this is so at its place
  pub refused : (q : Refusal) → r ≡ Err q → PlanGivenWhen p (report r).number (report r).place
  -- "The first met is given": nothing that is earlier in the order is so
  pub first :
      (q : Refusal) → r ≡ Err q → (number place : ℕ) → Earlier (turn number place) (turn (report r).number (report r).place) →
      PlanGivenWhen p number place → ⊥
  -- "No iteration disturbs another": so it is of an accepted plan over every data set that fits it
  pub undisturbed : Accepts r → (d : Bytes) → Fits (plan_of p) d → Undisturbed p d

-- evaluating plan p over data set d into words that held `old` answers r and leaves `new`
pub record EvaluationPromise (p d : Bytes) (old new : List ℕ) (r : Answer) : Type 0 where
  -- number, place and counts are the definition's
  pub answer : report r ≡ report (evaluation p d (length old))
  -- the final words, every one: the old ones after a refusal, and past the nodes' words
  pub words : new ≡ words_after p d old r
  -- acceptance "is due for each plan that demand 2 accepts, each data set that fits it and words enough", and for no other
  pub exactly :
      Accepts r ↔
      (WellFormed p × Parallelizable p × Licensed p × Concluded p × Fits (plan_of p) d ×
      (node_count (plan_of p) * pieces (data_of d) * 8 ≤ length old))
  -- "Refusal carries .. output words untouched"
  pub untouched : (q : Refusal) → r ≡ Err q → new ≡ old
  -- "Later words of the slice keep what they held", and the slice is as long as before
  pub later :
      Accepts r →
      (length new ≡ length old)
      × (drop (node_count (plan_of p) * pieces (data_of d) * 8) new ≡ drop (node_count (plan_of p) * pieces (data_of d) * 8) old)
  -- a refusal holds as the table says
  pub refused : (q : Refusal) → r ≡ Err q → EvaluationGivenWhen p d (length old) (report r).number (report r).place
  -- "The first met is given"
  pub first :
      (q : Refusal) → r ≡ Err q → (number place : ℕ) → Earlier (turn number place) (turn (report r).number (report r).place) →
      EvaluationGivenWhen p d (length old) number place → ⊥
  -- demand 2: evaluated subregions are the sets that the published operators define, no more and no less
  pub sets :
      Accepts r → (j i e : ℕ) → j < node_count (plan_of p) → i < pieces (data_of d) → e < 512 →
      holds new ((j * pieces (data_of d) + i) * 8) e ≡ member (plan_of p) (data_of d) j i e
  -- the same, in the plain reading of the operators: each element of each piece is there exactly when its node's operator puts it there
  pub operator_sets :
      Accepts r → OperatorSets (plan_of p) (data_of d) (λ j i e. Is (holds new ((j * pieces (data_of d) + i) * 8) e))
  -- "Bits at or above the size are 0"
  pub above_size :
      Accepts r → (j i e : ℕ) → j < node_count (plan_of p) → i < pieces (data_of d) → size (data_of d) (node_region (plan_of p) j) ≤ e → e < 512 →
      holds new ((j * pieces (data_of d) + i) * 8) e ≡ false
  -- demand 3
  pub legal : Accepts r → Legal p d new
  -- "No iteration disturbs another", over this data set
  pub undisturbed : Accepts r → Undisturbed p d

-- an answer says that a list was written
abbrev pub Writes : Written → Type 0
Writes r = (n : ℕ) × (r ≡ Ok n)

-- explaining, by plan p and data set d, what q asks, into slices that held `oldNodes` and `oldElements`, answers r and leaves the new ones
pub record ExplanationPromise (p d : Bytes) (q : Question) (oldNodes newNodes oldElements newElements : List ℕ) (r : Written) : Type 0 where
  -- number, place and length are the definition's
  pub answer : written_report r ≡ written_report (explanation p d q (length oldNodes) (length oldElements))
  -- both slices, every place of them: the chain's nodes and elements, and the old ones after a refusal and past the chain's length
  pub nodes : newNodes ≡ nodes_after p d q oldNodes r
  pub elements : newElements ≡ elements_after p d q oldElements r
  -- a chain is written exactly when the plan is accepted, the data set fits, the element is a member and both slices are long enough
  pub exactly :
      Writes r ↔
      (WellFormed p × Parallelizable p × Licensed p × Concluded p × Fits (plan_of p) d ×
      Explainable (plan_of p) (data_of d) q (length oldNodes) (length oldElements))
  -- "a refusal changes none of it"
  pub untouched : (s : Refusal) → r ≡ Err s → (newNodes ≡ oldNodes) × (newElements ≡ oldElements)
  -- "past the part written it keeps what it held"
  pub later :
      (n : ℕ) → r ≡ Ok n →
      (length newNodes ≡ length oldNodes) × (drop n newNodes ≡ drop n oldNodes)
      × (length newElements ≡ length oldElements) × (drop n newElements ≡ drop n oldElements)
  -- a refusal holds as the table says
  pub refused :
      (s : Refusal) → r ≡ Err s →
      ExplanationGivenWhen p d q (length oldNodes) (length oldElements) (written_report r).number (written_report r).place
  -- "The first met is given"
  pub first :
      (s : Refusal) → r ≡ Err s → (number place : ℕ) →
      Earlier (turn number place) (turn (written_report r).number (written_report r).place) →
      ExplanationGivenWhen p d q (length oldNodes) (length oldElements) number place → ⊥
  -- no chain is longer than there are nodes
  pub few : (n : ℕ) → r ≡ Ok n → n ≤ 48
  -- the slices hold the grounds of what was asked, of the sets that the operators define
  pub grounds :
      (n : ℕ) → r ≡ Ok n → (sets : ℕ → ℕ → ℕ → Bool) → DefinedSets (plan_of p) (data_of d) sets →
      Grounds (plan_of p) (data_of d) (λ j i e. Is (sets j i e)) q n (λ k. get_or newNodes k 0) (λ k. get_or newElements k 0)
  -- and these are its only grounds
  pub only :
      (n : ℕ) → r ≡ Ok n → (sets : ℕ → ℕ → ℕ → Bool) → DefinedSets (plan_of p) (data_of d) sets →
      (m : ℕ) (nodes elements : ℕ → ℕ) → Grounds (plan_of p) (data_of d) (λ j i e. Is (sets j i e)) q m nodes elements →
      (m ≡ n) × ((k : ℕ) → k < n → (nodes k ≡ get_or newNodes k 0) × (elements k ≡ get_or newElements k 0))

-- an answer is a charge
abbrev pub Charges : Charged → Type 0
Charges r = (c : Charge) × (r ≡ Ok c)

-- what the three numbers of a charge say
pub record ChargeMeans (p d : Bytes) (t : Transfer) (c : Charge) : Type 0 where
  -- "count the elements of each accessed piece that the same owned piece lacks, and add over the pieces": the count is their number, of the
  -- sets that the operators define
  pub counted :
      (sets : ℕ → ℕ → ℕ → Bool) → DefinedSets (plan_of p) (data_of d) sets →
      Numbered (Fetched (plan_of p) (data_of d) (λ j i e. Is (sets j i e)) t) c.count
  -- and no other number is
  pub only_count :
      (sets : ℕ → ℕ → ℕ → Bool) → DefinedSets (plan_of p) (data_of d) sets →
      (m : ℕ) → Numbered (Fetched (plan_of p) (data_of d) (λ j i e. Is (sets j i e)) t) m → m ≡ c.count
  -- "The count is the number of one bits in the words concerned": those that evaluating leaves, whatever they held
  pub one_bits :
      (old new : List ℕ) (a : Answer) → EvaluationPromise p d old new a → Accepts a →
      c.count ≡ transfer_ones new (pieces (data_of d)) t.accessed t.owned
  -- "count times price, divided by 1,000: whole cents, and the exact remainder"
  pub exact : c.cents * 1000 + c.remainder ≡ c.count * t.price
  pub below_a_cent : c.remainder < 1000
  -- nothing is charged for exactly when each accessed piece is contained in the owned one
  pub contained :
      (sets : ℕ → ℕ → ℕ → Bool) → DefinedSets (plan_of p) (data_of d) sets →
      (c.count ≡ 0) ↔ ((i e : ℕ) → i < pieces (data_of d) → e < 512 → Is (sets t.accessed i e) → Is (sets t.owned i e))
  -- at most every element of the region in every piece
  pub most : (r : ℕ) → NodeRegion (plan_of p) t.accessed r → c.count ≤ pieces (data_of d) * size (data_of d) r

-- charging, by plan p and data set d, for t answers r
pub record ChargePromise (p d : Bytes) (t : Transfer) (r : Charged) : Type 0 where
  -- number, place, count, cents and remainder are the definition's
  pub answer : charge_report r ≡ charge_report (charge p d t)
  -- a charge is made exactly when the plan is accepted, the data set fits, and nodes and price are chargeable
  pub exactly :
      Charges r ↔ (WellFormed p × Parallelizable p × Licensed p × Concluded p × Fits (plan_of p) d × Chargeable (plan_of p) t)
  -- a refusal holds as the table says
  pub refused : (s : Refusal) → r ≡ Err s → ChargeGivenWhen p d t (charge_report r).number (charge_report r).place
  -- "The first met is given"
  pub first :
      (s : Refusal) → r ≡ Err s → (number place : ℕ) →
      Earlier (turn number place) (turn (charge_report r).number (charge_report r).place) → ChargeGivenWhen p d t number place → ⊥
  -- its three numbers are the charge
  pub means : (c : Charge) → r ≡ Ok c → ChargeMeans p d t c
