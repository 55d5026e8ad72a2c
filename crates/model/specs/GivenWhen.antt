-- The table of refusals, columns "no.", "given when" and "place", as plain statements: what is so where a refusal of this number is given
-- at this place.
use Rattle.std.specs.Prelude.{ℕ, suc, ◌+◌, ◌*◌, ◌≤◌, ◌<◌, ◌≡◌, ◌⊎◌, Bool, length}
use Rattle.model.specs.Tests.{Is}
use Rattle.model.specs.Bytes.{Bytes, byte, boundary, body}
use Rattle.model.specs.Layout.{Plan, plan_of, region_count, map_count, supplied_count, statement_count, node_count, assignment_count, step_count, fields, source, target, totality, supplied_region, supplied_flags, statement_kind, assigned, step_lemma, step_x, step_y, step_p, step_q}
use Rattle.model.specs.LoopRelations.{HasSymbol, SymbolsBefore, SymbolRegion, NodeRegion}
use Rattle.model.specs.PlainPlan.{SectionLength, StatementFormed, StatementAgrees, ParallelizableLoop, NodeFormed, NodeAgrees, SameNode, StepFormed, Licence, NeedsConcluded}
use Rattle.model.specs.DataSets.{DataSet, data_of, pieces, size}
use Rattle.model.specs.PlainData.{WellFramed, EntryFits, DeclarationsHold}
use Rattle.model.specs.PlainSets.{DefinedSets}
use Rattle.model.specs.declared.Question.{Question}
use Rattle.model.specs.Grounds.{PairExists, Grounds}
use Rattle.model.specs.declared.Transfer.{Transfer}
use Rattle.model.specs.Fetches.{BothExist, OneRegion}

-- Stray, at section × 256 + record
pub data RecordInvalid (P : Plan) (place : ℕ) : Type 0 where
  in_regions :
      {r : ℕ} → place ≡ 1 * 256 + r → r < region_count P → ((1 ≤ fields P r) × (fields P r ≤ 8) → ⊥) → RecordInvalid P place
  in_maps :
      {m : ℕ} → place ≡ 2 * 256 + m → m < map_count P →
      ((source P m < region_count P) × (target P m < region_count P) × ((totality P m ≡ 0) ⊎ (totality P m ≡ 1)) → ⊥) → RecordInvalid P place
  in_supplied :
      {k : ℕ} → place ≡ 3 * 256 + k → k < supplied_count P → ((supplied_region P k < region_count P) × (supplied_flags P k ≤ 3) → ⊥) →
      RecordInvalid P place
  in_statements : {s : ℕ} → place ≡ 4 * 256 + s → s < statement_count P → (StatementFormed P s → ⊥) → RecordInvalid P place
  in_nodes : {j : ℕ} → place ≡ 5 * 256 + j → j < node_count P → (NodeFormed P j → ⊥) → RecordInvalid P place
  in_assignments :
      {s k : ℕ} → place ≡ 6 * 256 + k → s < statement_count P → HasSymbol P s → SymbolsBefore P s k → (assigned P k < node_count P → ⊥) →
      RecordInvalid P place
  in_steps : {t : ℕ} → place ≡ 7 * 256 + t → t < step_count P → (StepFormed P t → ⊥) → RecordInvalid P place

-- Mismatch: "regions disagree", at section × 256 + record
pub data RegionsDisagree (P : Plan) (place : ℕ) : Type 0 where
  in_statements : {s : ℕ} → place ≡ 4 * 256 + s → s < statement_count P → (StatementAgrees P s → ⊥) → RegionsDisagree P place
  in_nodes : {j : ℕ} → place ≡ 5 * 256 + j → j < node_count P → (NodeAgrees P j → ⊥) → RegionsDisagree P place
  in_assignments :
      {s k : ℕ} → place ≡ 6 * 256 + k → s < statement_count P → HasSymbol P s → SymbolsBefore P s k →
      (((r : ℕ) → SymbolRegion P s r → NodeRegion P (assigned P k) r) → ⊥) → RegionsDisagree P place

-- numbers 1 to 11: what a plan is refused for
pub data PlanGivenWhen (p : Bytes) (number place : ℕ) : Type 0 where
  -- Short: "input ends before a section does", at the section; "0 if empty"
  empty : number ≡ 1 → place ≡ 0 → length p ≡ 0 → PlanGivenWhen p number place
  truncated :
      {n : ℕ} → number ≡ 1 → place ≡ suc n → n < 7 → boundary p n ≤ length p → length p < boundary p (suc n) → PlanGivenWhen p number place
  -- Edition: "byte 0 is not 1"
  unknown_edition : number ≡ 2 → place ≡ 0 → (byte p 0 ≡ 1 → ⊥) → PlanGivenWhen p number place
  -- Long: "bytes after section 7", at "their offset"
  trailing_bytes : number ≡ 3 → place ≡ boundary p 7 → boundary p 7 < length p → PlanGivenWhen p number place
  -- Measure: "length not whole records, or count outside its limits", at the section
  invalid_length :
      {n : ℕ} → number ≡ 4 → place ≡ suc n → n < 7 → (SectionLength place (length (body p n)) → ⊥) → PlanGivenWhen p number place
  -- Stray
  invalid_record : number ≡ 5 → RecordInvalid (plan_of p) place → PlanGivenWhen p number place
  -- Mismatch
  region_mismatch : number ≡ 6 → RegionsDisagree (plan_of p) place → PlanGivenWhen p number place
  -- Twin: "node equals an earlier one", at the record
  duplicate_node_lem :
      {earlier : ℕ} → number ≡ 7 → place < node_count (plan_of p) → earlier < place → SameNode (plan_of p) earlier place →
      PlanGivenWhen p number place
  -- Tangled: "loop not parallelizable", at "its FOR's record"
  not_parallelizable :
      number ≡ 8 → place < statement_count (plan_of p) → statement_kind (plan_of p) place ≡ 0 → (ParallelizableLoop (plan_of p) place → ⊥) →
      PlanGivenWhen p number place
  -- Uneven: "assignments not one per symbol", at the "number of symbols"
  assignment_count_lem :
      number ≡ 9 → SymbolsBefore (plan_of p) (statement_count (plan_of p)) place → (assignment_count (plan_of p) ≡ place → ⊥) →
      PlanGivenWhen p number place
  -- Unlicensed: "step not by its lemma", at the step
  unlicensed_step :
      number ≡ 10 → place < step_count (plan_of p) →
      (Licence (plan_of p) (step_lemma (plan_of p) place) (step_x (plan_of p) place) (step_y (plan_of p) place) (step_p (plan_of p) place)
      (step_q (plan_of p) place) → ⊥) →
      PlanGivenWhen p number place
  -- Unmet: "a need no step concludes", at the symbol
  unmet_need :
      {s : ℕ} → number ≡ 11 → s < statement_count (plan_of p) → HasSymbol (plan_of p) s → SymbolsBefore (plan_of p) s place →
      (NeedsConcluded (plan_of p) s → ⊥) → PlanGivenWhen p number place

-- numbers 12 to 14: what a data set is refused for
pub data DataGivenWhen (P : Plan) (d : Bytes) (number place : ℕ) : Type 0 where
  -- Misframed: "data set empty, edition, lengths, N or sizes wrong, or bytes left over"
  invalid_data : number ≡ 12 → place ≡ 0 → (WellFramed P d → ⊥) → DataGivenWhen P d number place
  -- Dangling: "entry not none and at or above the target's size, or none in a total map", at "map × 512 + element"
  invalid_entry :
      {m k : ℕ} → number ≡ 13 → place ≡ m * 512 + k → m < map_count P → k < size (data_of d) (source P m) →
      (EntryFits P (data_of d) m k → ⊥) → DataGivenWhen P d number place
  -- Untrue: "supplied partition breaks a declared flag or has a pad bit", at "its number"
  invalid_partition : number ≡ 14 → place < supplied_count P → (DeclarationsHold P (data_of d) place → ⊥) → DataGivenWhen P d number place

-- number 15: what the lent words are refused for
pub data OutputGivenWhen (P : Plan) (D : DataSet) (lent number place : ℕ) : Type 0 where
  -- Narrow: "fewer words lent than nodes × N × 8", at "that product"
  output_too_small : number ≡ 15 → place ≡ node_count P * pieces D * 8 → lent < place → OutputGivenWhen P D lent number place

-- evaluating plan p over data set d, where so many words are lent: it "gives 1 to 15"
pub data EvaluationGivenWhen (p d : Bytes) (lent number place : ℕ) : Type 0 where
  of_plan : PlanGivenWhen p number place → EvaluationGivenWhen p d lent number place
  of_data : DataGivenWhen (plan_of p) d number place → EvaluationGivenWhen p d lent number place
  of_output : OutputGivenWhen (plan_of p) (data_of d) lent number place → EvaluationGivenWhen p d lent number place

-- number 16: what is asked for is absent
pub data QuestionGivenWhen (P : Plan) (D : DataSet) (q : Question) (number place : ℕ) : Type 0 where
  -- "node .. does not exist", place 1
  no_node : number ≡ 16 → place ≡ 1 → (q.node < node_count P → ⊥) → QuestionGivenWhen P D q number place
  -- "piece", place 2
  no_piece : number ≡ 16 → place ≡ 2 → q.node < node_count P → (q.piece < pieces D → ⊥) → QuestionGivenWhen P D q number place
  -- "or element", place 3: it is not in the node's region
  no_element :
      number ≡ 16 → place ≡ 3 → q.node < node_count P → q.piece < pieces D → (PairExists P D q.node q.element → ⊥) →
      QuestionGivenWhen P D q number place
  -- "or the element is not a member", place 4, of the sets that the operators define
  no_member :
      number ≡ 16 → place ≡ 4 → q.piece < pieces D → PairExists P D q.node q.element →
      ((sets : ℕ → ℕ → ℕ → Bool) → DefinedSets P D sets → Is (sets q.node q.piece q.element) → ⊥) →
      QuestionGivenWhen P D q number place

-- number 15: what two slices of these lengths are refused for
pub data ChainGivenWhen (P : Plan) (D : DataSet) (q : Question) (lentNodes lentElements number place : ℕ) : Type 0 where
  -- "Too short a slice is Narrow with the length as its place"
  chain_too_long :
      {sets : ℕ → ℕ → ℕ → Bool} {nodes elements : ℕ → ℕ} → number ≡ 15 → q.piece < pieces D → DefinedSets P D sets →
      Grounds P D (λ j i e. Is (sets j i e)) q place nodes elements → (lentNodes < place) ⊎ (lentElements < place) →
      ChainGivenWhen P D q lentNodes lentElements number place

-- explaining, of plan p over data set d, where slices of these lengths are lent
pub data ExplanationGivenWhen (p d : Bytes) (q : Question) (lentNodes lentElements number place : ℕ) : Type 0 where
  of_plan : PlanGivenWhen p number place → ExplanationGivenWhen p d q lentNodes lentElements number place
  of_data : DataGivenWhen (plan_of p) d number place → ExplanationGivenWhen p d q lentNodes lentElements number place
  of_question : QuestionGivenWhen (plan_of p) (data_of d) q number place → ExplanationGivenWhen p d q lentNodes lentElements number place
  of_chain :
      ChainGivenWhen (plan_of p) (data_of d) q lentNodes lentElements number place →
      ExplanationGivenWhen p d q lentNodes lentElements number place

-- number 17: nodes and price for which there is no charge
pub data TransferGivenWhen (P : Plan) (t : Transfer) (number place : ℕ) : Type 0 where
  -- "a node does not exist", either of them, place 1
  no_node : number ≡ 17 → place ≡ 1 → (BothExist P t → ⊥) → TransferGivenWhen P t number place
  -- "the two differ in region", place 2
  regions_differ : number ≡ 17 → place ≡ 2 → BothExist P t → (OneRegion P t → ⊥) → TransferGivenWhen P t number place
  -- "the price is above 1,000,000", place 3
  price_too_high : number ≡ 17 → place ≡ 3 → BothExist P t → OneRegion P t → 1000000 < t.price → TransferGivenWhen P t number place

-- charging, by plan p and data set d
pub data ChargeGivenWhen (p d : Bytes) (t : Transfer) (number place : ℕ) : Type 0 where
  of_plan : PlanGivenWhen p number place → ChargeGivenWhen p d t number place
  of_data : DataGivenWhen (plan_of p) d number place → ChargeGivenWhen p d t number place
  of_transfer : TransferGivenWhen (plan_of p) t number place → ChargeGivenWhen p d t number place
