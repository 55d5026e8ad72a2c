-- "Needs" as the checker settles them: two of each statement, listed in order, and the steps searched for each.
use Rattle.std.specs.Prelude.{ℕ, ◌+◌, ◌*◌, ◌/◌, ◌<◌, ◌≡◌, Bool, true, false, List, get_or, Result, Ok, Err}
use Rattle.model.specs.Tests.{Is, ◌and◌, first, pick, ◌=?◌, ◌<?◌}
use Rattle.model.specs.Outcomes.{require, scan, Outcome}
use Rattle.model.specs.Layout.{Plan, statement_count, node_count, step_count}
use Rattle.model.specs.Statements.{kind, opens_loop, access_of, is_access, opens, accesses}
use Rattle.model.specs.Parallel.{reduces_through_pointer}
use Rattle.model.specs.Lemmas.{concludes_subset, concludes_disjoint, concludes_complete}
use Rattle.model.specs.Needs.{symbol, symbol_node, bound_by, operand_bound}
use Rattle.model.specs.Verdict.{needs_check}
use Rattle.model.specs.declared.StatementKind.{StatementKind}
use Rattle.model.specs.declared.Refusal.{Refusal}
use Rattle.model.specs.declared.Refusal.TheVariants.{UnmetNeed}
use Rattle.expressions.specs.Steps.{subset_key, disjoint_key, complete_key}
use Rattle.plan.specs.declared.needs.Need.{Need}
use Rattle.plan.specs.declared.needs.Need.TheVariants.{Nothing, Unlisted, Conclusion}

-- the bound of the variable that statement s defines, from those of earlier variables
unfoldable pub bound_at : Plan → ℕ → (ℕ → ℕ) → ℕ
bound_at P s earlier = bound_by P (kind P s) s earlier

-- a bound that may be asked for: the statement is there, with its node, and the bound to follow is a byte
pub record BoundSought (P : Plan) (s node followed : ℕ) : Type 0 where
  pub inside : s < statement_count P
  pub node_is : node ≡ symbol_node P s
  pub small_node : node < 256
  pub small : followed < 256

-- what the symbol of a statement needs by its kind: "FOR needs COMP of its node", "An access needs SUB(bound, its node)"
unfoldable pub first_need : StatementKind → ℕ → ℕ → ℕ → Need
first_need kind node bound nodes =
    pick (opens_loop kind) (Conclusion (complete_key node))
    (pick (is_access (access_of kind)) (pick (bound <? nodes) (Conclusion (subset_key bound node)) Unlisted) Nothing)

-- and besides, for a loop that reduces through a pointer: "DISJ"
unfoldable pub second_need : Bool → ℕ → Need
second_need reduces node = pick reduces (Conclusion (disjoint_key node)) Nothing

-- the two needs of each of the first n statements, whose nodes' numbers are bytes
pub record NeedsListed (P : Plan) (n : ℕ) (needs : List Need) : Type 0 where
  pub first_are : (s : ℕ) → s < n → get_or needs (s * 2) Nothing ≡ first_need (kind P s) (symbol_node P s) (operand_bound P s) (node_count P)
  pub second_are : (s : ℕ) → s < n → get_or needs (s * 2 + 1) Nothing ≡ second_need (opens P s and reduces_through_pointer P s) (symbol_node P s)
  pub small_nodes : (s : ℕ) → s < n → symbol_node P s < 256

-- "the search is left at the first that concludes it": the first step whose conclusion is the need; the number of steps where none's is
abbrev pub concluding_step : List ℕ → ℕ → ℕ → ℕ
concluding_step conclusions steps key = first (λ t. get_or conclusions t 0 =? key) 0 steps

-- whether a step concludes a need, or nothing is asked
unfoldable pub is_met : List ℕ → ℕ → Need → Bool
is_met conclusions steps Nothing = true
is_met conclusions steps Unlisted = false
is_met conclusions steps (Conclusion key) = concluding_step conclusions steps key <? steps

-- need i of those listed: "a need no step concludes" is refused at its symbol
unfoldable pub settled : Plan → List Need → List ℕ → ℕ → Outcome
settled P needs conclusions i = require (is_met conclusions (step_count P) (get_or needs i Nothing)) (UnmetNeed (symbol P (i / 2)))

-- the needs listed, two of each statement, are all met, each that asks for something by this step first; or the first that is not is refused
abbrev pub NeedsSettled : Plan → List Need → List ℕ → Result (List ℕ) Refusal → Type 0
NeedsSettled P needs conclusions (Ok steps) = (scan (settled P needs conclusions) 0 (statement_count P * 2) ≡ Ok tt)
    × ((i key : ℕ) → i < statement_count P * 2 → get_or needs i Nothing ≡ Conclusion key → get_or steps i 0 ≡ concluding_step conclusions (step_count P) key)
NeedsSettled P needs conclusions (Err refusal) = scan (settled P needs conclusions) 0 (statement_count P * 2) ≡ Err refusal

-- the first steps that conclude the needs: of statement s at 2s COMP of its node or SUB of its bound, at 2s + 1 DISJ of its node
pub record ConcludingSteps (P : Plan) (steps : List ℕ) : Type 0 where
  pub completes : (s : ℕ) → s < statement_count P → Is (opens P s)
      → get_or steps (s * 2) 0 ≡ first (λ t. concludes_complete P t (symbol_node P s)) 0 (step_count P)
  pub disjoints : (s : ℕ) → s < statement_count P → Is (opens P s) → Is (reduces_through_pointer P s)
      → get_or steps (s * 2 + 1) 0 ≡ first (λ t. concludes_disjoint P t (symbol_node P s)) 0 (step_count P)
  pub subsets : (s : ℕ) → s < statement_count P → Is (accesses P s)
      → get_or steps (s * 2) 0 ≡ first (λ t. concludes_subset P t (operand_bound P s) (symbol_node P s)) 0 (step_count P)

-- the needs pass, and these are the steps that conclude them; or they are refused
abbrev pub NeedsChecked : Plan → Result (List ℕ) Refusal → Type 0
NeedsChecked P (Ok steps) = (needs_check P ≡ Ok tt) × ConcludingSteps P steps
NeedsChecked P (Err refusal) = needs_check P ≡ Err refusal
