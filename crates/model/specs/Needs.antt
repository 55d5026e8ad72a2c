-- "Needs": symbols and their nodes, bounds of variables, and what the steps must conclude.
use Rattle.std.specs.Prelude.{ℕ, zero, suc, ◌+◌, ◌*◌, Bool}
use Rattle.model.specs.Tests.{◌and◌, ◌or◌, non, any, first, pick, ◌=?◌, ◌<?◌}
use Rattle.model.specs.Recursion.{course}
use Rattle.model.specs.Outcomes.{require, ◌then◌, Outcome}
use Rattle.model.specs.Layout.{Plan, node_count, node_kind, node_a, node_b, assigned, assignment_count, statement_a, statement_count, step_count}
use Rattle.model.specs.Statements.{kind, opens, accesses, operand_definition, operand_region}
use Rattle.model.specs.Parallel.{reduces_through_pointer}
use Rattle.model.specs.Nodes.{IMAGE, node_region}
use Rattle.model.specs.Lemmas.{concludes_subset, concludes_disjoint, concludes_complete}
use Rattle.model.specs.declared.Refusal.TheVariants.{InvalidRecord, RegionMismatch, AssignmentCount, UnmetNeed}
use Rattle.model.specs.declared.StatementKind.{StatementKind}
use Rattle.model.specs.declared.StatementKind.TheVariants.{For, Load, Call, Copy, Read, Write, Reduce, Unknown}

module _ (P : Plan) where
  -- "FOR and accesses get symbols"
  unfoldable pub has_symbol : ℕ → Bool
  has_symbol s = opens P s or accesses P s

  -- "0, 1, .. in statement order": how many symbols stand before statement s, and so the number of its own
  unfoldable pub symbol : ℕ → ℕ
  symbol zero = 0
  symbol (suc s) = pick (has_symbol s) (suc (symbol s)) (symbol s)

  -- how many symbols there are
  abbrev pub symbol_count : ℕ
  symbol_count = symbol (statement_count P)

  -- "section 6 assigns each a node"
  abbrev pub symbol_node : ℕ → ℕ
  symbol_node s = assigned P (symbol s)

  -- the region of a statement's symbol: the loop's, or that of the access's variable
  unfoldable pub symbol_region : ℕ → ℕ
  symbol_region s = pick (opens P s) (statement_a P s) (operand_region P s)

  -- Uneven: "assignments not one per symbol"
  unfoldable pub assignment_count_check : Outcome
  assignment_count_check = require (assignment_count P =? symbol_count) (AssignmentCount symbol_count)

  -- the record of section 6 for the symbol of statement s; symbols in statement order are records in order
  unfoldable pub assignment_check : ℕ → Outcome
  assignment_check s =
      require (non (has_symbol s) or symbol_node s <? node_count P) (InvalidRecord (6 * 256 + symbol s))
      then require (non (has_symbol s) or node_region P (symbol_node s) =? symbol_region s) (RegionMismatch (6 * 256 + symbol s))

  -- the image node of node a under map m; the number of nodes where none is listed
  unfoldable pub image_node : ℕ → ℕ → ℕ
  image_node a m = first (λ j. node_kind P j =? IMAGE and node_a P j =? a and node_b P j =? m) 0 (node_count P)

  -- "Variable 0's bound is its FOR's node; LOAD and CALL take the image node of the earlier variable's bound; COPY keeps it"
  unfoldable pub bound_by : StatementKind → ℕ → (ℕ → ℕ) → ℕ
  bound_by For s earlier = symbol_node s
  bound_by Load s earlier = image_node (earlier (operand_definition P s)) (statement_a P s)
  bound_by Call s earlier = image_node (earlier (operand_definition P s)) (statement_a P s)
  bound_by Copy s earlier = earlier (operand_definition P s)
  bound_by Read s earlier = node_count P
  bound_by Write s earlier = node_count P
  bound_by Reduce s earlier = node_count P
  bound_by Unknown s earlier = node_count P

  -- the bound of the variable that statement s defines
  unfoldable pub bound : ℕ → ℕ
  bound s = course (node_count P) (λ t earlier. bound_by (kind P t) t earlier) s

  -- the bound of the variable that statement s works on
  abbrev pub operand_bound : ℕ → ℕ
  operand_bound s = bound (operand_definition P s)

  -- "FOR needs COMP of its node .., and DISJ .. if the loop has an uncentered REDUCE"
  unfoldable pub loop_needs_met : ℕ → Bool
  loop_needs_met s =
      any (step_count P) (λ t. concludes_complete P t (symbol_node s))
      and (non (reduces_through_pointer P s) or any (step_count P) (λ t. concludes_disjoint P t (symbol_node s)))

  -- "An access needs SUB(bound, its node)"; "An image node that is not listed makes that need unmet"
  unfoldable pub access_need_met : ℕ → Bool
  access_need_met s = operand_bound s <? node_count P and any (step_count P) (λ t. concludes_subset P t (operand_bound s) (symbol_node s))

  -- Unmet: "a need no step concludes", at the symbol
  unfoldable pub need_check : ℕ → Outcome
  need_check s =
      require ((non (opens P s) or loop_needs_met s) and (non (accesses P s) or access_need_met s)) (UnmetNeed (symbol s))
