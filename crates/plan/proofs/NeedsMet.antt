-- The needs as they are listed, two of each statement, are met where the definition's are, each by its first step. Assumes nothing.
use Prim.Native.Nat.{ℕ, zero, suc, ◌+◌, ◌*◌, ◌/◌, ◌≤◌, ◌<◌}
use native.Mathlib.Omega.{arith}
use mathlib.Core.Path.{◌≡◌, refl, sym, ◌∙◌}
use mathlib.Core.Bool.{Bool, true, false, and-true}
use mathlib.Core.List.{List}
use lib.ListN.{get_or}
use Rattle.std.specs.Prelude.{Result, Ok, Err}
use Rattle.model.specs.Tests.{Is, ◌and◌, ◌or◌, non, any, first, pick, ◌<?◌, ◌=?◌}
use Rattle.model.specs.Layout.{Plan, statement_count, node_count, step_count}
use Rattle.model.specs.Statements.{kind, opens_loop, access_of, is_access, opens, accesses}
use Rattle.model.specs.Parallel.{reduces_through_pointer}
use Rattle.model.specs.Lemmas.{concludes_subset, concludes_disjoint, concludes_complete}
use Rattle.model.specs.Needs.{symbol_node, operand_bound, loop_needs_met, access_need_met, need_check}
use Rattle.model.specs.Verdict.{needs_check}
use Rattle.model.specs.declared.StatementKind.{StatementKind}
use Rattle.model.specs.declared.StatementKind.TheVariants.{For, Load, Call, Copy, Read, Write, Reduce, Unknown}
use Rattle.model.specs.Outcomes.{require, ◌then◌, scan, Outcome}
use Rattle.model.specs.declared.Refusal.{Refusal}
use Rattle.model.proofs.Tests.{falsum, both, implied, less, less! }
use Rattle.model.proofs.Outcomes.{require_pass, scan_pass, then_assoc}
use Rattle.expressions.specs.Steps.{subset_key, disjoint_key, complete_key, ConclusionKeys}
use Rattle.primitives.proofs.Searching.{first_same, first_passes}
use Rattle.plan.specs.Needs.{first_need, second_need, NeedsListed, concluding_step, is_met, settled, NeedsSettled, NeedsChecked}
use Rattle.plan.specs.declared.needs.Need.{Need}
use Rattle.plan.specs.declared.needs.Need.TheVariants.{Nothing, Conclusion}

-- two checks of each statement in a row are one
scan_pairs : (f g : ℕ → Outcome) (k n : ℕ) → ((s : ℕ) → k ≤ s → s < k + n → (g (s * 2) then g (s * 2 + 1)) ≡ f s)
    → scan g (k * 2) (n * 2) ≡ scan f k n
unfolding scan
scan_pairs f g k zero h = refl
scan_pairs f g k (suc n) h =
    let twice : suc n * 2 ≡ suc (suc (n * 2)) = omega arith in
    let next : suc (k * 2) ≡ k * 2 + 1 = omega arith in
    let rest : suc (k * 2 + 1) ≡ suc k * 2 = omega arith in
    rw (twice, scan, next, rest, scan_pairs f g (suc k) n (λ s a b. h s (omega arith) (omega arith)), ← h k (omega arith) (omega arith), then_assoc)

require_both : (a b : Bool) (r : Refusal) → (require a r then require b r) ≡ require (a and b) r
unfolding require ◌then◌ ◌and◌
require_both true b r = refl
require_both false b r = refl

-- a statement that opens a loop is no access
opens_only : (k : StatementKind) → opens_loop k ≡ true → is_access (access_of k) ≡ false
unfolding opens_loop access_of is_access
opens_only For e = refl
opens_only Load e = falsum e
opens_only Call e = falsum e
opens_only Copy e = falsum e
opens_only Read e = falsum e
opens_only Write e = falsum e
opens_only Reduce e = falsum e
opens_only Unknown e = falsum e

no_loop : (k : StatementKind) → Is (is_access (access_of k)) → opens_loop k ≡ false
no_loop k access = go (opens_loop k) refl
  where
    go : (b : Bool) → opens_loop k ≡ b → opens_loop k ≡ false
    go true e = falsum (sym (opens_only k e) ∙ access)
    go false e = e

module _ (P : Plan) (conclusions : List ℕ) (known : ConclusionKeys P (step_count P) conclusions) where
  -- the step that concludes what is asked, and whether there is one, by what each step concludes
  module _ (key : ℕ) {f : ℕ → Bool} (told : (t : ℕ) → t < step_count P → (get_or conclusions t 0 =? key) ≡ f t) where
    first_step : concluding_step conclusions (step_count P) key ≡ first f 0 (step_count P)
    first_step = first_same _ f 0 (step_count P) (λ t a lt. told t (omega arith))

    some_step : is_met conclusions (step_count P) (Conclusion key) ≡ any (step_count P) f
    unfolding is_met
    some_step = rw (first_step, first_passes)

  module _ (x : ℕ) (small : x < 256) where
    complete_met : is_met conclusions (step_count P) (Conclusion (complete_key x)) ≡ any (step_count P) (λ t. concludes_complete P t x)
    complete_met = some_step _ (λ t lt. (known t lt).complete x small)

    disjoint_met : is_met conclusions (step_count P) (Conclusion (disjoint_key x)) ≡ any (step_count P) (λ t. concludes_disjoint P t x)
    disjoint_met = some_step _ (λ t lt. (known t lt).disjoint x small)

    subset_met : (y : ℕ) → y < 256 → is_met conclusions (step_count P) (Conclusion (subset_key x y)) ≡ any (step_count P) (λ t. concludes_subset P t x y)
    subset_met y small-y = some_step _ (λ t lt. (known t lt).subset x y small small-y)

  module _ (few : node_count P ≤ 48) where
    -- the two needs of a statement are met where the definition's are
    module _ (s : ℕ) (small : symbol_node P s < 256) where
      both_met : (is_met conclusions (step_count P) (first_need (kind P s) (symbol_node P s) (operand_bound P s) (node_count P))
          and is_met conclusions (step_count P) (second_need (opens P s and reduces_through_pointer P s) (symbol_node P s)))
          ≡ ((non (opens P s) or loop_needs_met P s) and (non (accesses P s) or access_need_met P s))
      unfolding first_need second_need loop_needs_met access_need_met opens accesses pick is_met non ◌or◌ ◌and◌
      both_met =
          go (opens P s) (accesses P s) (reduces_through_pointer P s) (operand_bound P s <? node_count P) refl refl refl refl
        where
          go : (o a r b : Bool) → opens P s ≡ o → accesses P s ≡ a → reduces_through_pointer P s ≡ r → (operand_bound P s <? node_count P) ≡ b
              → (is_met conclusions (step_count P) (first_need (kind P s) (symbol_node P s) (operand_bound P s) (node_count P))
              and is_met conclusions (step_count P) (second_need (opens P s and reduces_through_pointer P s) (symbol_node P s)))
              ≡ ((non (opens P s) or loop_needs_met P s) and (non (accesses P s) or access_need_met P s))
          go true a true b o e p q = rw (o, opens_only _ o, p, complete_met _ small, disjoint_met _ small, and-true)
          go true a false b o e p q = rw (o, opens_only _ o, p, complete_met _ small, and-true, and-true)
          go false true r true o e p q =
              let bound : operand_bound P s < 256 = omega (arith, less q) in
              rw (o, e, q, subset_met _ bound _ small, and-true)
          go false true r false o e p q = rw (o, e, q)
          go false false r b o e p q = rw (o, e)

    -- the needs as listed, in order
    module _ {needs : List Need} (listed : NeedsListed P (statement_count P) needs) where
      all_settled : scan (settled P needs conclusions) 0 (statement_count P * 2) ≡ needs_check P
      unfolding settled need_check
      all_settled = scan_pairs (need_check P) (settled P needs conclusions) 0 (statement_count P) two
        where
          two : (s : ℕ) → 0 ≤ s → s < 0 + statement_count P
              → (settled P needs conclusions (s * 2) then settled P needs conclusions (s * 2 + 1)) ≡ need_check P s
          two s a lt =
              let even : s * 2 / 2 ≡ s = omega arith in
              let odd : (s * 2 + 1) / 2 ≡ s = omega arith in
              let inside : s < statement_count P = omega arith in
              rw (
                even,
                odd,
                listed.first_are s inside,
                listed.second_are s inside,
                require_both,
                both_met s (listed.small_nodes s inside),
              )

      -- the step found for a need that asks for a conclusion
      module _ (steps : List ℕ) (found : NeedsSettled P needs conclusions (Ok steps)) (s : ℕ) (inside : s < statement_count P) where
        step_of : (i key : ℕ) {f : ℕ → Bool} → i < statement_count P * 2 → get_or needs i Nothing ≡ Conclusion key
            → ((t : ℕ) → t < step_count P → (get_or conclusions t 0 =? key) ≡ f t) → get_or steps i 0 ≡ first f 0 (step_count P)
        step_of i key lt e told = found.1 i key lt e ∙ first_step key told

        bound_listed : Is (accesses P s) → operand_bound P s < node_count P
        unfolding need_check access_need_met
        bound_listed access =
            less (both (implied (both (require_pass _ _ (scan_pass (need_check P) (statement_count P) (sym all_settled ∙ found.0) s inside))).1 access)).0

        complete_step : Is (opens P s) → get_or steps (s * 2) 0 ≡ first (λ t. concludes_complete P t (symbol_node P s)) 0 (step_count P)
        unfolding first_need opens pick
        complete_step own =
            step_of (s * 2) _ (omega arith) (listed.first_are s inside ∙ rw own)
            (λ t lt. (known t lt).complete (symbol_node P s) (listed.small_nodes s inside))

        disjoint_step : Is (opens P s) → Is (reduces_through_pointer P s)
            → get_or steps (s * 2 + 1) 0 ≡ first (λ t. concludes_disjoint P t (symbol_node P s)) 0 (step_count P)
        unfolding second_need ◌and◌ pick
        disjoint_step own reduces =
            step_of (s * 2 + 1) _ (omega arith) (listed.second_are s inside ∙ rw (own, reduces))
            (λ t lt. (known t lt).disjoint (symbol_node P s) (listed.small_nodes s inside))

        subset_step : Is (accesses P s)
            → get_or steps (s * 2) 0 ≡ first (λ t. concludes_subset P t (operand_bound P s) (symbol_node P s)) 0 (step_count P)
        unfolding first_need opens accesses pick
        subset_step access =
            let bound = bound_listed access in
            step_of (s * 2) _ (omega arith) (listed.first_are s inside ∙ rw (no_loop _ access, access, less! bound))
            (λ t lt. (known t lt).subset (operand_bound P s) (symbol_node P s) (omega arith) (listed.small_nodes s inside))

      pub needs_checked : (r : Result (List ℕ) Refusal) → NeedsSettled P needs conclusions r → NeedsChecked P r
      needs_checked (Ok steps) found = (
        sym all_settled ∙ found.0,
        record { completes = complete_step steps found; disjoints = disjoint_step steps found; subsets = subset_step steps found },
      )
      needs_checked (Err r) refused = sym all_settled ∙ refused
