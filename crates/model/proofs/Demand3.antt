-- Demand 3 (T5): an accepted plan over data that fit fills the words so that every access of every task is safe. The needs of loops and
-- accesses are concluded by steps, which are true, and the words hold the nodes' sets. And T6: where all checks pass, acceptance is given.
use Prim.Native.Nat.{ℕ, suc, ◌+◌, ◌*◌, ◌≤◌, ◌<◌}
use mathlib.Core.Path.{◌≡◌, sym, ◌∙◌, ap}
use mathlib.Core.Logic.{inl, inr}
use mathlib.Core.List.{List}
use native.Mathlib.Omega.{arith}
use lib.ListN.{length}
use Rattle.std.specs.Prelude.{Ok}
use Rattle.model.specs.declared.Acceptance.{Acceptance}
use Rattle.model.specs.Tests.{Is}
use Rattle.model.specs.Bytes.{Bytes}
use Rattle.model.specs.Layout.{Plan, plan_of, node_count, statement_count, statement_kind, statement_a}
use Rattle.model.specs.Statements.{opens, accesses}
use Rattle.model.specs.Nodes.{node_region}
use Rattle.model.specs.Parallel.{reduces_through_pointer}
use Rattle.model.specs.Needs.{has_symbol, symbol_node, symbol_region, bound, operand_bound, loop_needs_met, access_need_met}
use Rattle.model.specs.LoopRelations.{HasSymbol}
use Rattle.model.specs.Verdict.{plan_check, accepted, verdict}
use Rattle.model.specs.DataSets.{DataSet, data_of, pieces, data_check}
use Rattle.model.specs.Membership.{member}
use Rattle.model.specs.Words.{holds}
use Rattle.model.specs.Evaluation.{words_needed, inputs_check, evaluation_check, evaluation, filled_words}
use Rattle.model.specs.Legal.{InSubregion, LegalLoop, Legal}
use Rattle.model.specs.AcceptedPlans.{Facts}
use Rattle.model.proofs.Tests.{both, pair, one, implied, less, less!, most, most!, some_of, pick_true}
use Rattle.model.proofs.Outcomes.{then_pass, passes_then, require_pass, required, conclude_ok, conclude_pass}
use Rattle.model.proofs.Accepted.{plan_accepted}
use Rattle.model.proofs.Fitting.{Fit, fit}
use Rattle.model.proofs.NodeSets.{region_small, node_within}
use Rattle.model.proofs.StepTruth.{SubsetHolds, DisjointHolds, CompleteHolds, subset_of, disjoint_of, complete_of}
use Rattle.model.proofs.Steps.{steps_true}
use Rattle.model.proofs.FinalWords.{filled_holds}
use Rattle.model.proofs.Bounds.{bounded}
use Rattle.model.proofs.StatementKinds.{opens_is, accesses_is}
use Rattle.model.proofs.LoopsAgree.{in_loop, resolves_loop}
use Rattle.model.proofs.VariablesAgree.{FormedBefore, access_computed}
use Rattle.model.proofs.LoopAccesses.{access_resolves}
use Rattle.model.proofs.ParallelAgree.{reduces_through_pointer_lem}
use Rattle.model.proofs.SymbolsAgree.{has_symbol_lem}
use Rattle.model.proofs.SubregionsAgree.{subregion, subregion_computed, subregion_is}

-- the words hold the nodes' sets
abbrev pub Filled : Plan → DataSet → List ℕ → Type 0
Filled P D words = (j i e : ℕ) → j < node_count P → i < pieces D → e < 512 → holds words ((j * pieces D + i) * 8) e ≡ member P D j i e

-- the needs that the steps conclude
module _ (P : Plan) (D : DataSet) (F : Facts P) (fits : Fit P D) where
  loop_complete : (f : ℕ) → f < statement_count P → Is (opens P f) → CompleteHolds P D (symbol_node P f)
  unfolding loop_needs_met
  loop_complete f lt h =
      let (t, listed, concludes) = some_of (both (F.loop_met f lt h)).0 in
      complete_of P D t (symbol_node P f) concludes (steps_true P D F fits t listed)

  loop_disjoint : (f : ℕ) → f < statement_count P → Is (opens P f) → Is (reduces_through_pointer P f) → DisjointHolds P D (symbol_node P f)
  unfolding loop_needs_met
  loop_disjoint f lt h reduces =
      let (t, listed, concludes) = some_of (implied (both (F.loop_met f lt h)).1 reduces) in
      disjoint_of P D t (symbol_node P f) concludes (steps_true P D F fits t listed)

  access_subset : (s : ℕ) → s < statement_count P → Is (accesses P s) → SubsetHolds P D (operand_bound P s) (symbol_node P s)
  unfolding access_need_met
  access_subset s lt h =
      let (t, listed, concludes) = some_of (both (F.access_met s lt h)).1 in
      subset_of P D t (operand_bound P s) (symbol_node P s) concludes (steps_true P D F fits t listed)

  access_bound_listed : (s : ℕ) → s < statement_count P → Is (accesses P s) → operand_bound P s < node_count P
  unfolding access_need_met
  access_bound_listed s lt h = less (both (F.access_met s lt h)).0

  -- the statements up to one of the plan's are formed
  formed_through : {s : ℕ} → s < statement_count P → FormedBefore P (suc s)
  formed_through lt t l = F.statement_formed_lem t (omega arith)

  module _ (words : List ℕ) (filled : Filled P D words) where
    -- a symbol's subregion is its node's set
    in_subregion :
        (s i e : ℕ) → s < statement_count P → HasSymbol P s → Is (member P D (symbol_node P s) i e) → InSubregion P D words s i e
    unfolding subregion
    in_subregion s i e lt h m =
        let y = (has_symbol_lem P s).1 h in
        let n = F.node_listed s lt y in
        let (piece, inside) = node_within P D F fits (symbol_node P s) n i e m in
        let small = region_small P D F fits (symbol_node P s) n in
        (subregion_is P D words (formed_through lt) h).0
        (pair (less! (rw (F.node_region_lem s lt y) at inside)) (filled (symbol_node P s) i e n piece (omega arith) ∙ m))

    of_subregion :
        (s i e : ℕ) → s < statement_count P → HasSymbol P s → i < pieces D → InSubregion P D words s i e →
        Is (member P D (symbol_node P s) i e)
    unfolding subregion
    of_subregion s i e lt h piece w =
        let y = (has_symbol_lem P s).1 h in
        let n = F.node_listed s lt y in
        let (below, held) = both (subregion_computed P D words w) in
        let inside = less below in
        let small = rw (F.node_region_lem s lt y) at (region_small P D F fits (symbol_node P s) n) in
        sym (filled (symbol_node P s) i e n piece (omega arith)) ∙ held

    -- the region of a FOR's node is the loop's
    loop_region : (f : ℕ) → f < statement_count P → Is (opens P f) → node_region P (symbol_node P f) ≡ statement_a P f
    unfolding has_symbol symbol_region
    loop_region f lt o = F.node_region_lem f lt (one (inl o)) ∙ pick_true _ _ _ o

    legal_loop : (f : ℕ) → f < statement_count P → statement_kind P f ≡ 0 → LegalLoop P D words f
    legal_loop f lt h =
        let o = (opens_is P f).1 h in
        let some = fits.some_piece in
        record {
          covered = λ k inside.
              let (i, piece, m) = loop_complete f lt o k (rw (loop_region f lt o) (omega arith)) in
              (i, omega (arith, fits.few_pieces), in_subregion f i k lt (inl h) m);
          once = λ k i j reduces li lj a b.
              loop_disjoint f lt o ((reduces_through_pointer_lem P (λ s l. F.statement_formed_lem s l) f).1 reduces) i j k
              (of_subregion f i k lt (inl h) (omega arith) a) (of_subregion f j k lt (inl h) (omega arith) b);
          contained = λ s i k e ls here li holds touches.
              let (d, through, value) = touches in
              let ins : s < statement_count P = omega arith in
              let (access, _, from) = access_computed P through in
              let w = (access_resolves P through).1 in
              let start = of_subregion f i k lt (inl h) (omega arith) holds in
              let in-bound : Is (member P D (bound P d) i e) =
              bounded P D F i value (omega (arith, w.earlier)) (rw (resolves_loop P w ∙ ((in_loop P).1 here).2) start)
              (rw from at (access_bound_listed s ins access)) in
              in_subregion s i e ins (inr ((accesses_is P s).0 access)) ((access_subset s ins access).subset i e (rw from in-bound));
        }

-- over words that hold the nodes' sets
pub legal :
    (p d : Bytes) (words : List ℕ) → plan_check p ≡ Ok tt → data_check (plan_of p) d ≡ Ok tt → Filled (plan_of p) (data_of d) words →
    Legal p d words
legal p d words plan_passes data_passes filled f lt h =
    legal_loop (plan_of p) (data_of d) (plan_accepted p plan_passes).records (fit (plan_of p) d data_passes) words filled f (omega arith) h

-- what an acceptance by evaluation says
pub record Evaluated (p d : Bytes) (lent : ℕ) (a : Acceptance) : Type 0 where
  pub plan_passes : plan_check p ≡ Ok tt
  pub data_passes : data_check (plan_of p) d ≡ Ok tt
  pub enough : words_needed (plan_of p) (data_of d) ≤ lent
  pub counts : accepted (plan_of p) ≡ a

pub evaluated : (p d : Bytes) (lent : ℕ) (a : Acceptance) → evaluation p d lent ≡ Ok a → Evaluated p d lent a
unfolding evaluation evaluation_check inputs_check
evaluated p d lent a h =
    let (passes, counts) = conclude_ok _ _ a h in
    let (inputs-pass, enough) = then_pass _ _ passes in
    let (plan_passes, data_passes) = then_pass _ _ inputs-pass in
    let l = most (require_pass _ _ enough) in
    record { plan_passes = plan_passes; data_passes = data_passes; enough = omega arith; counts = counts }

-- T6: acceptance is given to each accepted plan, over each data set that fits it, where enough words are lent
pub acceptance_given :
    (p d : Bytes) (lent : ℕ) (a : Acceptance) → verdict p ≡ Ok a → data_check (plan_of p) d ≡ Ok tt →
    words_needed (plan_of p) (data_of d) ≤ lent → evaluation p d lent ≡ Ok a
unfolding verdict evaluation evaluation_check inputs_check
acceptance_given p d lent a h data_passes enough =
    let (plan_passes, counts) = conclude_ok _ _ a h in
    conclude_pass _ _ (passes_then (passes_then plan_passes data_passes) (required _ _ (most! (omega arith)))) ∙ ap Ok counts

-- T5: every accepted plan serves its loops, over every data set that fits it and whatever the words held
pub demand_3 :
    (p d : Bytes) (old : List ℕ) → plan_check p ≡ Ok tt → data_check (plan_of p) d ≡ Ok tt →
    words_needed (plan_of p) (data_of d) ≤ length old → Legal p d (filled_words (plan_of p) (data_of d) old)
demand_3 p d old plan_passes data_passes enough =
    legal p d _ plan_passes data_passes (filled_holds (plan_of p) (data_of d) old enough)

pub demand_3_evaluated :
    (p d : Bytes) (old : List ℕ) (a : Acceptance) → evaluation p d (length old) ≡ Ok a →
    Legal p d (filled_words (plan_of p) (data_of d) old)
demand_3_evaluated p d old a h =
    let E = evaluated p d (length old) a h in
    demand_3 p d old E.plan_passes E.data_passes E.enough
