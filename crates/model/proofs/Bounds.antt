-- In an iteration that piece i of its loop holds, a variable's element is in piece i of the variable's bound: each statement that
-- defines a variable works on an earlier one of its loop, and the bound follows it. Assumes nothing.
use Prim.Native.Nat.{ℕ, ◌<◌}
use mathlib.Core.Path.{◌≡◌, ap, ◌∙◌}
use mathlib.Core.Logic.{inl, inr}
use native.Mathlib.Omega.{arith}
use Rattle.model.specs.Tests.{Is}
use Rattle.model.specs.Layout.{Plan, node_count, statement_count, statement_kind, statement_a, statement_b, node_a, node_b}
use Rattle.model.specs.Statements.{kind_of, loop_before, loop}
use Rattle.model.specs.LoopRelations.{Resolves}
use Rattle.model.specs.Needs.{symbol_node, image_node, bound_by, bound}
use Rattle.model.specs.DataSets.{DataSet}
use Rattle.model.specs.PlainData.{PointsTo}
use Rattle.model.specs.Membership.{member}
use Rattle.model.specs.Touches.{Value, itself, loaded, called, copied}
use Rattle.model.specs.AcceptedPlans.{Facts}
use Rattle.model.proofs.Tests.{pick_true}
use Rattle.model.proofs.Partitions.{in_image}
use Rattle.model.proofs.StatementKinds.{FollowsMap, opens_is}
use Rattle.model.proofs.LoopsAgree.{resolves_loop}
use Rattle.model.proofs.VariablesAgree.{kind_at, operand_a, operand_b, operand_resolved}
use Rattle.model.proofs.SymbolsAgree.{image_found, bound_at, bound_copied, bound_led}
use Rattle.model.proofs.DataAgrees.{points_to}
use Rattle.model.proofs.NodeSets.{image_node_lem}

-- in iteration k, held by piece i, piece i of the bound of the variable that statement s defines has element e
abbrev pub Bounded : Plan → DataSet → ℕ → ℕ → ℕ → ℕ → Type 0
Bounded P D i s k e =
    s < statement_count P → Is (member P D (symbol_node P (loop P s)) i k) → bound P s < node_count P → Is (member P D (bound P s) i e)

module _ (P : Plan) (D : DataSet) (F : Facts P) (i : ℕ) where
  -- FOR
  by_loop : (s k : ℕ) → statement_kind P s ≡ 0 → Bounded P D i s k k
  unfolding bound_by kind_of loop_before
  by_loop s k e lt held listed = rw (bound_at P s (kind_at P s 0 e)) (rw (pick_true _ _ _ ((opens_is P s).1 e)) at held)

  -- COPY
  by_copy :
      (s c k e : ℕ) → statement_kind P s ≡ 3 → Resolves P s (statement_a P s) c → Bounded P D i c k e → Bounded P D i s k e
  by_copy s c k e is w earlier lt held listed =
      let from = (operand_resolved P (operand_a P s (omega arith) (omega arith)) w).1 in
      let same_bound : bound P s ≡ bound P c = bound_copied P s is (omega (arith, w.earlier)) ∙ ap (bound P) from in
      rw same_bound (earlier (omega (arith, w.earlier)) (rw (resolves_loop P w) held) (rw same_bound at listed))

  -- LOAD and CALL
  by_map :
      (s c k d e : ℕ) → FollowsMap P s → Resolves P s (statement_b P s) c → PointsTo P D (statement_a P s) d e →
      Bounded P D i c k d → Bounded P D i s k e
  by_map s c k d e is w leads earlier lt held listed =
      let from = (operand_resolved P (operand_b P s is) w).1 in
      let found : bound P s ≡ image_node P (bound P c) (statement_a P s) = rw from at (bound_led P s is (omega (arith, w.earlier))) in
      let (image-kind, of-operand, under-map) = image_found P (bound P c) (statement_a P s) (rw found at listed) in
      let n = image_node_lem P D F (bound P s) listed (rw found image-kind) in
      let left : node_a P (bound P s) ≡ bound P c = rw found of-operand in
      let map : node_b P (bound P s) ≡ statement_a P s = rw found under-map in
      rw (n.holds, left, map)
      (in_image _ _ _ leads.from (earlier (omega (arith, w.earlier)) (rw (resolves_loop P w) held) (rw left at n.listed))
      ((points_to P D (statement_a P s) d e).1 leads))

  pub bounded : {s k e : ℕ} → Value P D s k e → Bounded P D i s k e
  bounded (itself {s = s} {k = k} is) = by_loop s k (omega arith)
  bounded (loaded {s = s} {c = c} {k = k} {d = d} {e = e} is w v leads) = by_map s c k d e (inl (omega arith)) w leads (bounded v)
  bounded (called {s = s} {c = c} {k = k} {d = d} {e = e} is w v leads) = by_map s c k d e (inr (omega arith)) w leads (bounded v)
  bounded (copied {s = s} {c = c} {k = k} {e = e} is w v) = by_copy s c k e (omega arith) w (bounded v)
