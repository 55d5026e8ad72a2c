-- A COPY is centered exactly where what it copies is, and what follows a map is not. Assumes nothing.
use Prim.Native.Nat.{ℕ}
use mathlib.Core.Path.{◌≡◌, subst}
use mathlib.Core.Logic.{inl, inr}
use native.Mathlib.Omega.{arith}
use Rattle.model.specs.Layout.{Plan, statement_kind, statement_a}
use Rattle.model.specs.LoopRelations.{Resolves, Centered, loop_centered, copy_centered}
use Rattle.model.proofs.LoopsAgree.{one_definition}
use Rattle.model.proofs.StatementKinds.{FollowsMap}

module _ (P : Plan) where
  -- what follows a map is not centered
  pub map_uncentered : {d : ℕ} → FollowsMap P d → Centered P d → ⊥
  map_uncentered (inl h) (loop_centered e) = omega arith
  map_uncentered (inr h) (loop_centered e) = omega arith
  map_uncentered (inl h) (copy_centered e w c) = omega arith
  map_uncentered (inr h) (copy_centered e w c) = omega arith

  -- a COPY is centered where what it copies is
  pub copy_is_centered : {d c : ℕ} → statement_kind P d ≡ 3 → Resolves P d (statement_a P d) c → Centered P c → Centered P d
  copy_is_centered h w c = copy_centered h w c

  -- a COPY is centered only where what it copies is
  pub copied_centered : {d c : ℕ} → statement_kind P d ≡ 3 → Resolves P d (statement_a P d) c → Centered P d → Centered P c
  copied_centered h w (loop_centered e) = absurd (omega arith)
  copied_centered h w (copy_centered e u c) = subst (Centered P) (one_definition P u w) c
