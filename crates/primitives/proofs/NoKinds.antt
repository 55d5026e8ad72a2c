-- A number above every byte stands for no kind. Assumes nothing.
use Prim.Native.Nat.{ℕ, ◌≤◌}
use mathlib.Core.Path.{◌≡◌}
use native.Mathlib.Omega.{arith}
use lib.ListN.{get_or-eq_default}
use mathlib.Core.List.{[], ◌∷◌}
use Rattle.model.specs.Statements.{kind_of}
use Rattle.model.specs.Nodes.{node_kind_of}
use Rattle.model.specs.declared.NodeKind.TheVariants as node
use Rattle.model.specs.declared.StatementKind.TheVariants as statement

pub no_node_kind : (n : ℕ) → 256 ≤ n → node_kind_of n ≡ node.Unknown
unfolding node_kind_of
no_node_kind n h = get_or-eq_default (node.Supplied ∷ node.Equal ∷ node.Union ∷ node.Intersection ∷ node.Difference ∷ node.Image ∷ node.Preimage ∷ []) node.Unknown {n = n} (omega arith)

pub no_statement_kind : (n : ℕ) → 256 ≤ n → kind_of n ≡ statement.Unknown
unfolding kind_of
no_statement_kind n h = get_or-eq_default (statement.For ∷ statement.Load ∷ statement.Call ∷ statement.Copy ∷ statement.Read ∷ statement.Write ∷ statement.Reduce ∷ []) statement.Unknown {n = n} (omega arith)
