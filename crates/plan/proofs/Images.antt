-- The image of a node, looked for among the nodes' keys. Assumes nothing.
use Prim.Native.Nat.{ℕ, ◌≤◌, ◌<◌}
use mathlib.Core.Path.{◌≡◌, refl, ◌∙◌}
use mathlib.Core.Bool.{Bool, true, false}
use mathlib.Core.List.{List}
use native.Mathlib.Omega.{arith}
use lib.ListN.{get_or, length, take, length-take}
use borrow.Author.Tests.{ltb-false}
use Rattle.std.proofs.Common.{position, cond, nat_lt, eqb, Some, None}
use Rattle.std.specs.List.{position_or_len}
use Rattle.std.specs.Option.{unwrap_or}
use Rattle.std.proofs.lemmas.List.{get_or-take}
use Rattle.std.proofs.lemmas.List.Sums.{position_or_len_is}
use Rattle.model.specs.Tests.{first, ◌and◌, ◌=?◌}
use Rattle.model.specs.Layout.{Plan, node_count, node_kind, node_a, node_b}
use Rattle.model.specs.Nodes.{IMAGE}
use Rattle.model.specs.Needs.{image_node}
use Rattle.model.proofs.Tests.{first_bound, first_found, first_most}
use Rattle.expressions.specs.Nodes.{node_key, NodeKeys}

-- the first of n entries that passes a test is the first of their numbers that does
first_position : (p f : ℕ → Bool) (n : ℕ) (xs : List ℕ) → n ≤ length xs → ((k : ℕ) → k < n → p (get_or xs k 0) ≡ f k)
    → unwrap_or (position p (take n xs)) n ≡ first f 0 n
first_position p f n xs room agrees = rw (long, here) (choose (nat_lt (first f 0 n) n) refl)
  where
    bound : first f 0 n ≤ n
    bound = let most = first_bound f 0 n in omega arith

    long : length (take n xs) ≡ n
    long = simp length-take (omega arith)

    entry : (k : ℕ) → k < n → p (get_or (take n xs) k 0) ≡ f k
    entry k lt = rw (get_or-take n xs k 0 lt) (agrees k lt)

    before : (k : ℕ) → k < first f 0 n → f k ≡ false
    before k lt = go (f k) refl
      where
        go : (b : Bool) → f k ≡ b → f k ≡ false
        go true e = let most = first_most f 0 n k (omega arith) (omega (arith, bound)) e in absurd (omega arith)
        go false e = e

    here : position_or_len p (take n xs) ≡ first f 0 n
    here =
        position_or_len_is p (take n xs) (first f 0 n) 0 (omega (arith, long, bound))
        (λ k lt. entry k (omega (arith, bound)) ∙ before k lt)
        (λ lt. let inside : first f 0 n < n = omega (arith, long) in entry (first f 0 n) inside ∙ first_found f 0 n (omega arith))

    choose : (b : Bool) → nat_lt (first f 0 n) n ≡ b → unwrap_or (cond b (Some (first f 0 n)) None) n ≡ first f 0 n
    choose true e = refl
    choose false e = let past = ltb-false (first f 0 n) n e in omega (arith, bound)

-- the image is at the first key that is its own
pub image_at : (P : Plan) (keys : List ℕ) (node map : ℕ) → NodeKeys P keys → node < 256 → map < 256 → node_count P ≤ length keys
    → unwrap_or (position (λ key. eqb key (node_key IMAGE node map)) (take (node_count P) keys)) (node_count P) ≡ image_node P node map
unfolding image_node ◌=?◌
image_at P keys node map known small-node small-map room =
    first_position _ _ (node_count P) keys room (λ j lt. known j lt IMAGE node map (omega arith) small-node small-map)

pub image_most : (P : Plan) (node map : ℕ) → image_node P node map ≤ node_count P
unfolding image_node
image_most P node map =
    let f = λ (j : ℕ). node_kind P j =? IMAGE and node_a P j =? node and node_b P j =? map in
    let most = first_bound f 0 (node_count P) in omega arith
