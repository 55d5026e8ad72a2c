-- The walk along a chain, pair by pair, and the list that it makes. Assumes nothing.
use Prim.Native.Nat.{ℕ, ◌+◌, ◌≤◌, ◌<◌}
use mathlib.Core.Path.{◌≡◌, ◌∙◌}
use mathlib.Core.Bool.{false}
use mathlib.Core.List.{List, [], ◌∷◌, ◌++◌}
use native.Mathlib.Decide.{ℕ_discrete}
use native.Mathlib.Omega.{arith}
use lib.ListN.{length}
use Rattle.std.proofs.lemmas.List.{get_or_append_left, get_or_push, length_push}
use Rattle.model.specs.Tests.{Is}
use Rattle.model.specs.Layout.{Plan}
use Rattle.model.specs.Nodes.{node_kind_at}
use Rattle.model.specs.DataSets.{DataSet}
use Rattle.model.specs.Membership.{member}
use Rattle.model.specs.declared.NodeKind.{NodeKind}
use Rattle.model.proofs.Tests.{failing}
use Rattle.model.specs.Provenance.{ends_by, chain_pair}
use Rattle.model.specs.declared.Question.{Question}
use Rattle.model.specs.declared.Pair.{Pair}
use Rattle.model.proofs.Fitting.{fit}
use Rattle.model.proofs.Provenance.{Walking, walking_start, walking_holds, walking_next, walking_end}
use Rattle.provenance.specs.declared.piece.Piece.{Piece}
use Rattle.provenance.specs.declared.chain.Link.{Link}
use Rattle.provenance.specs.Members.{MemberOf, plan_of_piece, data_of_piece, pair_after, pair_asked}
use Rattle.provenance.specs.Chain.{ChainOf, link_in}

-- what holds of the pairs of a list, and of a new one behind them, holds of all of them
pushed : (Q : ℕ → Link → Type 0) (chain : List Link) (new : Link) → ((k : ℕ) → k < length chain → Q k (link_in chain k)) → Q (length chain) new
    → (k : ℕ) → k < length (chain ++ new ∷ []) → Q k (link_in (chain ++ new ∷ []) k)
pushed Q chain new before here k lt = go (ℕ_discrete k (length chain))
  where
    go : Dec (k ≡ length chain) → Q k (link_in (chain ++ new ∷ []) k)
    go (yes e) = rw (e, get_or_push chain new (record { node = 0; element = 0 }) (length chain)) here
    go (no other) =
        let earlier : k < length chain = omega (arith, length_push chain new) in
        rw (get_or_append_left chain (new ∷ []) (record { node = 0; element = 0 }) k) (before k earlier)

-- a pair as it is written
abbrev Written : Pair → Link → Type 0
Written x new = (new.node ≡ x.node) × (new.element ≡ x.element)

module _ (piece : Piece) where
  abbrev P : Plan
  P = plan_of_piece piece

  abbrev D : DataSet
  D = data_of_piece piece

  abbrev q : Question
  q = piece.question

  -- the chain's pair at this position
  abbrev At : ℕ → Link → Type 0
  At k = Written (chain_pair P D q k)

  module _ (asked : MemberOf piece (pair_asked piece)) where
    -- the walk has come to this pair, behind so many others
    abbrev Reached : ℕ → Pair → Type 0
    Reached k x = Walking P D piece.inputs.now.reading.facts (fit P _ piece.inputs.now.fits) q piece.held.node_listed asked.member_is k x.node x.element

    module _ {k : ℕ} {x : Pair} (reached : Reached k x) where
      holds : (x.node + k ≤ q.node) × Is (member P D x.node q.piece x.element)
      holds = walking_holds P D _ _ q _ _ reached

      -- it is a member
      member_here : MemberOf piece x
      member_here = let near = holds.0 in record { node_near = omega arith; member_is = holds.1 }

      few_before : k < 48
      few_before = omega (arith, holds.0, piece.held.node_listed, piece.inputs.now.reading.sections.limits.few_nodes)

      at_here : {new : Link} → Written x new → At k new
      at_here is = (is.0 ∙ reached.node_is, is.1 ∙ reached.element_is)

  -- and this list has all up to it
  pub record Walk (chain : List Link) (x : Pair) : Type 0 where
    pub asked : MemberOf piece (pair_asked piece)
    pub last : ℕ
    pub length_is : length chain ≡ last + 1
    pub reached : Reached asked last x
    pub at : (k : ℕ) → k < length chain → At k (link_in chain k)

  walk_to : (asked : MemberOf piece (pair_asked piece)) (chain : List Link) (x : Pair) {new : Link} → Reached asked (length chain) x → Written x new
      → ((k : ℕ) → k < length chain → At k (link_in chain k)) → Walk (chain ++ new ∷ []) x
  walk_to asked chain x {new} reached is before =
      record {
        asked = asked;
        last = length chain;
        length_is = length_push chain new;
        reached = reached;
        at = pushed At chain new before (at_here asked reached is);
      }

  pub walk_start : (chain : List Link) (new : Link) → chain ≡ [] → MemberOf piece (pair_asked piece) → Written (pair_asked piece) new → Walk (chain ++ new ∷ []) (pair_asked piece)
  walk_start chain new none asked is = rw none (walk_to asked [] (pair_asked piece) (walking_start P D _ _ q _ _) is (λ k lt. absurd (omega arith)))

  module _ (chain : List Link) (x : Pair) (w : Walk chain x) where
    pub walk_member : MemberOf piece x
    walk_member = member_here w.asked w.reached

    onward : {kind : NodeKind} → kind ≡ node_kind_at P x.node → ends_by kind ≡ false → {next : Pair} → next ≡ pair_after piece x → Reached w.asked (length chain) next
    onward read more is = rw w.length_is (walking_next P D _ _ q _ _ w.reached (failing (rw read at more)) is)

    -- the next pair is a member, and the list has room for it
    pub walk_onward : {kind : NodeKind} → kind ≡ node_kind_at P x.node → ends_by kind ≡ false → {next : Pair} → next ≡ pair_after piece x → MemberOf piece next × (length chain < 48)
    walk_onward read more is = let on = onward read more is in (member_here w.asked on, few_before w.asked on)

    pub walk_next : {kind : NodeKind} → kind ≡ node_kind_at P x.node → ends_by kind ≡ false → {next : Pair} {new : Link} → next ≡ pair_after piece x → Written next new → Walk (chain ++ new ∷ []) next
    walk_next read more {next} is written = walk_to w.asked chain next (onward read more is) written w.at

    pub walk_end : {kind : NodeKind} → kind ≡ node_kind_at P x.node → Is (ends_by kind) → ChainOf P D q chain
    walk_end read over =
        record {
          length_is = w.length_is ∙ walking_end P D _ _ q _ _ w.reached (rw read at over);
          node_at = λ k lt. (w.at k lt).0;
          element_at = λ k lt. (w.at k lt).1;
        }

-- what the proof of `trace` cites
pub ruleset walks = (walk_start, walk_next)
