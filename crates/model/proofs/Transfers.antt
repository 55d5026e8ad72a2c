-- The count of a transfer is the number of elements that are fetched, in the plain reading and in the words of an evaluation. Of an accepted
-- plan and a data set that fits it. Assumes nothing.
use Prim.Native.Nat.{ℕ, ◌+◌, ◌*◌, ◌≤◌, ◌<◌}
use mathlib.Core.Path.{◌≡◌, refl, ap, ap₂, ◌∙◌}
use mathlib.Core.Logic.{◌⊎◌, inl, inr, ◌↔◌}
use mathlib.Core.Bool.{Bool}
use mathlib.Core.List.{List}
use native.Mathlib.Nat.{mul-le-mul}
use native.Mathlib.Decide.{dec_lt}
use native.Mathlib.Omega.{arith}
use Rattle.model.specs.Tests.{Is, ◌and◌, non}
use Rattle.model.specs.Layout.{Plan, node_count}
use Rattle.model.specs.Nodes.{node_region}
use Rattle.model.specs.DataSets.{DataSet, pieces, size}
use Rattle.model.specs.Membership.{member}
use Rattle.model.specs.Words.{holds}
use Rattle.model.specs.Counting.{count, sum, ones_lacking}
use Rattle.model.specs.AcceptedPlans.{Facts}
use Rattle.model.specs.PlainSets.{DefinedSets}
use Rattle.model.specs.declared.Transfer.{Transfer}
use Rattle.model.specs.Transfers.{fetched, transfer_count, transfer_ones}
use Rattle.model.specs.Fetches.{BothExist, Fetched, Numbered}
use Rattle.model.proofs.Tests.{both, pair, lacks, refuted, split, fails}
use Rattle.model.proofs.Fitting.{Fit}
use Rattle.model.proofs.NodeSets.{region_small, node_within}
use Rattle.model.proofs.SetsAgree.{sets_agree}
use Rattle.model.proofs.Successors.{pair_exists, exists_inside}
use Rattle.model.proofs.Counting.{count_same, count_most, count_cut, sum_same, sum_most, ones_lacking_lem, numbered_same, numbered_sum}

module _ (P : Plan) (D : DataSet) (F : Facts P) (fit : Fit P D) (t : Transfer) (nodes : BothExist P t) where
  abbrev n : ℕ
  n = size D (node_region P t.accessed)

  small : n ≤ 512
  small = region_small P D F fit t.accessed nodes.accessed_exists

  within : (i e : ℕ) → Is (member P D t.accessed i e) → e < n
  within i e h = (node_within P D F fit t.accessed nodes.accessed_exists i e h).1

  -- words that hold the members of both nodes
  module _ (words : List ℕ) (N : ℕ) (counted : N ≡ pieces D)
      (held : (j i e : ℕ) → (j ≡ t.accessed) ⊎ (j ≡ t.owned) → i < N → e < 512 → holds words ((j * N + i) * 8) e ≡ member P D j i e) where
    piece_ones : (i : ℕ) → i < N → ones_lacking words ((t.accessed * N + i) * 8) ((t.owned * N + i) * 8) ≡ count n (fetched P D t i)
    unfolding fetched
    piece_ones i l =
        ones_lacking_lem words _ _
        ∙ count_same 512 _ (fetched P D t i) (λ e k. ap₂ (λ (s t : Bool). s and non t) (held _ i e (inl refl) l k) (held _ i e (inr refl) l k))
        ∙ count_cut n 512 (fetched P D t i) small (λ e le k. fails (refuted (λ h. let w = within i e (both h).0 in omega arith)))

    pub ones_are_fetched : transfer_ones words N t.accessed t.owned ≡ transfer_count P D t
    unfolding transfer_ones transfer_count
    ones_are_fetched = sum_same N _ _ piece_ones ∙ ap (λ (m : ℕ). sum m (λ i. count n (fetched P D t i))) counted

  -- the count, in any reading of the sets
  pub fetched_numbered : (sets : ℕ → ℕ → ℕ → Bool) → DefinedSets P D sets → Numbered (Fetched P D (λ j i e. Is (sets j i e)) t) (transfer_count P D t)
  unfolding fetched transfer_count
  fetched_numbered sets defined = numbered_same same (numbered_sum (pieces D) n (fetched P D t))
    where
      agree : (j i e : ℕ) → j < node_count P → i < pieces D → e < 512 → Is (sets j i e) ↔ Is (member P D j i e)
      agree = (sets_agree P D F fit (λ j i e. Is (sets j i e))).0 defined

      same : (i e : ℕ) → ((i < pieces D) × (e < n) × Is (fetched P D t i e)) ↔ Fetched P D (λ j i e. Is (sets j i e)) t i e
      same i e = (
        λ w.
            let (li, le, h) = w in
            record {
              piece_exists = li;
              element_exists = pair_exists P D F fit i t.accessed e nodes.accessed_exists le;
              accessed = (agree _ i e nodes.accessed_exists li (omega (arith, small))).1 (both h).0;
              lacking = λ o. lacks (both h).1 ((agree _ i e nodes.owned_exists li (omega (arith, small))).0 o);
            },
        λ x.
            let le = exists_inside P D F fit i x.element_exists in
            let li = x.piece_exists in (
              li,
              le,
              pair ((agree _ i e nodes.accessed_exists li (omega (arith, small))).0 x.accessed)
                  (refuted (λ o. x.lacking ((agree _ i e nodes.owned_exists li (omega (arith, small))).1 o))),
            ),
      )

  -- nothing is fetched exactly when each accessed piece is contained in the owned one
  pub nothing_fetched :
      (sets : ℕ → ℕ → ℕ → Bool) → DefinedSets P D sets →
      (transfer_count P D t ≡ 0) ↔ ((i e : ℕ) → i < pieces D → e < 512 → Is (sets t.accessed i e) → Is (sets t.owned i e))
  nothing_fetched sets defined = (
    λ z i e li le a. elim (split (sets t.owned i e)) [
      | inl o ↦ o
      | inr absent ↦
          let inside = within i e ((agree _ i e nodes.accessed_exists li le).0 a) in
          let (k, below, p, q) = all.all_have i e
          (record {
            piece_exists = li;
            element_exists = pair_exists P D F fit i t.accessed e nodes.accessed_exists inside;
            accessed = a;
            lacking = lacks absent;
          }) in
          absurd (omega arith)
    ],
    λ contained. elim (dec_lt 0 (transfer_count P D t)) [
      | yes some ↦
          let x = all.each_is 0 some in
          absurd (x.lacking (contained _ _ x.piece_exists (let le = exists_inside P D F fit 0 x.element_exists in omega (arith, small)) x.accessed))
      | no none ↦ omega arith
    ],
  )
    where
      agree : (j i e : ℕ) → j < node_count P → i < pieces D → e < 512 → Is (sets j i e) ↔ Is (member P D j i e)
      agree = (sets_agree P D F fit (λ j i e. Is (sets j i e))).0 defined

      all : Numbered (Fetched P D (λ j i e. Is (sets j i e)) t) (transfer_count P D t)
      all = fetched_numbered sets defined

  -- at most every element in every piece
  pub fetched_most : transfer_count P D t ≤ pieces D * n
  unfolding transfer_count
  fetched_most = sum_most (pieces D) n _ (λ i l. count_most n (fetched P D t i))

  pub fetched_few : transfer_count P D t ≤ 8192
  fetched_few = omega (arith, fetched_most, mul-le-mul {n₂ = 16} {m₂ = 512} fit.few_pieces small)
