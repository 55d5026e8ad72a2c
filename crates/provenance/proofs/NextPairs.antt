-- The pair after a member's, as it is found from the words of its piece. Assumes nothing.
use Prim.Native.Nat.{ℕ, ◌*◌, ◌/◌, ◌≤◌, ◌<◌}
use mathlib.Core.Path.{◌≡◌, refl, sym, ap, ap₂, ◌∙◌}
use mathlib.Core.Bool.{false}
use mathlib.Core.Logic.{inl, inr}
use mathlib.Core.List.{List}
use native.Mathlib.Omega.{arith}
use lib.ListN.{length}
use Rattle.std.specs.Prelude.{Option, Some, None, IsSome}
use Rattle.model.specs.Tests.{Is, ◌and◌, ◌=?◌}
use Rattle.model.specs.Bytes.{Bytes, u16}
use Rattle.model.specs.Layout.{Plan, node_count, map_count, source, target, node_a, node_b}
use Rattle.model.specs.Nodes.{node_kind_at, node_region}
use Rattle.model.specs.DataSets.{DataSet, size, entry, maps_to}
use Rattle.model.specs.Membership.{member}
use Rattle.model.specs.Words.{holds}
use Rattle.model.specs.Provenance.{pair_of, least_source, least_target, next_by, next_pair}
use Rattle.model.specs.AcceptedPlans.{Facts}
use Rattle.model.specs.declared.NodeKind.{NodeKind}
use Rattle.model.specs.declared.NodeKind.TheVariants.{Union, Intersection, Difference, Image, Preimage}
use Rattle.model.specs.declared.Pair.{Pair}
use Rattle.model.proofs.Tests.{both, pair, split, fails, same, same!, same_truth, pick_true, pick-false, first_is, first_most}
use Rattle.model.proofs.Partitions.{of_image, of_preimage}
use Rattle.model.proofs.DataAgrees.{points_to}
use Rattle.model.proofs.Fitting.{Fit, fit}
use Rattle.model.proofs.NodeSets.{UnionNode, ImageNode, PreimageNode, union_node, image_node_lem, preimage_node, region_small, node_within}
use Rattle.primitives.proofs.Searching.{first_same}
use Rattle.subregions.proofs.NodeOperators.{byte_is}
use Rattle.provenance.specs.declared.piece.Piece.{Piece}
use Rattle.provenance.specs.Sources.{leads_to, FirstOf, SourcesRoom}
use Rattle.dataset.specs.Entries.{EntriesOf}
use Rattle.provenance.specs.Members.{MemberOf, SetOf, plan_of_piece, data_of_piece, pair_after}

module _ {piece : Piece} {x : Pair} (m : MemberOf piece x) where
  abbrev P : Plan
  P = plan_of_piece piece

  abbrev D : DataSet
  D = data_of_piece piece

  -- the piece
  abbrev i : ℕ
  i = piece.question.piece

  F : Facts P
  F = piece.inputs.now.reading.facts

  fitted : Fit P D
  fitted = fit P piece.inputs.now.«data».now piece.inputs.now.fits

  pub listed : x.node < node_count P
  listed = omega (arith, m.node_near, piece.held.node_listed)

  pub few_nodes : x.node < 48
  few_nodes = omega (arith, listed, piece.inputs.now.reading.sections.limits.few_nodes)

  pub element_inside : x.element < size D (node_region P x.node)
  element_inside = (node_within P D F fitted x.node listed i x.element m.member_is).1

  pub few_elements : x.element < 512
  few_elements = omega (arith, element_inside, region_small P D F fitted x.node listed)

  next_is : {kind : NodeKind} → kind ≡ node_kind_at P x.node → next_by P D i kind x.node x.element ≡ pair_after piece x
  unfolding next_pair
  next_is k = rw (← k)

  -- a chain stays where it ends
  pub ended_next : {kind : NodeKind} → kind ≡ node_kind_at P x.node → next_by P D i kind x.node x.element ≡ x → x ≡ pair_after piece x
  ended_next k stays = sym stays ∙ next_is k

  -- an entry is an element, or not, as its map leads there
  leads : {map : ℕ} {entries : Bytes} → EntriesOf P D map entries → (s : ℕ) → s < size D (source P map) → {e : ℕ} → e < 512 → (u16 entries (2 * s) =? e) ≡ maps_to P D map s e
  leads of_map s ls le =
      same_truth
      (λ h. (points_to P D _ _ _).1 (record { from = ls; entry_is = sym (of_map.entry_at s ls) ∙ same h; some = λ z. omega arith }))
      (λ h. same! (of_map.entry_at s ls ∙ ((points_to P D _ _ _).0 h).entry_is))

  module _ {a b : ℕ} (operands : (a ≡ node_a P x.node) × (b ≡ node_b P x.node)) where
    -- a union
    module _ (k : Union ≡ node_kind_at P x.node) where
      union_of : UnionNode P D x.node
      union_of = union_node P D F x.node listed (byte_is P D F x.node listed (sym k))

      pub left_near : a ≤ piece.question.node
      left_near = omega (arith, operands.0, union_of.left_earlier, m.node_near)

      pub union_first : Is (member P D a i x.element) → pair_of a x.element ≡ pair_after piece x
      unfolding next_by
      union_first h = rw (operands.0, ← pick_true _ (node_a P x.node) (node_b P x.node) (rw operands.0 at h)) (next_is k)

      pub union_second : member P D a i x.element ≡ false → pair_of b x.element ≡ pair_after piece x
      unfolding next_by
      union_second h = rw (operands.1, ← pick-false _ (node_a P x.node) (node_b P x.node) (rw operands.0 at h)) (next_is k)

    -- an intersection, a difference
    pub intersection_next : Intersection ≡ node_kind_at P x.node → pair_of a x.element ≡ pair_after piece x
    unfolding next_by
    intersection_next k = rw operands.0 (next_is k)

    pub difference_next : Difference ≡ node_kind_at P x.node → pair_of a x.element ≡ pair_after piece x
    unfolding next_by
    difference_next k = rw operands.0 (next_is k)

    -- an image, of its operand's set under its map's entries
    module _ (k : Image ≡ node_kind_at P x.node) where
      image_of : ImageNode P D x.node
      image_of = image_node_lem P D F x.node listed (byte_is P D F x.node listed (sym k))

      pub image_near : (a ≤ piece.question.node) × (b < map_count P)
      image_near = (omega (arith, operands.0, image_of.earlier, m.node_near), omega (arith, operands.1, image_of.map_listed))

      module _ {set : List ℕ} {entries : Bytes} (of_set : SetOf piece a set) (of_map : EntriesOf P D b entries) where
        half : length entries / 2 ≡ size D (source P b)
        half = let long = of_map.long in omega arith

        count_is : length entries / 2 ≡ size D (source P (node_b P x.node))
        count_is = half ∙ ap (λ (j : ℕ). size D (source P j)) operands.1

        few_sources : size D (source P b) ≤ 512
        few_sources = rw operands.1 (fitted.few_elements _ (F.source_listed (node_b P x.node) image_of.map_listed))

        pub sources_room : SourcesRoom set entries
        sources_room =
            let few = few_sources in
            let long = of_map.long in
            let eight = of_set.eight in
            record { eight = omega arith; few = omega arith; none_past = λ s far ls. of_set.held s ls ∙ outside s far }
          where
            outside : (s : ℕ) → length entries / 2 ≤ s → member P D a i s ≡ false
            outside s far =
                elim (split (member P D a i s)) [
                  | inl h ↦
                      let inside = (node_within P D F fitted (node_a P x.node) image_of.listed i s (rw operands.0 at h)).1 in
                      absurd (omega (arith, count_is, ap (size D) image_of.operand_region_lem))
                  | inr other ↦ fails other
                ]

        -- whether the element comes from another, as it is read and as it is
        leads_is : (s : ℕ) → s < size D (source P b) → leads_to set entries x.element s
            ≡ (member P D (node_a P x.node) i s and maps_to P D (node_b P x.node) s x.element)
        unfolding leads_to
        leads_is s lt =
            let few = few_sources in
            ap₂ ◌and◌ (rw operands.0 at (of_set.held s (omega arith))) (rw operands.1 at (leads of_map s lt few_elements))

        pub source_there : (found : Option ℕ) → FirstOf (leads_to set entries x.element) (length entries / 2) found → IsSome found
        source_there (Some s) h = refl
        source_there None none =
            let (s, lt, holds, maps) = of_image _ _ _ (rw image_of.holds at m.member_is) in
            let inside : s < size D (source P b) = omega (arith, half, count_is) in
            absurd (omega (arith, half, first_most (leads_to set entries x.element) 0 (length entries / 2) s (omega arith) (omega (arith, half)) (leads_is s inside ∙ pair holds maps)))

        pub image_next : {least : ℕ} → FirstOf (leads_to set entries x.element) (length entries / 2) (Some least) → pair_of a least ≡ pair_after piece x
        unfolding next_by least_source
        image_next (lt, found) =
            rw (operands.0, found)
            (ap (pair_of (node_a P x.node)) (rw (← count_is) (first_same _ _ 0 (length entries / 2) (λ s low high. leads_is s (omega (arith, half))))) ∙ next_is k)

    -- a preimage, by its map's entries
    module _ (k : Preimage ≡ node_kind_at P x.node) where
      preimage_of : PreimageNode P D x.node
      preimage_of = preimage_node P D F x.node listed (byte_is P D F x.node listed (sym k))

      pub preimage_near : b < map_count P
      preimage_near = omega (arith, operands.1, preimage_of.map_listed)

      pub preimage_next : {entries : Bytes} → EntriesOf P D b entries → pair_of a (u16 entries (2 * x.element)) ≡ pair_after piece x
      unfolding next_by least_target
      preimage_next {entries} of_map =
          let (t, lt, maps, holds) = of_preimage _ _ _ (rw preimage_of.holds at m.member_is) in
          let inside : x.element < size D (source P (node_b P x.node)) = rw preimage_of.region at element_inside in
          let there : entry P D (node_b P x.node) x.element ≡ t = ((points_to P D _ _ _).0 maps).entry_is in
          let is : u16 entries (2 * x.element) ≡ t = (rw operands.1 at of_map).entry_at x.element inside ∙ there in
          let least = first_is (λ t. maps_to P D (node_b P x.node) x.element t and member P D (node_a P x.node) i t) (size D (target P (node_b P x.node))) t (omega arith)
          (λ l. pair maps holds) (λ g lg h. let other = ((points_to P D _ _ _).0 (both h).0).entry_is in omega arith) in
          rw (operands.0, is) (ap (pair_of (node_a P x.node)) least ∙ next_is k)

-- what the proof of `next_pair` cites
pub ruleset next_pairs = (few_elements, left_near, union_first, union_second, intersection_next, difference_next, image_near, source_there, image_next, preimage_near, preimage_next, ended_next)
