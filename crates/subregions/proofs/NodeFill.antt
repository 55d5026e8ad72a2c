-- A node filled from its operands' words: by kind, the pieces that are made are the node's sets of what the words hold, and there is
-- room for them. Assumes nothing.
use Prim.Native.Nat.{ℕ, ◌+◌, ◌-◌, ◌*◌, ◌/◌, ◌%◌, ◌≤◌, ◌<◌}
use mathlib.Core.Path.{◌≡◌, sym, ap, ap₂, ◌∙◌}
use mathlib.Core.Bool.{Bool}
use mathlib.Core.List.{List, ◌++◌}
use native.Mathlib.Nat.{mul-le-mul_right, suc-mul}
use native.Mathlib.Numerals.{add-one}
use native.Mathlib.Omega.{arith}
use lib.ListN.{length, get_or, take, drop}
use Rattle.std.proofs.lemmas.List.{length-drop, length-take-le}
use Rattle.model.specs.Tests.{◌and◌, ◌<?◌}
use Rattle.std.specs.Int.{w64}
use Rattle.std.proofs.Common.{Fits}
use Rattle.model.specs.Bytes.{Bytes}
use Rattle.model.specs.Partitions.{Partition, contiguous}
use Rattle.model.specs.Layout.{Plan, map_count, node_count, source, target, supplied_region, node_a, node_b}
use Rattle.model.specs.Nodes.{node_kind_at, node_region}
use Rattle.model.specs.DataSets.{DataSet, data_of, pieces, size, entry_start, piece_bytes, member_start, supplied_bit, supplied}
use Rattle.model.specs.Membership.{equal, node_sets_by, node_sets}
use Rattle.model.specs.Words.{bit, holds, store}
use Rattle.model.proofs.Tests.{both, pair, less, less!, same, same_truth}
use Rattle.model.proofs.Words.{word_same, store_same}
use Rattle.model.specs.AcceptedPlans.{Facts}
use Rattle.model.proofs.Fitting.{Fit, fit, entries_there}
use Rattle.model.proofs.NodeSets.{SuppliedNode, ImageNode, PreimageNode, supplied_node, equal_node, image_node_lem, preimage_node, region_small}
use Rattle.model.specs.declared.NodeKind.TheVariants.{Supplied, Equal, Image, Preimage}
use Rattle.bitsets.specs.Elements.{between, combined, supplied_elements}
use Rattle.subregions.specs.declared.Span.{Span}
use Rattle.subregions.specs.declared.sources.Sources.{Sources}
use Rattle.subregions.specs.Pieces.{piece_words, pieces_from, supplied_pieces, equal_pieces, combined_pieces, image_pieces, preimage_pieces, SuppliedRoom, EqualRoom, CombinedRoom, ImageRoom, PreimageRoom}
use Rattle.subregions.specs.Fill.{sets_of_words, node_filled, NodeSources, NodeReady}
use Rattle.subregions.proofs.Maps.{supplied_from, entries_from, leading_from}
use Rattle.subregions.proofs.NodePieces.{stored_behind, holds_before, holds_from, product}
use Rattle.subregions.proofs.NodeOperators.{image_is, preimage_is, share_combination, sets_are, Combines, byte_is}

-- node j's operands as they are read
pub record OperandsRead (P : Plan) (j a b : ℕ) : Type 0 where
  pub a_is : a ≡ node_a P j
  pub b_is : b ≡ node_b P j

module _ {P : Plan} {d : Bytes} {read : Sources} {sizes : List ℕ} {span : Span} {lent j : ℕ}
    (H : NodeSources P d read sizes span lent j) where
  fitted : Fit P (data_of d)
  fitted = fit P d H.fits

  pub node_listed : j < node_count P
  node_listed = omega (arith, H.node_spanned, H.span_fits.nodes_listed)

  pub few_nodes : j < 48
  few_nodes = omega (arith, node_listed, H.limits.few_nodes)

  -- the span's pieces are among the data set's, of which there are few
  span_listed : span.first + span.count ≤ pieces (data_of d)
  span_listed = rw (← H.span_fits.pieces_are) H.span_fits.pieces_listed

  few_before : span.first + span.count ≤ 16
  few_before = omega (arith, span_listed, fitted.few_pieces)

  pub few_pieces : span.count ≤ 16
  few_pieces = omega (arith, few_before)

-- where an operand's words begin is near: the piece, and its first word
module _ {read : Sources} {sizes : List ℕ} {span : Span} {lent j : ℕ} (ready : NodeReady read sizes span lent j) {k : ℕ} (byte : k < 256) where
  pub piece_near : Fits w64 (k * span.count)
  piece_near = omega (arith, product k span.count 256 16 (omega arith) (few_pieces ready.sources))

  pub word_near : Fits w64 (k * span.count * 8)
  word_near = omega (arith, product k span.count 256 16 (omega arith) (few_pieces ready.sources))

-- what a node is filled from: its sources, the words cut where its own begin, its operands and its region's size, as they are read
pub record Filled (P : Plan) (d : Bytes) (read : Sources) (sizes : List ℕ) (span : Span) (j : ℕ) (words earlier own : List ℕ) (a b n : ℕ) : Type 0 where
  pub node : NodeSources P d read sizes span (length words) j
  pub front : earlier ≡ take (j * span.count * 8) words
  pub back : own ≡ drop (j * span.count * 8) words
  pub operands : OperandsRead P j a b
  pub size_read : n ≡ get_or sizes j 0

module _ {P : Plan} {d : Bytes} {read : Sources} {sizes : List ℕ} {span : Span} {j : ℕ} {words earlier own : List ℕ} {a b n : ℕ}
    (G : Filled P d read sizes span j words earlier own a b n) where
  abbrev D : DataSet
  D = data_of d

  -- so many pieces of a node
  abbrev N : ℕ
  N = span.count

  F : Facts P
  F = G.node.facts

  -- the node's words, and those of an earlier node before them
  own_room : j * N * 8 + N * 8 ≤ length words
  own_room = omega (arith, G.node.span_fits.enough, mul-le-mul_right N G.node.node_spanned, suc-mul j N)

  room : N * 8 ≤ length own
  room = omega (arith, own_room, ap length G.back, length-drop (j * N * 8) words)

  earlier_length : length earlier ≡ j * N * 8
  earlier_length = ap length G.front ∙ length-take-le (j * N * 8) words (omega (arith, own_room))

  earlier_room : (k : ℕ) → k < j → k * N * 8 + N * 8 ≤ j * N * 8
  earlier_room k h = omega (arith, mul-le-mul_right N h, suc-mul k N)

  operand_there : {k : ℕ} {operand : List ℕ} → k < j → operand ≡ drop (k * N * 8) earlier → N * 8 ≤ length operand
  operand_there {k} h q = omega (arith, ap length q, length-drop (k * N * 8) earlier, earlier_length, earlier_room k h)

  size_small : (k : ℕ) → k < node_count P → size D (node_region P k) ≤ 512
  size_small k h = region_small P D F (fitted G.node) k h

  -- what the words hold
  abbrev sets : ℕ → Partition
  sets = sets_of_words P D span words

  done : (S : Partition) {new : List ℕ} → new ≡ store own 0 (N * 8) (piece_words S)
      → ((i e : ℕ) → i < N → e < 512 → S i e ≡ node_sets P D j sets (span.first + i) e) → earlier ++ new ≡ node_filled P D span words j
  unfolding node_filled piece_words
  done S q same =
      stored_behind words (j * N * 8) G.front (N * 8) (piece_words S) own_room G.back q
      ∙ store_same words (j * N * 8) (N * 8) (piece_words S) (piece_words (pieces_from span.first (node_sets P D j sets)))
      (λ w l. word_same _ _ (w % 8) (λ b m. same (w / 8) (w % 8 * 64 + b) (omega arith) (omega arith)))

  size_is : n ≡ size D (node_region P j)
  size_is = G.size_read ∙ G.node.node_sizes_are j G.node.node_spanned

  own_size : n ≤ 512
  own_size = rw (size_is) (size_small j (node_listed G.node))

  -- supplied
  module _ (k : node_kind_at P j ≡ Supplied) {members : List ℕ} (from_start : members ≡ drop (get_or read.member_starts.now a 0) read.members.now) where
    supplied_is : SuppliedNode P D j
    supplied_is = supplied_node P D F j (node_listed G.node) (byte_is P D F j (node_listed G.node) k)

    members_are : members ≡ drop (member_start P D (node_a P j)) D.members
    members_are =
        from_start
        ∙ ap₂ (λ (x : ℕ) (list : List ℕ). drop x list)
        (ap (λ (x : ℕ). get_or read.member_starts.now x 0) G.operands.a_is ∙ G.node.members_begin (node_a P j) supplied_is.listed) G.node.members_are

    pub supplied_room : SuppliedRoom own n span
    supplied_room = record { few_pieces = few_before G.node; few_elements = own_size; room = room }

    pub supplied_done : {new : List ℕ} → new ≡ store own 0 (N * 8) (piece_words (pieces_from span.first (supplied_pieces members n)))
        → earlier ++ new ≡ node_filled P D span words j
    unfolding supplied_pieces supplied_elements supplied supplied_bit piece_bytes bit node_sets_by
    supplied_done q =
        let n-is = size_is ∙ ap (size D) supplied_is.region in
        done _ q (λ i e l h. rw (sets_are P D j sets k, members_are, n-is)
        (ap (λ (t : Bool). e <? size D (supplied_region P (node_a P j)) and t)
        (supplied_from D.members (member_start P D (node_a P j)) ((span.first + i) * ((size D (supplied_region P (node_a P j)) + 7) / 8)) e)
        ∙ same_truth (λ t. pair (less! (omega (arith, span_listed G.node))) t) (λ t. (both t).1)))

  -- equal
  pub equal_room : EqualRoom own n span
  equal_room =
      record {
        some_piece = rw G.node.span_fits.pieces_are (fitted G.node).some_piece;
        few_pieces = rw G.node.span_fits.pieces_are (fitted G.node).few_pieces;
        pieces_listed = G.node.span_fits.pieces_listed;
        few_elements = own_size;
        room = room;
      }

  pub equal_done : node_kind_at P j ≡ Equal → {new : List ℕ} → new ≡ store own 0 (N * 8) (piece_words (pieces_from span.first (equal_pieces n span.pieces)))
      → earlier ++ new ≡ node_filled P D span words j
  unfolding equal_pieces between equal contiguous node_sets_by
  equal_done k q =
      let n-is = size_is ∙ ap (size D) (equal_node P D F j (node_listed G.node) (byte_is P D F j (node_listed G.node) k)).region in
      done _ q (λ i e l h. rw (sets_are P D j sets k, G.node.span_fits.pieces_are, n-is, add-one (span.first + i))
      (same_truth (λ t. pair (less! (omega (arith, span_listed G.node))) t) (λ t. (both t).1)))

  -- what the words hold of an earlier node, read off the words from its first on
  words_of : (x o m i e : ℕ) {operand : List ℕ} → operand ≡ drop (x * N * 8) earlier → x ≡ o → o < j → m ≡ size D (node_region P o) → i < N
      → (e <? m and holds operand (i * 8) e) ≡ sets o (span.first + i) e
  unfolding sets_of_words
  words_of x o m i e {operand} cut p before q l =
      let small : m ≤ 512 = rw q (size_small o (omega (arith, node_listed G.node))) in
      let place : x * N * 8 + i * 8 ≡ (o * N + (span.first + i - span.first)) * 8 = rw p (omega arith) in
      let inside : x * N * 8 + i * 8 + 8 ≤ j * N * 8 = rw p (omega (arith, earlier_room o before)) in
      let held : e < m → holds operand (i * 8) e ≡ holds words ((o * N + (span.first + i - span.first)) * 8) e =
      λ h. holds_from earlier (x * N * 8) cut (i * 8) e ∙ holds_before words (j * N * 8) G.front (x * N * 8 + i * 8) e inside (omega arith) ∙ ap (λ (at : ℕ). holds words at e) place
      in
      same_truth
      (λ t. pair (both t).0 (sym (held (less (both t).0)) ∙ (both t).1))
      (λ t. pair (both t).0 (held (less (both t).0) ∙ (both t).1))
      ∙ ap (λ (v : ℕ). e <? v and holds words ((o * N + (span.first + i - span.first)) * 8) e) q

  -- union, intersection, difference
  module _ {combination : Bool → Bool → Bool} (node : Combines P D j combination) {left right : List ℕ}
      (at_left : left ≡ drop (a * N * 8) earlier) (at_right : right ≡ drop (b * N * 8) earlier) where
    pub combined_room : CombinedRoom own left right N
    combined_room =
        record {
          room = room;
          left_there = operand_there (rw G.operands.a_is node.left_earlier) at_left;
          right_there = operand_there (rw G.operands.b_is node.right_earlier) at_right;
        }

    pub combined_done : {new : List ℕ} → new ≡ store own 0 (N * 8) (piece_words (combined_pieces left right combination n))
        → earlier ++ new ≡ node_filled P D span words j
    unfolding combined_pieces combined
    combined_done q =
        done _ q (λ i e l h. share_combination combination node.neither (e <? n) _ _
        ∙ ap₂ combination
        (words_of a (node_a P j) n i e at_left G.operands.a_is node.left_earlier (size_is ∙ ap (size D) node.left_region) l)
        (words_of b (node_b P j) n i e at_right G.operands.b_is node.right_earlier (size_is ∙ ap (size D) node.right_region) l)
        ∙ sym (node.sets sets (span.first + i) e))

  -- a map's entries from where they begin, and the size of an operand's region
  module _ {entries : List ℕ} (from_start : entries ≡ drop (get_or read.entry_starts.now b 0) read.entries.now) where
    map_entries : node_b P j < map_count P → entries ≡ drop (entry_start P D (node_b P j)) D.entries
    map_entries listed =
        from_start
        ∙ ap₂ (λ (x : ℕ) (list : List ℕ). drop x list)
        (ap (λ (x : ℕ). get_or read.entry_starts.now x 0) G.operands.b_is ∙ G.node.entries_begin (node_b P j) listed) G.node.entries_are

    map_room : (listed : node_b P j < map_count P) → 2 * size D (source P (node_b P j)) ≤ length entries
    map_room listed =
        omega (arith, ap length (map_entries listed), length-drop (entry_start P D (node_b P j)) D.entries, entries_there P D (fitted G.node) (node_b P j) listed)

    operand_size : {m r : ℕ} → m ≡ get_or sizes a 0 → node_a P j < j → node_region P (node_a P j) ≡ r → m ≡ size D r
    operand_size read_size before region =
        read_size ∙ G.node.node_sizes_are a (omega (arith, G.operands.a_is, G.node.node_spanned)) ∙ ap (λ (x : ℕ). size D (node_region P x)) G.operands.a_is ∙ ap (size D) region

    module _ {operand : List ℕ} (at_operand : operand ≡ drop (a * N * 8) earlier) {m : ℕ} (sized : m ≡ get_or sizes a 0) where
      -- image
      module _ (k : node_kind_at P j ≡ Image) where
        image_of : ImageNode P D j
        image_of = image_node_lem P D F j (node_listed G.node) (byte_is P D F j (node_listed G.node) k)

        image_count : m ≡ size D (source P (node_b P j))
        image_count = operand_size sized image_of.earlier image_of.operand_region_lem

        pub image_room : ImageRoom own operand entries m N
        image_room =
            record {
              room = room;
              operand_there = operand_there (rw G.operands.a_is image_of.earlier) at_operand;
              few_elements = rw (image_count, ← image_of.operand_region_lem) (size_small (node_a P j) (omega (arith, image_of.earlier, node_listed G.node)));
              entries_there = rw image_count (map_room image_of.map_listed);
            }

        pub image_done : {new : List ℕ} → new ≡ store own 0 (N * 8) (piece_words (image_pieces operand entries m)) → earlier ++ new ≡ node_filled P D span words j
        unfolding image_pieces node_sets_by
        image_done q =
            done _ q (λ i e l h. rw (sets_are P D j sets k, image_count, map_entries image_of.map_listed)
            (entries_from _ D.entries _ _ e
            ∙ image_is P D (node_b P j) (sets (node_a P j)) (span.first + i) _
            (λ x. words_of a (node_a P j) _ i x at_operand G.operands.a_is image_of.earlier (ap (size D) (sym image_of.operand_region_lem)) l) e h))

      -- preimage
      module _ (k : node_kind_at P j ≡ Preimage) where
        preimage_of : PreimageNode P D j
        preimage_of = preimage_node P D F j (node_listed G.node) (byte_is P D F j (node_listed G.node) k)

        preimage_count : n ≡ size D (source P (node_b P j))
        preimage_count = size_is ∙ ap (size D) preimage_of.region

        preimage_size : m ≡ size D (target P (node_b P j))
        preimage_size = operand_size sized preimage_of.earlier preimage_of.operand_region_lem

        target_small : m ≤ 512
        target_small = rw (preimage_size, ← preimage_of.operand_region_lem) (size_small (node_a P j) (omega (arith, preimage_of.earlier, node_listed G.node)))

        pub preimage_room : PreimageRoom own operand entries n m N
        preimage_room =
            record {
              room = room;
              operand_there = operand_there (rw G.operands.a_is preimage_of.earlier) at_operand;
              few_elements = own_size;
              few_targets = target_small;
              entries_there = rw preimage_count (map_room preimage_of.map_listed);
            }

        pub preimage_done : {new : List ℕ} → new ≡ store own 0 (N * 8) (piece_words (preimage_pieces operand entries n m)) → earlier ++ new ≡ node_filled P D span words j
        unfolding preimage_pieces node_sets_by
        preimage_done q =
            done _ q (λ i e l h. rw (sets_are P D j sets k, preimage_count, preimage_size, map_entries preimage_of.map_listed)
            (leading_from _ D.entries _ _ _ e
            ∙ preimage_is P D (node_b P j) (sets (node_a P j)) (span.first + i) _ (rw (← preimage_size) target_small)
            (λ x. words_of a (node_a P j) _ i x at_operand G.operands.a_is preimage_of.earlier (ap (size D) (sym preimage_of.operand_region_lem)) l) e))
