-- The needed nodes of a span, one after the other: the words before a node hold the members of its operands, so that it is filled with its
-- own. Assumes nothing.
use Prim.Native.Nat.{ℕ, zero, suc, ◌+◌, ◌-◌, ◌*◌, ◌/◌, ◌%◌, ◌≤◌, ◌<◌}
use mathlib.Core.Path.{◌≡◌, refl, sym, ap, ap₂, ◌∙◌, fun_ext}
use mathlib.Core.Logic.{inl, inr}
use mathlib.Core.Bool.{Bool, false}
use mathlib.Core.List.{List}
use native.Mathlib.Nat.{mul-le-mul_right, suc-mul}
use native.Mathlib.Numerals.{add-one}
use native.Mathlib.Decide.{ℕ_discrete}
use native.Mathlib.Omega.{arith}
use lib.ListN.{length, get_or}
use Rattle.model.specs.Tests.{Is, ◌and◌, ◌or◌, non, any}
use Rattle.model.specs.Bytes.{Bytes}
use Rattle.model.specs.Partitions.{Partition, union, intersection, difference, image, preimage}
use Rattle.model.specs.Layout.{Plan, node_count, source, target, node_kind, node_a, node_b}
use Rattle.model.specs.Nodes.{node_kind_of, node_kind_at, node_region}
use Rattle.model.specs.DataSets.{data_of, DataSet, size, maps_to}
use Rattle.model.specs.Membership.{node_sets_by, node_sets, member}
use Rattle.model.specs.Words.{bit, holds, word, store}
use Rattle.model.proofs.Tests.{both, pair, lacks, less, less!, split, fails, pick_true, pick-false, at_each, ◌also◌, same_truth}
use Rattle.model.proofs.Words.{word_same, word_element, store_length, store_inside, store_same, store_pieces, holds_at, holds_kept}
use Rattle.model.proofs.FinalWords.{piece_inside, row_word_lem}
use Rattle.model.specs.AcceptedPlans.{Facts}
use Rattle.model.proofs.Fitting.{Fit}
use Rattle.model.proofs.NodeSets.{supplied_node, equal_node, union_node, intersection_node, difference_node, image_node_lem, preimage_node, kind_known, region_small, node_within}
use Rattle.subregions.specs.declared.Span.{Span}
use Rattle.subregions.specs.declared.sources.Sources.{Sources}
use Rattle.subregions.specs.Pieces.{piece_words, pieces_from}
use Rattle.subregions.specs.Fill.{sets_of_words, node_filled, span_word, filled_up_to, span_filled, SpanFits, NodeSizes, SizeSources, FillSources, NodeSources}
use Rattle.subregions.proofs.NodeOperators.{sets_are}

-- word w of node j's piece i among the span's
span_word_lem : (P : Plan) (D : DataSet) (span : Span) (j i w : ℕ) → i < span.count → w < 8
    → span_word P D span ((j * span.count + i) * 8 + w) ≡ word (member P D j (span.first + i)) w
unfolding span_word
span_word_lem P D span = row_word_lem (λ j. pieces_from span.first (member P D j)) span.count

module _ (P : Plan) (D : DataSet) (F : Facts P) where
  -- a node made of its operands' members has its own
  module _ (j : ℕ) (lt : j < node_count P) (H : ℕ → Partition) (i : ℕ)
      (left : node_a P j < j → 2 ≤ node_kind P j → H (node_a P j) i ≡ member P D (node_a P j) i)
      (right : node_b P j < j → 2 ≤ node_kind P j → node_kind P j ≤ 4 → H (node_b P j) i ≡ member P D (node_b P j) i) (e : ℕ) where
    at : {A B : Partition} → A ≡ B → A i e ≡ B i e
    at q = ap (λ (partition : Partition). partition i e) q

    here : {A B : ℕ → Bool} → A ≡ B → A e ≡ B e
    here q = ap (λ (set : ℕ → Bool). set e) q

    -- both operands, of kinds 2 to 4
    operands : {kind : ℕ} (op : Bool → Bool → Bool) → node_kind P j ≡ kind → 2 ≤ kind → kind ≤ 4 → node_a P j < j → node_b P j < j
        → op (H (node_a P j) i e) (H (node_b P j) i e) ≡ op (member P D (node_a P j) i e) (member P D (node_b P j) i e)
    operands op k low high a b = ap₂ op (here (left a (omega arith))) (here (right b (omega arith) (omega arith)))

    pub members_are : node_sets P D j H i e ≡ member P D j i e
    unfolding node_kind_at node_kind_of node_sets_by union intersection difference image preimage
    members_are =
        at_each (λ kind. node_kind P j ≡ kind → node_sets P D j H i e ≡ member P D j i e) 0 7
        ((λ k. at (sets_are P D j H (ap node_kind_of k) ∙ sym (supplied_node P D F j lt k).holds))
        also (λ k. at (sets_are P D j H (ap node_kind_of k) ∙ sym (equal_node P D F j lt k).holds))
        also (λ k. let n = union_node P D F j lt k in
        at (sets_are P D j H (ap node_kind_of k)) ∙ operands ◌or◌ k (omega arith) (omega arith) n.left_earlier n.right_earlier ∙ sym (at n.holds))
        also (λ k. let n = intersection_node P D F j lt k in
        at (sets_are P D j H (ap node_kind_of k)) ∙ operands ◌and◌ k (omega arith) (omega arith) n.left_earlier n.right_earlier ∙ sym (at n.holds))
        also (λ k. let n = difference_node P D F j lt k in
        at (sets_are P D j H (ap node_kind_of k)) ∙ operands (λ s t. s and non t) k (omega arith) (omega arith) n.left_earlier n.right_earlier ∙ sym (at n.holds))
        also (λ k. let n = image_node_lem P D F j lt k in
        at (sets_are P D j H (ap node_kind_of k))
        ∙ ap (λ (set : ℕ → Bool). any (size D (source P (node_b P j))) (λ x. set x and maps_to P D (node_b P j) x e)) (left n.earlier (omega arith)) ∙ sym (at n.holds))
        also (λ k. let n = preimage_node P D F j lt k in
        at (sets_are P D j H (ap node_kind_of k))
        ∙ ap (λ (set : ℕ → Bool). any (size D (target P (node_b P j))) (λ x. maps_to P D (node_b P j) e x and set x)) (left n.earlier (omega arith)) ∙ sym (at n.holds))
        also tt)
        (node_kind P j) (omega arith) (kind_known P D F j lt) refl

  module _ (fit : Fit P D) (span : Span) (old : List ℕ) (fits : SpanFits P D span (length old)) where
    abbrev N : ℕ
    N = span.count

    listed : (k : ℕ) → k < span.nodes → k < node_count P
    listed k h = omega (arith, fits.nodes_listed)

    -- the words once so many nodes are passed
    abbrev passed : ℕ → List ℕ
    passed = filled_up_to P D span old

    filled : (j : ℕ) → Is (bit span.needed j) → passed (suc j) ≡ store (passed j) (j * N * 8) (N * 8) (λ w. span_word P D span (j * N * 8 + w))
    unfolding filled_up_to
    filled j h = pick_true _ _ _ h

    skipped : (j : ℕ) → bit span.needed j ≡ false → passed (suc j) ≡ passed j
    unfolding filled_up_to
    skipped j h = pick-false _ _ _ h

    pub node_skipped : (j : ℕ) → bit span.needed j ≡ false → passed (j + 1) ≡ passed j
    node_skipped j h = ap passed (add-one j) ∙ skipped j h

    pub passed_length : (j : ℕ) → length (passed j) ≡ length old
    unfolding filled_up_to
    passed_length zero = refl
    passed_length (suc j) =
        elim (split (bit span.needed j)) [
          | inl h ↦ ap length (filled j h) ∙ store_length _ _ _ _ ∙ passed_length j
          | inr h ↦ ap length (skipped j (fails h)) ∙ passed_length j
        ]

    room : (j : ℕ) → j < span.nodes → j * N * 8 + N * 8 ≤ length (passed j)
    room j lt = omega (arith, passed_length j, fits.enough, mul-le-mul_right N lt, suc-mul j N)

    -- the words of a needed node that is passed hold its members
    pub passed_hold : (m : ℕ) → m ≤ span.nodes → (k i e : ℕ) → k < m → Is (bit span.needed k) → i < N → e < 512
        → holds (passed m) ((k * N + i) * 8) e ≡ member P D k (span.first + i) e
    passed_hold zero le k i e lk h li l = absurd (omega arith)
    passed_hold (suc m) le k i e lk h li l =
        elim (split (bit span.needed m)) [
          | inl new ↦ ap (λ (list : List ℕ). holds list ((k * N + i) * 8) e) (filled m new) ∙ stored (λ lt. passed_hold m (omega arith) k i e lt h li l) (ℕ_discrete k m)
          | inr old-one ↦
              ap (λ (list : List ℕ). holds list ((k * N + i) * 8) e) (skipped m (fails old-one))
              ∙ passed_hold m (omega arith) k i e (other (ℕ_discrete k m) old-one) h li l
        ]
      where
        other : Dec (k ≡ m) → Is (non (bit span.needed m)) → k < m
        other (yes is) n = absurd (lacks n (rw is at h))
        other (no z) n = omega arith

        stored : (k < m → holds (passed m) ((k * N + i) * 8) e ≡ member P D k (span.first + i) e) → Dec (k ≡ m)
            → holds (store (passed m) (m * N * 8) (N * 8) (λ w. span_word P D span (m * N * 8 + w))) ((k * N + i) * 8) e ≡ member P D k (span.first + i) e
        stored before (no z) =
            holds_kept (passed m) (m * N * 8) (N * 8) _ ((k * N + i) * 8) e (omega (arith, piece_inside N m k i (omega arith) li)) l
            ∙ before (omega arith)
        stored before (yes is) =
            let place : (k * N + i) * 8 + e / 64 ≡ m * N * 8 + (i * 8 + e / 64) = rw is (omega arith) in
            let again : m * N * 8 + (i * 8 + e / 64) ≡ (m * N + i) * 8 + e / 64 = omega arith in
            holds_at _ ((k * N + i) * 8) e
            ∙ ap (λ (x : ℕ). bit (get_or (store (passed m) (m * N * 8) (N * 8) (λ w. span_word P D span (m * N * 8 + w))) x 0) (e % 64)) place
            ∙ ap (λ (x : ℕ). bit x (e % 64))
            (store_inside (passed m) (m * N * 8) (N * 8) _ (i * 8 + e / 64) (room m (omega arith)) (omega arith)
            ∙ ap (span_word P D span) again ∙ span_word_lem P D span m i (e / 64) li (omega arith))
            ∙ word_element (member P D m (span.first + i)) e
            ∙ ap (λ (x : ℕ). member P D x (span.first + i) e) (sym is)

    module _ (j : ℕ) (lt : j < span.nodes) (here : Is (bit span.needed j)) where
      -- what the words hold
      abbrev sets : ℕ → Partition
      sets = sets_of_words P D span (passed j)

      -- of an earlier node that is needed its members: none is at or above the size of its region
      words_members : (k : ℕ) → k < j → Is (bit span.needed k) → (i : ℕ) → i < N → sets k (span.first + i) ≡ member P D k (span.first + i)
      unfolding sets_of_words
      words_members k h b i l = fun_ext (λ e.
          same_truth
          (λ t. sym (held e (less (both t).0)) ∙ (both t).1)
          (λ t. let w = node_within P D F fit k (listed k (omega arith)) (span.first + i) e t in pair (less! w.1) (held e w.1 ∙ t)))
        where
          place : (k * N + (span.first + i - span.first)) * 8 ≡ (k * N + i) * 8
          place = omega arith

          held : (e : ℕ) → e < size D (node_region P k) → holds (passed j) ((k * N + (span.first + i - span.first)) * 8) e ≡ member P D k (span.first + i) e
          held e m =
              ap (λ (at : ℕ). holds (passed j) at e) place
              ∙ passed_hold j (omega arith) k i e h b l (omega (arith, region_small P D F fit k (listed k (omega arith))))

      -- so node j gets its own
      pub node_next : node_filled P D span (passed j) j ≡ passed (j + 1)
      unfolding node_filled piece_words
      node_next =
          store_same (passed j) (j * N * 8) (N * 8) (piece_words (pieces_from span.first (node_sets P D j sets))) (λ w. span_word P D span (j * N * 8 + w)) (λ w h. own w h)
          ∙ sym (filled j here) ∙ ap passed (sym (add-one j))
        where
          own : (w : ℕ) → w < N * 8 → word (node_sets P D j sets (span.first + w / 8)) (w % 8) ≡ span_word P D span (j * N * 8 + w)
          own w h =
              let i : w / 8 < N = omega arith in
              let place : (j * N + w / 8) * 8 + w % 8 ≡ j * N * 8 + w = omega arith in
              word_same _ (member P D j (span.first + w / 8)) (w % 8)
              (λ b l. members_are j (listed j lt) sets (span.first + w / 8)
              (λ m two. words_members _ m (fits.operands_needed.left j lt here two) (w / 8) i)
              (λ m two four. words_members _ m (fits.operands_needed.right j lt here two four) (w / 8) i) (w % 8 * 64 + b))
              ∙ sym (span_word_lem P D span j (w / 8) (w % 8) i (omega arith)) ∙ ap (span_word P D span) place

-- where every node is needed, the words stand in a row
module _ (P : Plan) (D : DataSet) (span : Span) (old : List ℕ) (all : (k : ℕ) → k < span.nodes → Is (bit span.needed k)) where
  row : (j : ℕ) → j ≤ span.nodes → filled_up_to P D span old j ≡ store old 0 (j * span.count * 8) (span_word P D span)
  unfolding filled_up_to store
  row zero le = let z : 0 * span.count * 8 ≡ 0 = omega arith in sym (ap (λ (n : ℕ). store old 0 n (span_word P D span)) z)
  row (suc j) le =
      let begin : 0 + j * span.count * 8 ≡ j * span.count * 8 = omega arith in
      let more : j * span.count * 8 + span.count * 8 ≡ suc j * span.count * 8 = omega (arith, suc-mul j span.count) in
      pick_true _ _ _ (all j (omega arith))
      ∙ ap (λ (list : List ℕ). store list (j * span.count * 8) (span.count * 8) (λ w. span_word P D span (j * span.count * 8 + w))) (row j (omega arith))
      ∙ ap (λ (x : ℕ). store (store old 0 (j * span.count * 8) (span_word P D span)) x (span.count * 8) (λ w. span_word P D span (j * span.count * 8 + w))) (sym begin)
      ∙ store_pieces old 0 (j * span.count * 8) (span.count * 8) (span_word P D span)
      ∙ ap (λ (n : ℕ). store old 0 n (span_word P D span)) more

  pub all_filled : span_filled P D span old ≡ store old 0 (span.nodes * span.count * 8) (span_word P D span)
  unfolding span_filled
  all_filled = row span.nodes (omega arith)

-- a node of the span is read from what all are read from
pub node_sources : {P : Plan} {d : Bytes} {read : Sources} {sizes : List ℕ} {span : Span} {lent now j : ℕ} → FillSources P d read span lent → NodeSizes P (data_of d) sizes span.nodes → now ≡ lent → j < span.nodes
    → NodeSources P d read sizes span now j
node_sources S sizes same lt =
    record {
      facts = S.facts;
      limits = S.limits;
      fits = S.fits;
      span_fits = rw same S.span_fits;
      nodes_are = S.nodes_are;
      entries_are = S.entries_are;
      members_are = S.members_are;
      entries_begin = S.entries_begin;
      members_begin = S.members_begin;
      node_sizes_are = sizes;
      node_spanned = lt;
    }

-- the sizes of the span's nodes are read from the sections that the data set has them in
pub size_sources : {P : Plan} {d : Bytes} {read : Sources} {span : Span} {lent : ℕ} → FillSources P d read span lent → SizeSources P d read span.nodes
size_sources S = record { sizes_are = S.sizes_are; node_regions_are = λ j l. S.node_regions_are j (omega (arith, S.span_fits.nodes_listed)) }
