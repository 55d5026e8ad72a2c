-- What filling the words means: node by node, each from the sets that the words before it hold.
use Rattle.std.specs.Prelude.{ℕ, zero, suc, ◌+◌, ◌-◌, ◌*◌, ◌/◌, ◌%◌, ◌≤◌, ◌<◌, ◌≡◌, List, get_or, Ok}
use Rattle.model.specs.Tests.{◌and◌, pick, ◌<?◌}
use Rattle.model.specs.Bytes.{Bytes}
use Rattle.model.specs.Partitions.{Partition}
use Rattle.model.specs.Layout.{Plan, map_count, supplied_count, node_count}
use Rattle.model.specs.Nodes.{node_region}
use Rattle.model.specs.DataSets.{DataSet, data_of, pieces, size, entry_start, member_start, data_check}
use Rattle.model.specs.Membership.{node_sets, member}
use Rattle.model.specs.Words.{bit, holds, word, store}
use Rattle.model.specs.AcceptedPlans.{Facts, Limits}
use Rattle.subregions.specs.declared.Span.{Span}
use Rattle.subregions.specs.declared.sources.Sources.{Sources}
use Rattle.subregions.specs.Needed.{OperandsNeeded}
use Rattle.subregions.specs.Pieces.{piece_words, pieces_from}

module _ (P : Plan) (D : DataSet) where
  module _ (span : Span) where
    -- the sets that words hold: node, piece, element. Piece i of node k stands i - first pieces behind the first of the node's;
    -- bits at or above the size of the node's region are read as 0
    unfoldable pub sets_of_words : List ℕ → ℕ → Partition
    sets_of_words words k i e = e <? size D (node_region P k) and holds words ((k * span.count + (i - span.first)) * 8) e

    -- the words once node j is filled from those of the nodes before it
    unfoldable pub node_filled : List ℕ → ℕ → List ℕ
    node_filled words j = store words (j * span.count * 8) (span.count * 8) (piece_words (pieces_from span.first (node_sets P D j (sets_of_words words))))

    -- word w of all the span's pieces, node by node
    unfoldable pub span_word : ℕ → ℕ
    span_word w = word (member P D (w / 8 / span.count) (span.first + w / 8 % span.count)) (w % 8)

    -- the words once the first so many nodes are passed: those that are needed are filled
    unfoldable pub filled_up_to : List ℕ → ℕ → List ℕ
    filled_up_to old zero = old
    filled_up_to old (suc j) =
        let before = filled_up_to old j in
        pick (bit span.needed j) (store before (j * span.count * 8) (span.count * 8) (λ w. span_word (j * span.count * 8 + w))) before

    -- the words once all its nodes are
    unfoldable pub span_filled : List ℕ → List ℕ
    span_filled old = filled_up_to old span.nodes

    -- the span's nodes and pieces are the plan's and the data set's, and so many words are enough for them
    pub record SpanFits (lent : ℕ) : Type 0 where
      pub nodes_listed : span.nodes ≤ node_count P
      pub operands_needed : OperandsNeeded P span.nodes span.needed
      pub pieces_are : span.pieces ≡ pieces D
      pub pieces_listed : span.first + span.count ≤ span.pieces
      pub enough : span.nodes * span.count * 8 ≤ lent

  -- a table has the sizes of the first nodes' regions
  abbrev pub NodeSizes : List ℕ → ℕ → Type 0
  NodeSizes table count = (j : ℕ) → j < count → get_or table j 0 ≡ size D (node_region P j)

-- what the sizes of the first nodes' regions are read from
pub record SizeSources (P : Plan) (d : Bytes) (read : Sources) (count : ℕ) : Type 0 where
  pub sizes_are : read.sizes.now ≡ (data_of d).sizes
  pub node_regions_are : (j : ℕ) → j < count → get_or read.node_regions.now j 0 ≡ node_region P j

-- an accepted plan, data that fit it, a span of both with words enough, and what the fills read of them
pub record FillSources (P : Plan) (d : Bytes) (read : Sources) (span : Span) (lent : ℕ) : Type 0 where
  pub facts : Facts P
  pub limits : Limits P
  pub fits : data_check P d ≡ Ok tt
  pub span_fits : SpanFits P (data_of d) span lent
  pub nodes_are : read.nodes.now ≡ P.nodes
  pub node_regions_are : (j : ℕ) → j < node_count P → get_or read.node_regions.now j 0 ≡ node_region P j
  pub sizes_are : read.sizes.now ≡ (data_of d).sizes
  pub entries_are : read.entries.now ≡ (data_of d).entries
  pub members_are : read.members.now ≡ (data_of d).members
  pub entries_begin : (m : ℕ) → m < map_count P → get_or read.entry_starts.now m 0 ≡ entry_start P (data_of d) m
  pub members_begin : (k : ℕ) → k < supplied_count P → get_or read.member_starts.now k 0 ≡ member_start P (data_of d) k

-- the span can be filled
pub record FillReady (read : Sources) (span : Span) (lent : ℕ) : Type 0 where
  pub plan : Plan
  pub bytes : Bytes
  pub sources : FillSources plan bytes read span lent

-- a node of the span, and the table of the nodes' sizes: of regions and sizes nothing else is read of it
pub record NodeSources (P : Plan) (d : Bytes) (read : Sources) (nodeSizes : List ℕ) (span : Span) (lent j : ℕ) : Type 0 where
  pub facts : Facts P
  pub limits : Limits P
  pub fits : data_check P d ≡ Ok tt
  pub span_fits : SpanFits P (data_of d) span lent
  pub nodes_are : read.nodes.now ≡ P.nodes
  pub entries_are : read.entries.now ≡ (data_of d).entries
  pub members_are : read.members.now ≡ (data_of d).members
  pub entries_begin : (m : ℕ) → m < map_count P → get_or read.entry_starts.now m 0 ≡ entry_start P (data_of d) m
  pub members_begin : (k : ℕ) → k < supplied_count P → get_or read.member_starts.now k 0 ≡ member_start P (data_of d) k
  pub node_sizes_are : NodeSizes P (data_of d) nodeSizes span.nodes
  pub node_spanned : j < span.nodes

-- node j can be filled
pub record NodeReady (read : Sources) (nodeSizes : List ℕ) (span : Span) (lent j : ℕ) : Type 0 where
  pub plan : Plan
  pub bytes : Bytes
  pub sources : NodeSources plan bytes read nodeSizes span lent j
