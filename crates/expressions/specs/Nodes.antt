-- A record of section 5 as it is read, and the tables of the nodes' regions and keys.
use Rattle.std.specs.Prelude.{ℕ, ◌+◌, ◌*◌, ◌<◌, ◌≡◌, List, get_or, Option, Result, Ok, Err}
use Rattle.std.specs.Bool.{then_some}
use Rattle.model.specs.Tests.{Is, ◌and◌, ◌=?◌}
use Rattle.model.specs.Bytes.{Bytes}
use Rattle.model.specs.Layout.{Plan, node_count, node_kind, node_a, node_b, node_unused}
use Rattle.model.specs.Nodes.{SUPPLIED, EQUAL, UNION, INTERSECTION, DIFFERENCE, IMAGE, PREIMAGE, node_kind_at, node_formed, node_region, node_agrees, node_check}
use Rattle.model.specs.Verdict.{nodes_check}
use Rattle.model.specs.declared.NodeKind.{NodeKind}
use Rattle.model.specs.declared.NodeKind.TheVariants.{Supplied, Equal, Union, Intersection, Difference, Image, Preimage, Unknown}
use Rattle.model.specs.declared.Refusal.{Refusal}
use Rattle.expressions.specs.declared.records.Node.{Node}
use Rattle.expressions.specs.declared.nodes.CheckedNode.{CheckedNode}
use Rattle.expressions.specs.declared.nodes.NodeTables.{NodeTables}
use Rattle.expressions.specs.declared.nodes.Declarations.{Declarations}

-- a plan of the sections that nodes are checked by
pub record NodeSources (P : Plan) (regions maps supplied nodes : Bytes) : Type 0 where
  pub regions_are : P.regions ≡ regions
  pub maps_are : P.maps ≡ maps
  pub supplied_are : P.supplied ≡ supplied
  pub nodes_are : P.nodes ≡ nodes

-- a plan of these declarations
pub record Declared (P : Plan) (d : Declarations) : Type 0 where
  pub regions_are : P.regions ≡ d.regions.now
  pub maps_are : P.maps ≡ d.maps.now
  pub supplied_are : P.supplied ≡ d.supplied.now

-- the byte of a kind; an unknown kind has the first byte that no kind has
abbrev pub kind_byte : NodeKind → ℕ
kind_byte Supplied = SUPPLIED
kind_byte Equal = EQUAL
kind_byte Union = UNION
kind_byte Intersection = INTERSECTION
kind_byte Difference = DIFFERENCE
kind_byte Image = IMAGE
kind_byte Preimage = PREIMAGE
kind_byte Unknown = 7

-- kind, a and b as one key
abbrev pub node_key : ℕ → ℕ → ℕ → ℕ
node_key kind a b = kind + a * 256 + b * 65536

-- the key tells kind, a and b of node j
abbrev pub NodeKeyOf : Plan → ℕ → ℕ → Type 0
NodeKeyOf P j key =
    (k a b : ℕ) → k < 256 → a < 256 → b < 256 → (key =? node_key k a b) ≡ (node_kind P j =? k and node_a P j =? a and node_b P j =? b)

-- the table has such a key for each node
abbrev pub NodeKeys : Plan → List ℕ → Type 0
NodeKeys P keys = (j : ℕ) → j < node_count P → NodeKeyOf P j (get_or keys j 0)

-- what was read is node j: "kind, a, b, 0"
pub record NodeRead (P : Plan) (j : ℕ) (r : Node) : Type 0 where
  pub kind : r.kind ≡ node_kind_at P j
  pub a : r.a ≡ node_a P j
  pub b : r.b ≡ node_b P j
  pub unused : r.unused ≡ node_unused P j

-- the table has the regions of the nodes before j
pub record EarlierRegions (P : Plan) (table : List ℕ) (j : ℕ) : Type 0 where
  pub region : (k : ℕ) → k < j → get_or table k 0 ≡ node_region P k

-- the region of node j, where it is formed, the regions of its operands agree and the table has them
abbrev pub RegionRead : Plan → ℕ → List ℕ → Option ℕ → Type 0
RegionRead P j table r = Is (node_formed P j) → EarlierRegions P table j → r ≡ then_some (node_agrees P j) (node_region P j)

-- the tables have the regions and the keys of the nodes before j, whose unused bytes are 0
pub record EarlierNodes (P : Plan) (tables : NodeTables) (j : ℕ) : Type 0 where
  pub regions : EarlierRegions P tables.regions j
  pub keys : (k : ℕ) → k < j → NodeKeyOf P k (get_or tables.keys k 0)
  pub unused : (k : ℕ) → k < j → node_unused P k ≡ 0

-- node j passes, and has this region and key
pub record NodePasses (P : Plan) (j : ℕ) (node : CheckedNode) : Type 0 where
  pub passes : node_check P j ≡ Ok tt
  pub region : node.region ≡ node_region P j
  pub key : NodeKeyOf P j node.key

-- node j passes, or is refused for this
abbrev pub NodeChecked : Plan → ℕ → Result CheckedNode Refusal → Type 0
NodeChecked P j (Ok node) = NodePasses P j node
NodeChecked P j (Err refusal) = node_check P j ≡ Err refusal

-- section 5 passes, and its nodes have these regions and keys
pub record NodesPass (P : Plan) (tables : NodeTables) : Type 0 where
  pub passes : nodes_check P ≡ Ok tt
  pub regions : (j : ℕ) → j < node_count P → get_or tables.regions j 0 ≡ node_region P j
  pub keys : NodeKeys P tables.keys

-- section 5 passes, or is refused for this
abbrev pub NodesChecked : Plan → Result NodeTables Refusal → Type 0
NodesChecked P (Ok tables) = NodesPass P tables
NodesChecked P (Err refusal) = nodes_check P ≡ Err refusal
