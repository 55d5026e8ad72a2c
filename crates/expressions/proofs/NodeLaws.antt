-- Section 5: a record's region and key, the checks of a node in order, and the tables of the nodes so far. Assumes nothing.
use Prim.Native.Nat.{ℕ, zero, suc, min, ◌+◌, ◌≤◌, ◌<◌}
use mathlib.Core.Path.{◌≡◌, refl}
use mathlib.Core.Bool.{Bool, true, false, and-true}
use mathlib.Core.Logic.{inl, inr}
use mathlib.Core.List.{List}
use native.Mathlib.Omega.{arith}
use lib.ListN.{get_or, length, set, take}
use denote.Enum.Bare.{sameb}
use denote.Enum.Declared.{tag_of}
use Rattle.std.specs.Prelude.{Ok}
use Rattle.std.proofs.Math.Bool.{and_assoc}
use Rattle.std.proofs.lemmas.List.Folds.{list_any_more}
use Rattle.std.specs.Bool.{then_some, nat_eq}
use Rattle.std.specs.List.{list_any}
use native.Mathlib.Numerals.{add-one}
use Rattle.std.specs.Option.{ok_or}
use Rattle.model.specs.Tests.{Is, ◌and◌, ◌or◌, any, ◌=?◌}
use Rattle.model.specs.Recursion.{below}
use Rattle.model.specs.Layout.{Plan, node_count, node_a, node_kind, node_unused}
use Rattle.model.specs.Nodes.{node_kind_of, node_kind_at, node_check, duplicate_node, same_node, operands_earlier, operand_and_map, node_formed_by, node_formed, operands_of_one_region, node_agrees_by, node_region_by, node_region, node_region_step}
use Rattle.model.specs.declared.NodeKind.{NodeKind}
use Rattle.model.specs.declared.NodeKind.TheVariants.{Supplied, Equal, Union, Intersection, Difference, Image, Preimage, Unknown}
use Rattle.model.specs.declared.Refusal.{Refusal}
use Rattle.model.specs.contracts.NodeKind.{the_type}
use Rattle.model.proofs.Tests.{falsum, both, pair, same, same!, latest, same_truth}
use Rattle.model.proofs.Outcomes.{then_pass, require_pass}
use Rattle.model.proofs.Recursion.{course_law}
use Rattle.primitives.proofs.Scanning.{Scanning}
use Rattle.primitives.proofs.Searches.{any_same}
use Rattle.expressions.specs.Nodes.{kind_byte, node_key, NodeKeyOf, NodeRead, EarlierNodes, NodePasses}
use Rattle.expressions.specs.declared.records.Node.{Node}
use Rattle.expressions.specs.declared.nodes.CheckedNode.{CheckedNode}
use Rattle.expressions.specs.declared.nodes.NodeTables.{NodeTables}
use Rattle.primitives.proofs.Filling.{entry_next}

-- numbers that are equal where two others are
pub equal_alike : {a b c d : ℕ} → (a ≡ b → c ≡ d) → (c ≡ d → a ≡ b) → (a =? b) ≡ (c =? d)
equal_alike f g = same_truth (λ h. same! (f (same h))) (λ h. same! (g (same h)))

-- the region of node j, by its kind
pub region_at : (P : Plan) (j : ℕ) → node_region P j ≡ node_region_by P (node_kind_at P j) j (below 0 j (node_region P))
unfolding node_region node_region_step
region_at P j = course_law 0 (node_region_step P) j

-- a node that passes is formed, of a known kind, and its last byte is 0
module _ (P : Plan) (j : ℕ) where
  pub formed_passes : node_check P j ≡ Ok tt → Is (node_formed P j)
  unfolding node_check
  formed_passes h = require_pass _ _ (then_pass _ _ h).0

  pub unused_byte : Is (node_formed P j) → node_unused P j ≡ 0
  unfolding node_formed
  unused_byte h = same (both h).0

-- a kind of two operands, whose regions are one
pub record OfTwoOperands (P : Plan) (kind : NodeKind) (j : ℕ) : Type 0 where
  pub formed : node_formed_by P kind j ≡ operands_earlier P j
  pub region : (earlier : ℕ → ℕ) → node_region_by P kind j earlier ≡ earlier (node_a P j)
  pub agrees : node_agrees_by P kind j ≡ operands_of_one_region P j

-- union, intersection and difference are; an arm for all three tells their tags
pub two_operands : (P : Plan) (kind : NodeKind) (j : ℕ) → 2 ≤ tag_of the_type kind → tag_of the_type kind ≤ 4 → OfTwoOperands P kind j
unfolding node_formed_by node_region_by node_agrees_by
two_operands P Supplied j least most = absurd (omega arith)
two_operands P Equal j least most = absurd (omega arith)
two_operands P Union j least most = record { formed = refl; region = λ earlier. refl; agrees = refl }
two_operands P Intersection j least most = record { formed = refl; region = λ earlier. refl; agrees = refl }
two_operands P Difference j least most = record { formed = refl; region = λ earlier. refl; agrees = refl }
two_operands P Image j least most = absurd (omega arith)
two_operands P Preimage j least most = absurd (omega arith)
two_operands P Unknown j least most = absurd (omega arith)

-- image and preimage have one, and a map
pub one_operand : (P : Plan) (kind : NodeKind) (j : ℕ) → 5 ≤ tag_of the_type kind → tag_of the_type kind ≤ 6 → node_formed_by P kind j ≡ operand_and_map P j
unfolding node_formed_by
one_operand P Supplied j least most = absurd (omega arith)
one_operand P Equal j least most = absurd (omega arith)
one_operand P Union j least most = absurd (omega arith)
one_operand P Intersection j least most = absurd (omega arith)
one_operand P Difference j least most = absurd (omega arith)
one_operand P Image j least most = refl
one_operand P Preimage j least most = refl
one_operand P Unknown j least most = absurd (omega arith)

-- a value that is there by a test, else a refusal: what the value says of the test
pub test_passed : (test : Bool) (v : ℕ) (q : Refusal) {w : ℕ} → ok_or (then_some test v) q ≡ Ok w → Is test × (w ≡ v)
test_passed true v q h = (refl, cc)
test_passed false v q h = cc

-- kinds and their bytes: in the order of the enum; every other byte stands for the last of them, by which no node is formed
tag_byte : (kind : NodeKind) → tag_of the_type kind ≡ kind_byte kind
tag_byte Supplied = refl
tag_byte Equal = refl
tag_byte Union = refl
tag_byte Intersection = refl
tag_byte Difference = refl
tag_byte Image = refl
tag_byte Preimage = refl
tag_byte Unknown = refl

byte_least : (k : ℕ) → kind_byte (node_kind_of k) ≡ min k 7
unfolding node_kind_of
byte_least zero = refl
byte_least (suc zero) = refl
byte_least (suc (suc zero)) = refl
byte_least (suc (suc (suc zero))) = refl
byte_least (suc (suc (suc (suc zero)))) = refl
byte_least (suc (suc (suc (suc (suc zero))))) = refl
byte_least (suc (suc (suc (suc (suc (suc zero)))))) = refl
byte_least (suc (suc (suc (suc (suc (suc (suc k))))))) = omega arith

formed_known : (P : Plan) (j : ℕ) (kind : NodeKind) → Is (node_formed_by P kind j) → kind_byte kind < 7
unfolding node_formed_by
formed_known P j Supplied formed = omega arith
formed_known P j Equal formed = omega arith
formed_known P j Union formed = omega arith
formed_known P j Intersection formed = omega arith
formed_known P j Difference formed = omega arith
formed_known P j Image formed = omega arith
formed_known P j Preimage formed = omega arith
formed_known P j Unknown formed = falsum formed

formed_byte : (P : Plan) (j : ℕ) → Is (node_formed P j) → (kind_byte (node_kind_at P j) ≡ node_kind P j) × (node_kind P j < 7)
unfolding node_formed node_kind_at
formed_byte P j formed =
    let least = byte_least (node_kind P j) in
    let known = formed_known P j _ (both formed).1 in
    (omega arith, omega arith)

-- a node's kind compared with a known one, by the kind and by its byte
pub kind_same : (P : Plan) (j : ℕ) (kind : NodeKind) → kind_byte kind < 7 → (node_kind P j =? kind_byte kind) ≡ sameb the_type (node_kind_at P j) kind
unfolding node_kind_at ◌=?◌
kind_same P j kind known =
    let least = byte_least (node_kind P j) in
    rw (tag_byte (node_kind_of (node_kind P j)), tag_byte kind) (equal_alike (λ e. omega arith) (λ e. omega arith))

pub byte_same : (P : Plan) (j k : ℕ) → k < 7 → (node_kind P j =? k) ≡ sameb the_type (node_kind_at P j) (node_kind_of k)
byte_same P j k known =
    let byte : kind_byte (node_kind_of k) ≡ k = let least = byte_least k in omega arith in
    let same = kind_same P j (node_kind_of k) (omega arith) in
    rw byte at same

-- and tests in a row, grouped as the definitions group them
pub ruleset known_kinds = (byte_same, and_assoc)

-- two nodes of bytes have one key where they are one node
key_same : {k a b k' a' b' : ℕ} → k < 256 → a < 256 → b < 256 → k' < 256 → a' < 256 → b' < 256
    → (node_key k a b =? node_key k' a' b') ≡ (k =? k' and a =? a' and b =? b')
key_same {k} {a} {b} {k'} {a'} {b'} k< a< b< k'< a'< b'< =
    same_truth
    (λ h.
    let e : node_key k a b ≡ node_key k' a' b' = same h in
    pair (same! (omega arith)) (pair (same! (omega arith)) (same! (omega arith))))
    (λ h.
    let e-k = same (both h).0 in
    let e-a = same (both (both h).1).0 in
    let e-b = same (both (both h).1).1 in
    same! (omega arith))

-- whether one of the first entries passes
taken_any : (test : ℕ → Bool) (xs : List ℕ) (n : ℕ) → n ≤ length xs → list_any test (take n xs) ≡ any n (λ k. test (get_or xs k 0))
unfolding any ◌or◌
taken_any test xs zero few = refl
taken_any test xs (suc n) few = rw (← add-one n, list_any_more test xs n 0 (omega arith), taken_any test xs n (omega arith))

-- node j as it was read, formed, and its key
module _ {P : Plan} {j : ℕ} {node : Node} (read : NodeRead P j node) (formed : Is (node_formed P j)) {key : ℕ}
    (key_is : key ≡ node_key (kind_byte node.kind) node.a node.b) (a< : node.a < 256) (b< : node.b < 256) where
  kind_known : kind_byte node.kind ≡ node_kind P j
  kind_known = rw read.kind (formed_byte P j formed).0

  kind< : node_kind P j < 256
  kind< = omega (arith, (formed_byte P j formed).1)

  pub own_key : NodeKeyOf P j key
  own_key k a b k< a<' b<' = rw (key_is, kind_known, ← read.a, ← read.b) (key_same kind< a< b< k< a<' b<')

  pub duplicate_known : {tables : NodeTables} → EarlierNodes P tables j → j ≤ length tables.keys
      → list_any (λ earlier. nat_eq earlier key) (take j tables.keys) ≡ duplicate_node P j
  unfolding duplicate_node same_node ◌and◌ ◌=?◌
  duplicate_known {tables} earlier few =
      rw (taken_any (λ earlier. nat_eq earlier key) tables.keys j few, key_is)
      (any_same j _ _ (λ k lt.
      rw (earlier.unused k lt, unused_byte P j formed, and-true, kind_known, ← read.a, ← read.b)
      (earlier.keys k lt _ _ _ kind< a< b<)))

-- after node j, which passes
pub next_earlier : {P : Plan} {tables : NodeTables} {j : ℕ} {r : CheckedNode} → EarlierNodes P tables j
    → j < length tables.regions → j < length tables.keys → NodePasses P j r
    → EarlierNodes P (record { regions = set tables.regions j r.region; keys = set tables.keys j r.key }) (j + 1)
next_earlier {P} {tables} {j} earlier in_regions in_keys node =
    record {
      regions = record { region = entry_next 0 (λ k v. v ≡ node_region P k) tables.regions j _ in_regions earlier.regions.region node.region };
      keys = entry_next 0 (NodeKeyOf P) tables.keys j _ in_keys earlier.keys node.key;
      unused = λ k lt. elim (latest k j (omega arith)) [ inl e ↦ rw e (unused_byte P j (formed_passes P j node.passes)) | inr l ↦ earlier.unused k l ];
    }

-- the loop over the nodes: the nodes before node j passed, and the tables have them
pub record NodesPassed (P : Plan) (tables : NodeTables) (j : ℕ) : Type 0 where
  pub earlier : EarlierNodes P tables j
  pub scanning : Scanning (node_check P) (node_count P) j
