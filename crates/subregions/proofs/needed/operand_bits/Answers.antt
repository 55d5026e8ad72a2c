-- By kind (NeededNodes). Assumes nothing.
use Prim.Native.Nat.{◌+◌, ◌≤◌, ◌<◌}
use mathlib.Core.Path.{◌≡◌, sym, ◌∙◌}
use mathlib.Core.List.{[]}
use native.Mathlib.Omega.{arith}
use Rattle.model.specs.Layout.{Plan, node_count, node_kind}
use Rattle.model.specs.Nodes.{node_kind_at}
use Rattle.model.specs.DataSets.{data_of}
use Rattle.model.specs.declared.NodeKind.{NodeKind}
use lib.Bits.{bit_or}
use Rattle.subregions.specs.Needed.{OperandBits, NodesRead}
use Rattle.subregions.proofs.NodeOperators.{byte_of, byte_is, known_kind}
use Rattle.subregions.proofs.NodeFill.{OperandsRead}
use Rattle.subregions.proofs.NeededNodes.{none_bits, left_bit, both_bits}
use Rattle.subregions.proofs.needed.operand_bits.Goals as goal
use Rattle.subregions.proofs.needed.operand_bits.Goals.{After-node_kind}

-- a plan that the node is read from
abbrev Reads : After-node_kind → Plan → Type 0
Reads c P = NodesRead P c.args.nodes.now (c.args.j + 1)

listed : (c : After-node_kind) {P : Plan} → Reads c P → c.args.j < node_count P
listed c R = omega (arith, R.listed)

-- the node's kind, as the plan has it, and its byte
kind_is : (c : After-node_kind) {P : Plan} → Reads c P → {kind : NodeKind} → c.node_kind.result ≡ kind → node_kind_at P c.args.j ≡ kind
kind_is c {P} R told = sym (c.node_kind.ensures P R.nodes_are) ∙ told

byte : (c : After-node_kind) {P : Plan} → Reads c P → {kind : NodeKind} → c.node_kind.result ≡ kind → node_kind P c.args.j ≡ byte_of kind
byte c {P} R told = byte_is P (data_of []) R.facts _ (listed c R) (kind_is c R told)

-- its operands, as they are read
read : (c : After-node_kind) {P : Plan} → Reads c P → OperandsRead P c.args.j c.node_operands-a.result.0 c.node_operands-a.result.1
read c {P} R = record { a_is = c.node_operands-a.ensures.left P R.nodes_are; b_is = c.node_operands-a.ensures.right P R.nodes_are }

-- no bit, the bit of its left operand, and the bits of both
none : (c : After-node_kind) {P : Plan} → Reads c P → {kind : NodeKind} → c.node_kind.result ≡ kind → byte_of kind < 2 → OperandBits P c.args.j 0
none c R told few = let k = byte c R told in none_bits R.facts (listed c R) (omega (arith, few))

left : (c : After-node_kind) {P : Plan} → Reads c P → {kind : NodeKind} → c.node_kind.result ≡ kind → 4 < byte_of kind → OperandBits P c.args.j c.one_bit-left.result
left c R told many =
    let k = byte c R told in
    left_bit R.facts (listed c R) (omega (arith, c.requires)) (rw (read c R).a_is at c.one_bit-left.ensures) (omega (arith, many))

both : (c : After-node_kind) {P : Plan} → Reads c P → {kind : NodeKind} → c.node_kind.result ≡ kind → 2 ≤ byte_of kind → byte_of kind ≤ 4
    → OperandBits P c.args.j (bit_or c.one_bit-left.result c.one_bit.result)
both c R told low high =
    let k = byte c R told in
    both_bits R.facts (listed c R) (omega (arith, c.requires)) (rw (read c R).a_is at c.one_bit-left.ensures) (rw (read c R).b_is at c.one_bit.ensures)
    (omega (arith, low)) (omega (arith, high))

pub returns-in-Supplied : goal.returns-in-Supplied
returns-in-Supplied c P R = none (goal.at.returns-in-Supplied c).After-node_kind R c.in-Supplied.is (omega arith)

pub returns-in-Equal : goal.returns-in-Equal
returns-in-Equal c P R = none (goal.at.returns-in-Equal c).After-node_kind R c.in-Equal.is (omega arith)

pub returns-in-Union : goal.returns-in-Union
returns-in-Union c P R = both (goal.at.returns-in-Union c).After-node_kind R c.in-Union.is (omega arith) (omega arith)

pub returns-in-Intersection : goal.returns-in-Intersection
returns-in-Intersection c P R = both (goal.at.returns-in-Intersection c).After-node_kind R c.in-Intersection.is (omega arith) (omega arith)

pub returns-in-Difference : goal.returns-in-Difference
returns-in-Difference c P R = both (goal.at.returns-in-Difference c).After-node_kind R c.in-Difference.is (omega arith) (omega arith)

pub returns-in-Image : goal.returns-in-Image
returns-in-Image c P R = left (goal.at.returns-in-Image c).After-node_kind R c.in-Image.is (omega arith)

pub returns-in-Preimage : goal.returns-in-Preimage
returns-in-Preimage c P R = left (goal.at.returns-in-Preimage c).After-node_kind R c.in-Preimage.is (omega arith)

pub returns-in-Unknown : goal.returns-in-Unknown
returns-in-Unknown c P R =
    let x = (goal.at.returns-in-Unknown c).After-node_kind in
    absurd (known_kind P (data_of []) R.facts _ (listed x R) (kind_is x R c.in-Unknown.is))
