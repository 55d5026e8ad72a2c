-- Before each node, the tables have the earlier ones, and what is left to check decides the outcome. Assumes nothing.
use borrow.Author.Rules.{rules}
use Prim.Native.Nat.{◌<◌}
use native.Mathlib.Omega.{arith}
use Rattle.model.specs.Layout.{node_count}
use Rattle.primitives.proofs.Scanning.{scan_passes}
use Rattle.expressions.proofs.NodeLaws.{next_earlier}
use Rattle.expressions.proofs.nodes.check_nodes.Goals as goal

pub loop-j-preserved : goal.loop-j-preserved
loop-j-preserved c = record {
  regions_room = search rules;
  keys_room = search rules;
  passed = λ P is.
      let passed = c.loop-j.invariant.passed P is in
      let inside : c.loop-j.j < node_count P = rw is.nodes_are (omega arith) in
      let node = c.in_ok-node.ensures P (record { regions_are = is.regions_are; maps_are = is.maps_are; supplied_are = is.supplied_are }) is.nodes_are passed.earlier in
      record { earlier = next_earlier passed.earlier (omega arith) (omega arith) node; scanning = scan_passes passed.scanning inside node.passes };
}
