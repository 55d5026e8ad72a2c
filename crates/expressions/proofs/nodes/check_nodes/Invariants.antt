-- Before each node, the tables have the earlier ones, and what is left to check decides the outcome. Assumes nothing.
use mathlib.Core.Path.{◌≡◌}
use lib.ListN.{length}
use Rattle.model.specs.Layout.{Plan}
use Rattle.expressions.specs.Nodes.{NodeSources}
use Rattle.expressions.proofs.NodeLaws.{NodesPassed}
use Rattle.expressions.proofs.nodes.check_nodes.Given as goal

abbrev pub invariant-loop-j : goal.invariant-loop-j
invariant-loop-j l = record {
  regions_room : length l.tables.regions ≡ 48;
  keys_room : length l.tables.keys ≡ 48;
  passed : (P : Plan) → NodeSources P l.regions l.maps l.supplied l.nodes → NodesPassed P l.tables l.j;
}
