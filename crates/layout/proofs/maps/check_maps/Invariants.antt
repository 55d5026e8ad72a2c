-- Before each map, what is left to check decides the outcome (Scanning). Assumes nothing.
use Rattle.model.specs.Layout.{Plan, map_count}
use Rattle.model.specs.Declarations.{map_check}
use Rattle.primitives.proofs.Scanning.{Scanning}
use Rattle.layout.specs.Declarations.{MapDeclarations}
use Rattle.layout.proofs.maps.check_maps.Given as goal

abbrev pub invariant-loop-map : goal.invariant-loop-map
invariant-loop-map l = (P : Plan) → MapDeclarations P l.regions l.maps → Scanning (map_check P) (map_count P) l.map
