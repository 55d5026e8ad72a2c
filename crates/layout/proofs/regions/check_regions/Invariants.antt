-- Before each region, what is left to check decides the outcome (Scanning). Assumes nothing.
use mathlib.Core.Path.{◌≡◌}
use Rattle.model.specs.Layout.{Plan, region_count}
use Rattle.model.specs.Declarations.{region_check}
use Rattle.primitives.proofs.Scanning.{Scanning}
use Rattle.layout.proofs.regions.check_regions.Given as goal

abbrev pub invariant-loop-region : goal.invariant-loop-region
invariant-loop-region l = (P : Plan) → P.regions ≡ l.regions → Scanning (region_check P) (region_count P) l.region
