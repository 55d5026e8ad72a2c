-- Sections 1 to 3: the checks of regions, maps and supplied partitions.
use Rattle.std.specs.Prelude.{ℕ, ◌+◌, ◌*◌}
use Rattle.model.specs.Tests.{◌and◌, ◌<?◌, ◌≤?◌}
use Rattle.model.specs.Outcomes.{require, Outcome}
use Rattle.model.specs.Layout.{Plan, region_count, fields, source, target, totality, supplied_region, supplied_flags}
use Rattle.model.specs.declared.Refusal.TheVariants.{InvalidRecord}

module _ (P : Plan) where
  -- section 1: "number of fields, 1 to 8"
  unfoldable pub region_check : ℕ → Outcome
  region_check r = require (1 ≤? fields P r and fields P r ≤? 8) (InvalidRecord (1 * 256 + r))

  -- section 2: "source region, target region, 0 partial or 1 total"
  unfoldable pub map_check : ℕ → Outcome
  map_check m =
      require (source P m <? region_count P and target P m <? region_count P and totality P m ≤? 1) (InvalidRecord (2 * 256 + m))

  -- section 3: "region, flags"
  unfoldable pub supplied_check : ℕ → Outcome
  supplied_check k = require (supplied_region P k <? region_count P and supplied_flags P k ≤? 3) (InvalidRecord (3 * 256 + k))
