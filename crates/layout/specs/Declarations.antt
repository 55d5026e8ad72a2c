-- The plans that a reader of the sections which declare regions, maps and supplied partitions speaks of.
use Rattle.std.specs.Prelude.{◌≡◌}
use Rattle.model.specs.Bytes.{Bytes}
use Rattle.model.specs.Layout.{Plan}

module _ (P : Plan) where
  -- a plan of these regions and maps
  pub record MapDeclarations (regions maps : Bytes) : Type 0 where
    pub regions_are : P.regions ≡ regions
    pub maps_are : P.maps ≡ maps

  -- a plan of these regions and supplied partitions
  pub record SuppliedDeclarations (regions supplied : Bytes) : Type 0 where
    pub regions_are : P.regions ≡ regions
    pub supplied_are : P.supplied ≡ supplied
