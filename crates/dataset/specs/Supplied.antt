-- The check of the supplied partitions of a data set.
use Rattle.std.specs.Prelude.{ℕ, ◌/◌, ◌≤◌, ◌≡◌, length}
use Rattle.model.specs.Bytes.{Bytes}
use Rattle.model.specs.Outcomes.{require, scan, Outcome}
use Rattle.model.specs.Layout.{Plan, supplied_count}
use Rattle.model.specs.DataSets.{DataSet, pieces, declarations_hold}
use Rattle.model.specs.declared.Refusal.TheVariants.{InvalidPartition}
use Rattle.dataset.specs.declared.layout.DataLayout.{DataLayout}
use Rattle.dataset.specs.Layout.{set_of, SmallRegions, MembersPlaced}

module _ (P : Plan) (D : DataSet) where
  abbrev pub partition_check : ℕ → Outcome
  partition_check k = require (declarations_hold P D k) (InvalidPartition k)

  -- refusal 14 of a data set
  abbrev pub all_supplied : Outcome
  all_supplied = scan partition_check 0 (supplied_count P)

-- a plan of these supplied partitions, and a data set of the layout's pieces, sizes and members, whatever else it has
pub record SuppliedSources (P : Plan) (D : DataSet) (supplied : Bytes) (layout : DataLayout) : Type 0 where
  pub supplied_are : P.supplied ≡ supplied
  pub pieces_are : pieces D ≡ layout.pieces
  pub sizes_are : D.sizes ≡ layout.sizes.now
  pub members_are : D.members ≡ layout.members.now

-- the members of all supplied partitions can be read: they lie in their section, where the layout says
pub record SuppliedReady (supplied : Bytes) (layout : DataLayout) : Type 0 where
  pub few_supplied : length supplied / 2 ≤ 8
  pub plan : Plan
  pub supplied_are : plan.supplied ≡ supplied
  pub placed : MembersPlaced plan (set_of layout) layout
  pub few_pieces : layout.pieces ≤ 16
  pub small_regions : SmallRegions layout
