-- The numbers handed on are those of the partition's record and of the sizes; by columns is by sets. Assumes nothing.
use Rattle.std.proofs.Common.{ℕ, ◌-◌, ◌≡◌, List, length, take, drop, length-drop, rules, refl, sym, arith}
use Rattle.std.proofs.lemmas.List.{take_all}
use Rattle.model.specs.Tests.{◌=?◌, ◌or◌}
use Rattle.model.specs.DataSets.{size}
use Rattle.dataset.specs.Layout.{set_of}
use Rattle.dataset.proofs.Columns.{by_columns}
use Rattle.dataset.proofs.Starts.{members_inside}
use Rattle.dataset.proofs.supplied.partition_keeps_flags.Goals as goal

rest_of : (n : ℕ) (xs : List ℕ) → take (length xs - n) (drop n xs) ≡ drop n xs
rest_of n xs = take_all _ _ (omega (arith, length-drop n xs))

pub slice_bounds-pieces-start : goal.slice_bounds-pieces-start
slice_bounds-pieces-start c = search (rules, members_inside c.args.partition c.requires.ready c.requires.listed)

pub slice_bounds-pieces-count : goal.slice_bounds-pieces-count
slice_bounds-pieces-count c = search (rules, members_inside c.args.partition c.requires.ready c.requires.listed)

pub invariant_of-pieces : goal.invariant_of-pieces
unfolding size
invariant_of-pieces c =
    record {
      few_pieces = c.requires.ready.few_pieces;
      small_region = rw (c.region_size.ensures.0 (set_of c.args.layout.now) refl) (c.requires.ready.small_regions c.supplied_region.result);
    }

pub returns : goal.returns
unfolding ◌=?◌ ◌or◌
returns c =
    λ P D known placed.
    let is = known.supplied_are in
    rw (
      c.keep_flags.ensures,
      placed.begin c.args.partition (rw is c.requires.listed),
      rest_of,
      ← known.members_are,
      ← known.pieces_are,
      c.is_declared-2.ensures,
      c.is_declared.ensures,
      c.supplied_flags-flags.ensures.0 P is,
      c.region_size.ensures.0 D known.sizes_are,
      c.supplied_region.ensures.0 P is,
    )
    (sym (by_columns P D _))
