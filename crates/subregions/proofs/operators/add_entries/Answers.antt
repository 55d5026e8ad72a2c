-- The loop takes the lowest member off the rest and adds its entry. Assumes nothing.
use Prim.Native.Nat.{ℕ, ◌-◌}
use mathlib.Core.Bool.{Bool}
use mathlib.Core.Path.{refl, sym, ap, ◌∙◌}
use native.Mathlib.Nat.{le_refl}
use lib.Bits.{and_le_l}
use native.Mathlib.Omega.{arith}
use Rattle.model.specs.Tests.{◌or◌, ◌=?◌}
use Rattle.model.proofs.Tests.{both}
use Rattle.subregions.proofs.Maps.{gathered, gathered_none, gathered_next, gathered_all, entry_cut}
use Rattle.subregions.proofs.Piece.{set_same, set_added}
use Rattle.bitsets.proofs.Zeros.{Lowest, lowest}
use Rattle.subregions.proofs.operators.add_entries.Goals as goal
use Rattle.subregions.proofs.operators.add_entries.Goals.{After-lowest}

-- the member that the loop takes
found : (c : After-lowest) → Lowest c.loop-rest.rest c.lowest.result
found c =
    let l = c.loop-rest in
    lowest l.rest _ (omega (arith, l.invariant.0, c.ranges.members.fits)) c.loop-rest-test.true c.lowest.ensures

pub loop-rest-init : goal.loop-rest-init
loop-rest-init c = (le_refl _, λ b t. t, λ elements h. set_same _ _ _ h (λ e l. gathered_none _ _ _ _ e))

pub overflow_add-start : goal.overflow_add-start
overflow_add-start c =
    let n = found c in
    omega (arith, c.requires.inside _ n.inside (c.loop-rest.invariant.1 _ n.member), c.well_formed)

-- its entry is there
pub target-requires : goal.target-requires
target-requires c =
    let n = found c in
    c.requires.inside _ n.inside (c.loop-rest.invariant.1 _ n.member)

pub loop-rest-preserved : goal.loop-rest-preserved
loop-rest-preserved c =
    let n = found (goal.at.loop-rest-preserved c).After-lowest in
    let l = c.loop-rest in
    let a = c.args in
    let leads = c.from-e.ensures ∙ c.target.ensures in (
      omega (arith, and_le_l l.rest (l.rest - 1), l.invariant.0),
      λ b t. l.invariant.1 b (both (sym (n.cleared b) ∙ t)).0,
      λ elements h. set_added _ _ _ _ (omega (arith, leads)) (l.invariant.2 elements h)
          (λ e m. ap (λ (v : ℕ). gathered a.entries.now a.start a.members elements l.rest e or e =? v) leads
          ∙ ap (λ (t : Bool). gathered a.entries.now a.start a.members elements l.rest e or t) (entry_cut _ e m)
          ∙ gathered_next a.entries.now a.start a.members elements l.rest _ _ _ n.inside n.member (l.invariant.1 _ n.member) refl n.cleared e),
    )

pub returns : goal.returns
returns c =
    λ elements h. set_same _ _ _ (c.loop-rest.invariant.2 elements h) (λ e l. gathered_all _ _ _ _ _ c.loop-rest-test.false e)
