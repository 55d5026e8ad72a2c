-- The loop takes the lowest member off the rest, until one has the entry. Assumes nothing.
use mathlib.Core.Path.{sym, ◌∙◌}
use native.Mathlib.Omega.{arith}
use Rattle.bitsets.proofs.Zeros.{Lowest, lowest}
use Rattle.provenance.proofs.LeastSources.{all_left, least_found, others_left, none_left}
use Rattle.provenance.proofs.sources.least_in_word.Goals as goal
use Rattle.provenance.proofs.sources.least_in_word.Goals.{After-lowest-place}

-- the member that the loop takes
found : (c : After-lowest-place) → Lowest c.loop-rest.rest c.lowest-place.result
found c = lowest c.loop-rest.rest _ c.loop-rest.auto.rest-fits.fits c.loop-rest-test.true c.lowest-place.ensures

pub loop-rest-init : goal.loop-rest-init
loop-rest-init c = all_left _ _ _

pub u16_inside-requires : goal.u16_inside-requires
u16_inside-requires c =
    let n = found c in
    omega (arith, c.requires _ n.inside (c.loop-rest.invariant.inside _ n.member))

pub returns-then-from-element : goal.returns-then-from-element
returns-then-from-element c =
    let n = found (goal.at.returns-then-from-element c).After-lowest-place in
    least_found _ _ _ c.loop-rest.invariant n (sym c.u16_inside.ensures ∙ sym c.from.ensures ∙ c.if-from-element.true)

pub loop-rest-preserved : goal.loop-rest-preserved
loop-rest-preserved c =
    let n = found (goal.at.loop-rest-preserved c).After-lowest-place in
    others_left _ _ _ c.loop-rest.invariant n (λ e. c.if-from-element.false (c.from.ensures ∙ c.u16_inside.ensures ∙ e))

pub returns : goal.returns
returns c = none_left _ _ _ c.loop-rest.invariant c.loop-rest-test.false
