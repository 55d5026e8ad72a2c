-- Word by word, until one has such an element. Assumes nothing.
use native.Mathlib.Omega.{arith}
use Rattle.provenance.proofs.LeastSources.{source_found, none_at_all}
use Rattle.provenance.proofs.sources.least_source.Goals as goal

pub returns-in-Some : goal.returns-in-Some
returns-in-Some c = source_found _ _ _ c.requires _ c.loop-w.invariant (omega (arith, c.div_ceil-w-end.ensures)) c.in-Some.ensures

pub returns : goal.returns
returns c = none_at_all _ _ _ _ c.loop-w.invariant (omega (arith, c.div_ceil-w-end.ensures))
