-- The loop takes the lowest member off the rest, until one has the entry. Assumes nothing.
use Rattle.provenance.proofs.LeastSources.{Left}
use Rattle.provenance.proofs.sources.least_in_word.Given as goal

abbrev pub invariant-loop-rest : goal.invariant-loop-rest
invariant-loop-rest l = Left l.members l.entries l.element l.rest

abbrev pub decreases-loop-rest : goal.decreases-loop-rest
decreases-loop-rest l = l.rest
