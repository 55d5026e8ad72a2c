-- A space, then the digits. Assumes nothing.
use mathlib.Core.List.{append_assoc}
use Rattle.listing.specs.Text.{spaced}
use Rattle.listing.proofs.line.append_spaced.Goals as goal

pub returns-clause-items : goal.returns-clause-items
unfolding spaced
returns-clause-items c = rw (c.append_number.ensures.items, c.append_byte.ensures.items) (simp append_assoc)
