-- 20 digits are enough for a number of 64 bits. Assumes nothing.
use Rattle.std.proofs.Common.{arith}
use Rattle.listing.proofs.Lengths.{twenty_digits}
use Rattle.listing.proofs.line.append_number.Goals as goal

pub append-requires : goal.append-requires
append-requires c = omega (arith, c.requires, twenty_digits c.args.number c.ranges.number.fits)

pub returns-clause-few : goal.returns-clause-few
returns-clause-few c = omega (arith, c.append.ensures.len, twenty_digits c.args.number c.ranges.number.fits)
