-- The element behind the line where the set holds it, else nothing. Assumes nothing.
use Rattle.std.proofs.Common.{sym, arith}
use mathlib.Core.List.{append-nil}
use Rattle.model.specs.Tests.{pick}
use Rattle.listing.specs.Text.{member_text}
use Rattle.listing.proofs.Lengths.{three_digits}
use Rattle.listing.proofs.members.Members.append_member.Goals as goal

pub returns-then-contains-clause-items : goal.returns-then-contains-clause-items
unfolding member_text pick
returns-then-contains-clause-items c = rw (sym c.contains.ensures, c.if-contains.true) c.append_spaced.ensures.items

pub returns-then-contains-clause-few : goal.returns-then-contains-clause-few
returns-then-contains-clause-few c = omega (arith, c.append_spaced.ensures.len, three_digits c.args.element c.requires.0)

pub returns-else-contains-clause-items : goal.returns-else-contains-clause-items
unfolding member_text pick
returns-else-contains-clause-items c = rw (sym c.contains.ensures, c.if-contains.false) (sym (append-nil _))
