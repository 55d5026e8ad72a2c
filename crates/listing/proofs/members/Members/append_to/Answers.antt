-- One member more stands behind the line. Assumes nothing.
use Rattle.std.proofs.Common.{◌∙◌, sym, add-one, arith}
use mathlib.Core.List.{append_assoc, append-nil}
use Rattle.listing.specs.Text.{members_text}
use Rattle.listing.proofs.members.Members.append_to.Goals as goal

pub loop-element-init : goal.loop-element-init
unfolding members_text
loop-element-init c = (sym (append-nil _), omega arith)

pub loop-element-preserved : goal.loop-element-preserved
unfolding members_text
loop-element-preserved c =
    let l = c.loop-element in
    (rw (add-one l.element, c.append_member.ensures.items, l.invariant.0) (simp append_assoc), omega (arith, c.append_member.ensures.few, l.invariant.1))
