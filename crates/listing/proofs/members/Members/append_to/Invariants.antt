-- The members so far stand behind the line. Assumes nothing.
use Rattle.std.proofs.Common.{◌≡◌, ◌+◌, ◌*◌, ◌≤◌, ◌++◌}
use Rattle.arrayvec.specs.ArrayVec.{array_vec_len}
use Rattle.listing.specs.Text.{members_text}
use Rattle.listing.proofs.members.Members.append_to.Given as goal

abbrev pub invariant-loop-element : goal.invariant-loop-element
invariant-loop-element l =
    (l.line.items ≡ l.initial.line.items ++ members_text l.self.words.now l.self.first l.element)
    × (array_vec_len l.line ≤ array_vec_len l.initial.line + 4 * l.element)
