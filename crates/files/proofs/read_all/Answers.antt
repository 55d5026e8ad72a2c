-- What is read stands behind what was read. Assumes nothing.
use Rattle.std.proofs.Common.{rules, ◌-◌, length, subst, sym}
use Rattle.std.specs.Io.KnownBytes.{Consumes}
use Rattle.files.proofs.Known.{then_read, start_grown}
use Rattle.files.proofs.read_all.Goals as goal

pub loop-end-preserved : goal.loop-end-preserved
loop-end-preserved g c =
    let l = c.loop-end in
    let n = c.in_ok-more.more in
    let room = length l.buffer - l.end in
    let grown = start_grown l.end room n l.buffer c.read.new.buf l.invariant.0 c.in_ok-more.ensures.bound.0 in
    (search rules, search rules, subst (Consumes _ _) (sym grown) (then_read _ _ _ _ _ l.invariant.2 c.in_ok-more.ensures.bytes.0))
