-- The line that is written is its parts, joined. Assumes nothing.
use Rattle.std.proofs.Common.{◌≡◌, refl}
use Rattle.listing.specs.Text.{pair_text}
use Rattle.listing.proofs.print_pair.Goals as goal

pub returns : goal.returns
unfolding pair_text
returns g c =
    let joined : c.as_slice.result.now ≡ pair_text c.args.node c.args.element =
    rw (c.as_slice.ensures.value, c.append_byte.ensures.items, c.append_spaced.ensures.items, c.append_number.ensures.items, c.new-line.ensures, c.from.ensures, c.from-2.ensures) refl
    in
    rw joined at c.write_all.ensures.bytes
