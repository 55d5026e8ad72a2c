-- The line that is written is its parts, joined. Assumes nothing.
use Rattle.std.proofs.Common.{◌≡◌, refl}
use Rattle.listing.specs.Text.{piece_text}
use Rattle.listing.proofs.print_piece.Goals as goal

pub returns : goal.returns
unfolding piece_text
returns g c =
    let joined : c.as_slice.result.now ≡ piece_text c.args.number c.args.piece c.args.words.now c.args.first =
    rw (c.as_slice.ensures.value, c.append_byte-2.ensures.items, c.append_to.ensures.items, c.append_byte.ensures.items, c.append_spaced.ensures.items, c.append_number.ensures.items, c.new-line.ensures) refl
    in
    rw joined at c.write_all.ensures.bytes
