-- The line that is written is its parts, joined. Assumes nothing.
use Rattle.std.proofs.Common.{◌≡◌, refl}
use Rattle.listing.specs.Text.{explained_text}
use Rattle.listing.proofs.print_length.Goals as goal

pub returns : goal.returns
unfolding explained_text
returns g c =
    let joined : c.as_slice.result.now ≡ explained_text c.args.pairs =
    rw (c.as_slice.ensures.value, c.append_byte.ensures.items, c.append_spaced.ensures.items, c.append.ensures.items, c.new-line.ensures) refl
    in
    rw joined at c.write_all.ensures.bytes
