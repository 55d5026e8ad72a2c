-- The line that is written is its parts, joined. Assumes nothing.
use Rattle.std.proofs.Common.{◌≡◌, refl}
use Rattle.listing.specs.Text.{numbers_text}
use Rattle.listing.proofs.print_numbers.Goals as goal

pub returns : goal.returns
unfolding numbers_text
returns g c =
    let joined : c.as_slice.result.now ≡ numbers_text c.args.word.now c.args.first c.args.second c.args.third =
    rw (c.as_slice.ensures.value, c.append_byte.ensures.items, c.append_spaced-3.ensures.items, c.append_spaced-2.ensures.items, c.append_spaced.ensures.items, c.append.ensures.items, c.new-line.ensures) refl
    in
    rw joined at c.write_all.ensures.bytes
