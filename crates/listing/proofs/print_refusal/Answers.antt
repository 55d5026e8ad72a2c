-- The line that is written is its parts, joined. Assumes nothing.
use Rattle.std.proofs.Common.{◌≡◌, refl}
use Rattle.model.specs.Answers.{refusal_report}
use Rattle.listing.specs.Text.{refused_text}
use Rattle.listing.proofs.print_refusal.Goals as goal

pub returns : goal.returns
unfolding refused_text
returns g c =
    let r = refusal_report c.args.refusal in
    let joined : c.as_slice.result.now ≡ refused_text r.number r.place =
    rw (c.as_slice.ensures.value, c.append_byte.ensures.items, c.append_spaced-2.ensures.items, c.append_spaced.ensures.items, c.append.ensures.items, c.new-line.ensures, c.number.ensures, c.place.ensures) refl
    in
    rw joined at c.write_all.ensures.bytes
