-- Each part is as wide as the definition says. Assumes nothing.
use Rattle.std.proofs.Common.{◌≡◌, ◌*◌, ◌+◌, ◌/◌, length, refl, rules}
use Rattle.model.specs.Layout.{supplied_count, supplied_region}
use Rattle.model.specs.DataSets.{member_start, piece_bytes, size}
use Rattle.dataset.proofs.reading.place_members.Goals as goal

pub returns : goal.returns
unfolding member_start piece_bytes
returns c =
    λ P D known.
    let e : supplied_count P ≡ length c.args.supplied.now / 2 = rw known.supplied_are in
    rw e
    (c.place_parts.ensures (member_start P D) refl (λ part bytes lt read.
    let wide : bytes ≡ c.args.pieces * ((size D (supplied_region P part) + 7) / 8) = search (rules, known.supplied_are, known.sizes_are) in
    rw (wide, known.pieces_are)))
