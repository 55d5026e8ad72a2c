-- What each test says of the data set's frame, as plain statements (WellFramed). Assumes nothing.
use Rattle.std.proofs.Common.{ℕ, suc, ◌*◌, ◌/◌, ◌<◌, ◌≡◌, refl, ◌≤◌, List, [], ◌∷◌, sym, subst, ◌∙◌, length, get_or, arith}
use Rattle.model.specs.Bytes.{u16, body, boundary}
use Rattle.model.specs.Layout.{map_count, supplied_count}
use Rattle.model.specs.DataSets.{DataSet, data_of, size, entry_start, member_start}
use Rattle.model.proofs.Outcomes.{require_fails, required}
use Rattle.model.proofs.DataAgrees.{frame_fits}
use Rattle.primitives.specs.declared.sections.Frame.{Frame}
use Rattle.primitives.specs.Sections.{Delimits, frame_of}
use Rattle.primitives.proofs.Bodies.{fewer, frame_at, boundary_next}
use Rattle.dataset.proofs.Framing.{sections_delimited, small_sizes}
use Rattle.dataset.proofs.reading.read_layout.Goals as goal
use Rattle.dataset.proofs.reading.read_layout.Goals.{Else-data-frame}

-- the last place of the frame
last_place : (d : List ℕ) {frame : Frame} → frame ≡ frame_of 4 d → get_or frame.boundaries 4 0 ≡ boundary d 4
last_place d e = rw e (frame_at d 4 4 (omega arith) (omega arith))

-- the sections lie within the bytes
delimited : (c : Else-data-frame) → Delimits 4 c.args.«data».now c.read_frame-frame.result
delimited c = rw c.read_frame-frame.ensures (sections_delimited _ (c.if-data-frame.false ∙ last_place _ c.read_frame-frame.ensures))

-- a list of one
one_byte : (xs : List ℕ) → length xs ≡ 1 → get_or xs 0 0 ∷ [] ≡ xs
one_byte [] h = absurd (omega arith)
one_byte (x ∷ []) h = refl
one_byte (x ∷ y ∷ xs) h = absurd (omega arith)

pub returns-then-byte_at-ne1 : goal.returns-then-byte_at-ne1
returns-then-byte_at-ne1 c =
    λ P known.
    require_fails (λ h.
    let F = (frame_fits P c.args.«data».now).0 h in
    let edition : c.byte_at.result ≡ 1 = c.byte_at.ensures.0 ∙ F.edition in
    let whole : length c.args.«data».now ≡ get_or c.read_frame-frame.result.boundaries 4 0 = F.nothing_after ∙ sym (last_place _ c.read_frame-frame.ensures) in
    grind arith)

pub section_body-piece_count-requires : goal.section_body-piece_count-requires
section_body-piece_count-requires c = fewer (delimited c) (omega arith)

pub section_body-sizes-requires : goal.section_body-sizes-requires
section_body-sizes-requires c = fewer (delimited (goal.at.section_body-sizes-requires c).Else-data-frame) (omega arith)

pub section_body-entries-requires : goal.section_body-entries-requires
section_body-entries-requires c = fewer (delimited (goal.at.section_body-entries-requires c).Else-data-frame) (omega arith)

pub section_body-members-requires : goal.section_body-members-requires
section_body-members-requires c = delimited (goal.at.section_body-members-requires c).Else-data-frame

pub returns-then-piece_count-ne1 : goal.returns-then-piece_count-ne1
returns-then-piece_count-ne1 c =
    λ P known.
    require_fails (λ h.
    let F = (frame_fits P c.args.«data».now).0 h in
    let one : length c.section_body-piece_count.result.now ≡ 1 = rw c.section_body-piece_count.ensures F.one_piece_count in
    let some : 1 ≤ c.byte_at-pieces.result = rw (c.byte_at-pieces.ensures.0, c.section_body-piece_count.ensures) F.piece_count_lem.0 in
    let few : c.byte_at-pieces.result ≤ 16 = rw (c.byte_at-pieces.ensures.0, c.section_body-piece_count.ensures) F.piece_count_lem.1 in
    grind arith)

pub returns-then-sizes-regions : goal.returns-then-sizes-regions
unfolding size
returns-then-sizes-regions c =
    λ P known.
    require_fails (λ h.
    let F = (frame_fits P c.args.«data».now).0 h in
    let long = rw (← c.section_body-sizes.ensures, known.regions_are) at F.size_each in
    let small = rw (← c.section_body-sizes.ensures, known.regions_are) at F.sizes in
    let fits : length c.section_body-sizes.result.now ≡ 2 * length c.args.regions.now = long in
    let each : (r : ℕ) → r < length c.section_body-sizes.result.now / 2 → u16 c.section_body-sizes.result.now (2 * r) ≤ 512 = λ r lt. small r (omega (arith, long)) in
    grind arith)

pub returns-then-entries-entries_end : goal.returns-then-entries-entries_end
returns-then-entries-entries_end c =
    λ P known.
    require_fails (λ h.
    let d = c.args.«data».now in
    let F = (frame_fits P d).0 h in
    let sizes = sym c.section_body-sizes.ensures in
    let E = c.place_entries-entries_end.ensures P (data_of d) (record { maps_are = known.maps_are; sizes_are = sizes }) in
    let M = c.place_members-members_end.ensures P (data_of d) (record { supplied_are = known.supplied_are; pieces_are = sym (rw c.section_body-piece_count.ensures at c.byte_at-pieces.ensures.0); sizes_are = sizes }) in
    let entries : length c.section_body-entries.result.now ≡ c.place_entries-entries_end.result.1 = rw c.section_body-entries.ensures F.entry_each ∙ sym E.end_is in
    let members : length c.section_body-members.result.now ≡ c.place_members-members_end.result.1 = rw c.section_body-members.ensures F.member_bytes_lem ∙ sym M.end_is in
    grind arith)

pub returns : goal.returns
unfolding size
returns c =
    λ P known.
    let d = c.args.«data».now in
    let inside = delimited (goal.at.returns c).Else-data-frame in
    let sizes = c.section_body-sizes.ensures in
    let pieces_read = rw c.section_body-piece_count.ensures at c.byte_at-pieces.ensures.0 in
    let D : DataSet =
    record {
      piece_count = c.byte_at-pieces.result ∷ [];
      sizes = c.section_body-sizes.result.now;
      entries = c.section_body-entries.result.now;
      members = c.section_body-members.result.now;
    }
    in
    let counted : c.byte_at-pieces.result ∷ [] ≡ body d 0 =
    rw (c.byte_at-pieces.ensures.0, ← c.section_body-piece_count.ensures) (one_byte _ c.if-piece_count-ne1.false)
    in
    let parts : D ≡ data_of d = rw (counted, sizes, c.section_body-entries.ensures, c.section_body-members.ensures) in
    let E = c.place_entries-entries_end.ensures P D (record { maps_are = known.maps_are; sizes_are = refl }) in
    let M = c.place_members-members_end.ensures P D (record { supplied_are = known.supplied_are; pieces_are = refl; sizes_are = refl }) in
    let entries_end : length D.entries ≡ entry_start P D (map_count P) = c.if-entries-entries_end.false ∙ E.end_is in
    let members_end : length D.members ≡ member_start P D (supplied_count P) = c.if-members-members_end.false ∙ M.end_is in
    record {
      passes = required _ _ ((frame_fits P d).1 (record {
        some_byte = omega (arith, inside.inside 1 (omega arith), boundary_next d 0);
        edition = sym c.byte_at.ensures.0 ∙ c.if-byte_at-ne1.false;
        sections_end = λ n lt. inside.inside (suc n) lt;
        nothing_after = c.if-data-frame.false ∙ last_place _ c.read_frame-frame.ensures;
        one_piece_count = rw (← c.section_body-piece_count.ensures) c.if-piece_count-ne1.false;
        piece_count_lem = rw (← pieces_read) (c.if-pieces-lt1.false, c.if-pieces-gt-MOST_PIECES.false);
        size_each = rw (← sizes, known.regions_are) c.if-sizes-regions.false;
        sizes = rw (← sizes, known.regions_are) (λ r lt. c.sizes_fit.ensures.0 c.if-not-sizes_fit.false r (omega arith));
        entry_each = subst (λ (D : DataSet). length D.entries ≡ entry_start P D (map_count P)) parts entries_end;
        member_bytes_lem = subst (λ (D : DataSet). length D.members ≡ member_start P D (supplied_count P)) parts members_end;
      }));
      placed = record {
        parts = parts;
        entries = record { begin = E.begin; end_is = entries_end };
        members = record { begin = M.begin; end_is = members_end };
        few_pieces = c.if-pieces-gt-MOST_PIECES.false;
        small_regions = small_sizes (length c.args.regions.now) _ c.if-sizes-regions.false (λ r lt. c.sizes_fit.ensures.0 c.if-not-sizes_fit.false r (omega arith));
      };
    }
