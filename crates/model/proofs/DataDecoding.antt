-- Bytes that are well framed and have their pad bits clear are those of the contents that are read from them; so a data set is framed and
-- padded as it must be exactly where it is some contents within the limits, written. Assumes nothing.
use Prim.Native.Nat.{ℕ, zero, suc, ◌+◌, ◌-◌, ◌*◌, ◌/◌, ◌%◌, ◌≤◌, ◌<◌}
use mathlib.Core.Path.{◌≡◌, refl, sym, ap, ap₂, ◌∙◌}
use mathlib.Core.Logic.{◌↔◌}
use mathlib.Core.Bool.{false}
use mathlib.Core.List.{List, [], ◌∷◌, map}
use native.Mathlib.Nat.{div-lt_iff_lt-mul, mod-lt, div-add-mod'}
use native.Mathlib.Decide.{dec_lt}
use native.Mathlib.Omega.{arith}
use lib.ListN.{length, get_or, length-map, get_or-eq_default}
use lib.Seq.{ext_get_or}
use Rattle.model.specs.Tests.{Is}
use Rattle.model.specs.Bytes.{Bytes, byte, u16, body}
use Rattle.model.specs.Words.{bit, from_bits}
use Rattle.model.specs.Layout.{Plan, region_count, map_count, supplied_count, source, supplied_region}
use Rattle.model.specs.AcceptedPlans.{Limits}
use Rattle.model.specs.DataSets.{data_of, pieces, size, entry_start, entry, piece_bytes, member_start, supplied_bit, pad_bits_clear, well_framed}
use Rattle.model.specs.PlainData.{WellFramed}
use Rattle.model.specs.Encoding.{concatenation, tabulate, Octets, u16_bytes, framed_bytes, cell, DataContents, member_bytes, partition_bytes, data_bodies, data_bytes, ContentsWithinLimits}
use Rattle.model.proofs.Tests.{fails, every_at, ◌also◌, at_each}
use Rattle.model.proofs.DataAgrees.{frame_fits}
use Rattle.model.proofs.Words.{is_number}
use Rattle.model.proofs.Lists.{start, start_next, start_most, list_there, is_concatenation, length-tabulate, get_d_tabulate, each_tabulate}
use Rattle.model.proofs.FrameEncoding.{frame_written, octets_body}
use Rattle.model.proofs.DataEncoding.{Sized, entries_begin, entries_end, piece_bytes_lem, partition_length, members_begin, members_end, piece_byte, pad_bits_written, data_framed, data_octets}

-- bytes that are numbers of two bytes each
u16s_written :
    (numbers : List ℕ) (s : Bytes) → Octets s → length s ≡ 2 * length numbers →
    ((i : ℕ) → i < length numbers → u16 s (2 * i) ≡ get_or numbers i 0) → s ≡ concatenation (map u16_bytes numbers)
u16s_written [] s octets len each = ext_get_or 0 s [] len (λ i lt. absurd (omega arith))
u16s_written (n ∷ numbers) [] octets len each = absurd (omega arith)
u16s_written (n ∷ numbers) (a ∷ []) octets len each = absurd (omega arith)
u16s_written (n ∷ numbers) (a ∷ b ∷ s) octets len each =
    let first = each 0 (omega arith) in
    let low = octets 1 in
    let high : a ≡ n / 256 = omega arith in
    let rest : b ≡ n % 256 = omega arith in
    ap₂ (λ (x : ℕ) (t : Bytes). x ∷ t) high (ap₂ (λ (x : ℕ) (t : Bytes). x ∷ t) rest
    (u16s_written numbers s (λ at. octets (suc (suc at))) (omega arith) (λ i lt.
    let place : suc (suc (2 * i)) ≡ 2 * suc i = omega arith in
    let next : suc (suc (2 * i + 1)) ≡ 2 * suc i + 1 = omega arith in
    ap₂ (λ (x y : ℕ). byte (a ∷ b ∷ s) x * 256 + byte (a ∷ b ∷ s) y) place next ∙ each (suc i) (omega arith))))

same_bit : (s : Bytes) (at at' b b' : ℕ) → at ≡ at' → b ≡ b' → bit (byte s at) b ≡ bit (byte s at') b'
same_bit s at at' b b' e f = rw (e, f)

-- the contents that are read from a data set
contents : Plan → Bytes → DataContents
contents P d =
    let D = data_of d in
    record {
      piece_count = pieces D;
      sizes = tabulate (region_count P) (size D);
      entries = tabulate (map_count P) (λ m. tabulate (size D (source P m)) (entry P D m));
      members = tabulate (supplied_count P) (λ k. tabulate (pieces D) (λ i. tabulate (size D (supplied_region P k)) (supplied_bit P D k i)));
    }

module _
    (P : Plan) (d : Bytes) (octets : Octets d) (f : WellFramed P d)
    (clear : (k : ℕ) → k < supplied_count P → Is (pad_bits_clear P (data_of d) k))
  where
    -- behind the last region both are 0
    sizes_found : (r : ℕ) → size (data_of d) r ≡ get_or (contents P d).sizes r 0
    unfolding size contents
    sizes_found r = go (dec_lt r (region_count P))
      where
        go : Dec (r < region_count P) → size (data_of d) r ≡ get_or (tabulate (region_count P) (size (data_of d))) r 0
        go (yes here) = sym (get_d_tabulate (region_count P) (size (data_of d)) r 0 here)
        go (no past) =
            let high : byte (body d 1) (2 * r) ≡ 0 = get_or-eq_default (body d 1) 0 (omega (arith, f.size_each)) in
            let low : byte (body d 1) (2 * r + 1) ≡ 0 = get_or-eq_default (body d 1) 0 (omega (arith, f.size_each)) in
            let absent : get_or (tabulate (region_count P) (size (data_of d))) r 0 ≡ 0 =
            get_or-eq_default (tabulate (region_count P) (size (data_of d))) 0 (omega (arith, length-tabulate (region_count P) (size (data_of d)))) in
            omega arith

    -- a map's entries, a partition's pieces and a piece's elements
    entries_found : (m : ℕ) → m < map_count P → get_or (contents P d).entries m [] ≡ tabulate (size (data_of d) (source P m)) (entry P (data_of d) m)
    unfolding contents
    entries_found m lm = get_d_tabulate (map_count P) _ m [] lm

    pieces_found :
        (k : ℕ) → k < supplied_count P →
        get_or (contents P d).members k []
        ≡ tabulate (pieces (data_of d)) (λ i. tabulate (size (data_of d) (supplied_region P k)) (supplied_bit P (data_of d) k i))
    unfolding contents
    pieces_found k lk = get_d_tabulate (supplied_count P) _ k [] lk

    elements_found :
        (k i : ℕ) → k < supplied_count P → i < pieces (data_of d) →
        get_or (get_or (contents P d).members k []) i [] ≡ tabulate (size (data_of d) (supplied_region P k)) (supplied_bit P (data_of d) k i)
    elements_found k i lk li = rw (pieces_found k lk) (get_d_tabulate (pieces (data_of d)) _ i [] li)

    contents_within : ContentsWithinLimits P (contents P d)
    unfolding contents
    contents_within =
        record {
          some_piece = f.piece_count_lem.0;
          few_pieces = f.piece_count_lem.1;
          size_each = length-tabulate (region_count P) _;
          sizes = each_tabulate (λ n. n ≤ 512) 0 (omega arith) (region_count P) _ f.sizes;
          map_each = length-tabulate (map_count P) _;
          entry_each = λ m lm. rw (entries_found m lm) (length-tabulate (size (data_of d) (source P m)) _ ∙ sizes_found (source P m));
          entries = each_tabulate (λ list. (k : ℕ) → get_or list k 0 < 65536) [] (λ k. omega arith) (map_count P) _
              (λ m lm. each_tabulate (λ n. n < 65536) 0 (omega arith) (size (data_of d) (source P m)) _ (λ k lk. small m k));
          partition_each = length-tabulate (supplied_count P) _;
          piece_each = λ k lk. rw (pieces_found k lk) (length-tabulate (pieces (data_of d)) _);
          element_each = λ k i lk li.
              rw (elements_found k i lk li) (length-tabulate (size (data_of d) (supplied_region P k)) _ ∙ sizes_found (supplied_region P k));
        }
      where
        small : (m k : ℕ) → entry P (data_of d) m k < 65536
        small m k = unfold entry in
            omega (arith, octets_body d 2 octets (entry_start P (data_of d) m + 2 * k), octets_body d 2 octets (entry_start P (data_of d) m + 2 * k + 1))

    sized_found : Sized P (data_of d) (contents P d)
    unfolding contents
    sized_found = record { within = contents_within; pieces_are = refl; sizes_are = sizes_found }

    -- section by section, the bytes are the contents'
    count_body : body d 0 ≡ (contents P d).piece_count ∷ []
    unfolding contents
    count_body = ext_get_or 0 (body d 0) (pieces (data_of d) ∷ []) f.one_piece_count (λ i lt. only i (rw f.one_piece_count at lt))
      where
        only : (i : ℕ) → i < 1 → get_or (body d 0) i 0 ≡ get_or (pieces (data_of d) ∷ []) i 0
        only zero lt = refl
        only (suc i) lt = absurd (omega arith)

    sizes_body : body d 1 ≡ concatenation (map u16_bytes (contents P d).sizes)
    unfolding size
    sizes_body =
        u16s_written (contents P d).sizes (body d 1) (octets_body d 1 octets) (f.size_each ∙ rw contents_within.size_each)
        (λ i lt. omega (arith, sizes_found i))

    entries_listed :
        (m k n : ℕ) → n ≡ length (concatenation (contents P d).entries) → k < length (get_or (contents P d).entries m []) →
        get_or (tabulate n (λ i. u16 (body d 2) (2 * i))) (start (contents P d).entries m + k) 0 ≡ cell (contents P d).entries m k
    unfolding entry
    entries_listed m k n all inside =
        let listed = (contents P d).entries in
        let lm : m < map_count P = rw contents_within.map_each at (list_there listed m k inside) in
        let lk : k < size (data_of d) (source P m) = omega (arith, contents_within.entry_each m lm, sizes_found (source P m)) in
        let place : 2 * (start listed m + k) ≡ entry_start P (data_of d) m + 2 * k =
        omega (arith, entries_begin sized_found m (omega arith)) in
        get_d_tabulate n (λ i. u16 (body d 2) (2 * i)) (start listed m + k) 0 (omega (arith, start_next listed m, start_most listed (suc m)))
        ∙ ap (u16 (body d 2)) place
        ∙ sym (ap (λ (list : List ℕ). get_or list k 0) (entries_found m lm) ∙ get_d_tabulate (size (data_of d) (source P m)) (entry P (data_of d) m) k 0 lk)

    entries_body : body d 2 ≡ concatenation (map u16_bytes (concatenation (contents P d).entries))
    entries_body =
        u16s_written numbers (body d 2) (octets_body d 2 octets)
        (f.entry_each ∙ entries_end sized_found)
        (λ i lt. sym (get_d_tabulate (length numbers) (λ i. u16 (body d 2) (2 * i)) i 0 lt) ∙ ap (λ (list : List ℕ). get_or list i 0) all)
      where
        numbers : List ℕ
        numbers = concatenation (contents P d).entries

        all : tabulate (length numbers) (λ i. u16 (body d 2) (2 * i)) ≡ numbers
        all =
            is_concatenation (contents P d).entries (tabulate (length numbers) (λ i. u16 (body d 2) (2 * i))) 0
            (length-tabulate (length numbers) _) (λ m k inside. entries_listed m k (length numbers) refl inside)

    -- each bit of a piece is the element's; pad bits are 0
    bit_found :
        (k i e : ℕ) → k < supplied_count P → i < pieces (data_of d) → e < 8 * piece_bytes P (data_of d) k →
        supplied_bit P (data_of d) k i e ≡ get_or (get_or (get_or (contents P d).members k []) i []) e false
    unfolding pad_bits_clear
    bit_found k i e lk li le = rw (elements_found k i lk li) (go (dec_lt e (size (data_of d) (supplied_region P k))))
      where
        go : Dec (e < size (data_of d) (supplied_region P k)) →
            supplied_bit P (data_of d) k i e ≡ get_or (tabulate (size (data_of d) (supplied_region P k)) (supplied_bit P (data_of d) k i)) e false
        go (yes here) = sym (get_d_tabulate (size (data_of d) (supplied_region P k)) (supplied_bit P (data_of d) k i) e false here)
        go (no past) =
            let pad : size (data_of d) (supplied_region P k) + (e - size (data_of d) (supplied_region P k)) ≡ e = omega arith in
            (rw pad at
            (fails (every_at _ _ (every_at _ _ (clear k lk) i li) (e - size (data_of d) (supplied_region P k)) (omega arith))))
            ∙ sym (get_or-eq_default (tabulate (size (data_of d) (supplied_region P k)) (supplied_bit P (data_of d) k i)) false
            (omega (arith, length-tabulate (size (data_of d) (supplied_region P k)) (supplied_bit P (data_of d) k i))))

    byte_found :
        (k i q at : ℕ) → k < supplied_count P → i < pieces (data_of d) → q < piece_bytes P (data_of d) k →
        at ≡ member_start P (data_of d) k + i * piece_bytes P (data_of d) k + q →
        byte (body d 3) at ≡ byte (member_bytes (get_or (get_or (contents P d).members k []) i [])) q
    unfolding supplied_bit bit
    byte_found k i q at lk li lq place =
        let piece = get_or (get_or (contents P d).members k []) i [] in
        is_number 8 (byte (body d 3) at) (λ b. get_or piece (q * 8 + (7 - b)) false) (octets_body d 3 octets at)
        (λ b lb.
        let of-byte : (q * 8 + (7 - b)) / 8 ≡ q = omega arith in
        let of-bit : 7 - (q * 8 + (7 - b)) % 8 ≡ b = omega arith in
        let this : bit (byte (body d 3) at) b ≡ supplied_bit P (data_of d) k i (q * 8 + (7 - b)) =
        same_bit (body d 3) at _ b _ (omega arith) (omega arith) in
        this ∙ bit_found k i (q * 8 + (7 - b)) lk li (omega arith))
        ∙ sym (get_d_tabulate ((length piece + 7) / 8) (λ q. from_bits 8 (λ b. get_or piece (q * 8 + (7 - b)) false)) q 0
        (rw (piece_bytes_lem sized_found k i lk (rw sized_found.pieces_are at li)) lq))

    members-body : body d 3 ≡ concatenation (map partition_bytes (contents P d).members)
    members-body =
        is_concatenation (map partition_bytes (contents P d).members) (body d 3) 0 (f.member_bytes_lem ∙ members_end sized_found) at
      where
        positive : (a b j : ℕ) → j < a * b → 0 < b
        positive a zero j lt = absurd (omega arith)
        positive a (suc b) j lt = omega arith

        at : (k j : ℕ) → j < length (get_or (map partition_bytes (contents P d).members) k []) →
            get_or (body d 3) (start (map partition_bytes (contents P d).members) k + j) 0
            ≡ get_or (get_or (map partition_bytes (contents P d).members) k []) j 0
        at k j inside =
            let lk : k < supplied_count P =
            rw (length-map (contents P d).members partition_bytes, contents_within.partition_each) at
            (list_there (map partition_bytes (contents P d).members) k j inside) in
            let w = piece_bytes P (data_of d) k in
            let lj : j < pieces (data_of d) * w = rw (partition_length sized_found k lk) at inside in
            let some : 0 < w = positive (pieces (data_of d)) w j lj in
            let li : j / w < pieces (data_of d) = (div-lt_iff_lt-mul some).1 lj in
            let lq : j % w < w = mod-lt j some in
            let whole : j / w * w + j % w ≡ j = div-add-mod' j w in
            byte_found k (j / w) (j % w) _ lk li lq (omega (arith, members_begin sized_found k (omega arith)))
            ∙ sym (piece_byte sized_found k (j / w) (j % w) lk li lq)
            ∙ ap (λ (x : ℕ). get_or (get_or (map partition_bytes (contents P d).members) k []) x 0) whole

    data_found : d ≡ data_bytes 1 (contents P d)
    data_found =
        frame_written d (data_bodies (contents P d)) octets
        (record {
          some_byte = f.some_byte;
          ends_inside = f.sections_end;
          nothing_after = f.nothing_after;
          body_is = λ n lt. at_each (λ n. body d n ≡ get_or (data_bodies (contents P d)) n []) 0 4
              (count_body also sizes_body also entries_body also members-body also tt) n (omega arith) lt;
        })
        ∙ ap (λ (e : ℕ). framed_bytes e (data_bodies (contents P d))) f.edition

-- well-framed bytes with clear pad bits are some contents, written, for any plan
pub data_decoded :
    (P : Plan) (d : Bytes) → Octets d → Is (well_framed P d) → ((k : ℕ) → k < supplied_count P → Is (pad_bits_clear P (data_of d) k)) →
    (C : DataContents) × ContentsWithinLimits P C × (d ≡ data_bytes 1 C)
data_decoded P d octets framed clear =
    let f = (frame_fits P d).0 framed in (contents P d, contents_within P d octets f clear, data_found P d octets f clear)

-- and for a plan within its limits, exactly those bytes are
pub data_written :
    (P : Plan) → Limits P → (d : Bytes) →
    (Octets d × Is (well_framed P d) × ((k : ℕ) → k < supplied_count P → Is (pad_bits_clear P (data_of d) k)))
    ↔ ((C : DataContents) × ContentsWithinLimits P C × (d ≡ data_bytes 1 C))
data_written P L d = (
  λ (octets, framed, clear). data_decoded P d octets framed clear,
  λ (C, W, is). (rw is (data_octets P L C W), rw is (data_framed P C W), rw is (pad_bits_written P 1 C W)),
)
