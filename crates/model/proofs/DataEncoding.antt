-- A data set's contents, written, are read back number by number and bit by bit; the written bytes are well framed octets with clear pad bits.
-- Assumes nothing.
use Prim.Native.Nat.{ℕ, zero, suc, ◌+◌, ◌-◌, ◌*◌, ◌/◌, ◌%◌, ◌≤◌, ◌<◌}
use mathlib.Core.Path.{◌≡◌, refl, sym, ap, ◌∙◌}
use mathlib.Core.Bool.{Bool, false}
use mathlib.Core.List.{List, [], ◌∷◌, map}
use native.Mathlib.Nat.{mul-le-mul, mul-le-mul_right}
use native.Mathlib.Omega.{arith}
use lib.ListN.{length, get_or, length-map, get_or-eq_default}
use Rattle.model.specs.Tests.{Is}
use Rattle.model.specs.Bytes.{Bytes, byte}
use Rattle.model.specs.Words.{bit, from_bits}
use Rattle.model.specs.Layout.{Plan, map_count, supplied_count, source, supplied_region}
use Rattle.model.specs.AcceptedPlans.{Limits}
use Rattle.model.specs.DataSets.{DataSet, data_of, pieces, size, entry_start, entry, piece_bytes, member_start, supplied_bit, pad_bits_clear, well_framed}
use Rattle.model.specs.Encoding.{concatenation, Octets, u16_bytes, cell, DataContents, member_bytes, partition_bytes, data_bodies, data_bytes, ContentsWithinLimits}
use Rattle.model.proofs.Tests.{failing, every_of, ◌also◌, at_each}
use Rattle.model.proofs.DataAgrees.{frame_fits}
use Rattle.model.proofs.Words.{bit_number, number_less}
use Rattle.model.proofs.Lists.{start, start_first, start_next, length-concatenation, within_list, length_of_widths, cell_at, length-tabulate, get_d_tabulate, each_tabulate, each_concatenation, each_mapped, get_d_map}
use Rattle.model.proofs.FrameEncoding.{frame_read, octets_u16, octets_framed}

-- numbers of two bytes each, one after the other
length_u16s : (numbers : List ℕ) → length (concatenation (map u16_bytes numbers)) ≡ 2 * length numbers
length_u16s [] = refl
length_u16s (n ∷ numbers) = omega (arith, length_u16s numbers)

u16_written :
    (numbers : List ℕ) (i at : ℕ) → at ≡ 2 * i →
    (byte (concatenation (map u16_bytes numbers)) at ≡ get_or numbers i 0 / 256)
    × (byte (concatenation (map u16_bytes numbers)) (at + 1) ≡ get_or numbers i 0 % 256)
u16_written [] i at e = (refl, refl)
u16_written (n ∷ numbers) zero at e = let here : at ≡ 0 = omega arith in rw here (refl, refl)
u16_written (n ∷ numbers) (suc i) at e =
    let high : at ≡ suc (suc (2 * i)) = omega arith in
    let low : at + 1 ≡ suc (suc (2 * i + 1)) = omega arith in
    rw (low, high) (u16_written numbers i (2 * i) refl)

u16_read :
    (numbers : List ℕ) (s : Bytes) → s ≡ concatenation (map u16_bytes numbers) → (i at : ℕ) → at ≡ 2 * i →
    (byte s at ≡ get_or numbers i 0 / 256) × (byte s (at + 1) ≡ get_or numbers i 0 % 256)
u16_read numbers s is i at e = rw is (u16_written numbers i at e)

-- a piece: "(n + 7) div 8 bytes"; element e's bit
length_members : (elements : List Bool) → length (member_bytes elements) ≡ (length elements + 7) / 8
length_members elements = length-tabulate ((length elements + 7) / 8) _

member_read :
    (elements : List Bool) (e : ℕ) → e / 8 < (length elements + 7) / 8 →
    bit (byte (member_bytes elements) (e / 8)) (7 - e % 8) ≡ get_or elements e false
member_read elements e lt =
    rw (get_d_tabulate ((length elements + 7) / 8) (λ q. from_bits 8 (λ b. get_or elements (q * 8 + (7 - b)) false)) (e / 8) 0 lt)
    (bit_number 8 (λ b. get_or elements (e / 8 * 8 + (7 - b)) false) (7 - e % 8) (omega arith)
    ∙ ap (λ (k : ℕ). get_or elements k false) (place e))
  where
    place : (e : ℕ) → e / 8 * 8 + (7 - (7 - e % 8)) ≡ e
    place e = omega arith

-- N, each size, each entry and each member is what was written, and pad bits are 0
pub record DataReadBack (P : Plan) (C : DataContents) (D : DataSet) : Type 0 where
  pub pieces_read : pieces D ≡ C.piece_count
  pub size_read : (r : ℕ) → size D r ≡ get_or C.sizes r 0
  pub entry_read : (m k : ℕ) → m < map_count P → k < size D (source P m) → entry P D m k ≡ cell C.entries m k
  pub member_bit_read :
      (k i e : ℕ) → k < supplied_count P → i < pieces D → e < size D (supplied_region P k) →
      supplied_bit P D k i e ≡ get_or (get_or (get_or C.members k []) i []) e false
  pub pad_bit_read :
      (k i e : ℕ) → k < supplied_count P → i < pieces D → size D (supplied_region P k) ≤ e → e < 8 * piece_bytes P D k →
      supplied_bit P D k i e ≡ false

-- contents within the limits, of a data set with their N and sizes
pub record Sized (P : Plan) (D : DataSet) (C : DataContents) : Type 0 where
  pub within : ContentsWithinLimits P C
  pub pieces_are : pieces D ≡ C.piece_count
  pub sizes_are : (r : ℕ) → size D r ≡ get_or C.sizes r 0

-- where the entries of a map and the pieces of a supplied partition stand
module _ {P : Plan} {D : DataSet} {C : DataContents} (S : Sized P D C) where
  pub entries_begin : (m : ℕ) → m ≤ map_count P → entry_start P D m ≡ 2 * start C.entries m
  unfolding entry_start
  entries_begin zero le = omega (arith, start_first C.entries)
  entries_begin (suc m) le =
      omega (arith, entries_begin m (omega arith), start_next C.entries m, S.within.entry_each m le, S.sizes_are (source P m))

  pub entries_end : entry_start P D (map_count P) ≡ 2 * length (concatenation C.entries)
  entries_end =
      omega (arith, entries_begin (map_count P) (omega arith), length-concatenation C.entries, ap (start C.entries) S.within.map_each)

  -- the pieces of a supplied partition are of one width
  pub piece_bytes_lem :
      (k i : ℕ) → k < supplied_count P → i < C.piece_count → (length (get_or (get_or C.members k []) i []) + 7) / 8 ≡ piece_bytes P D k
  unfolding piece_bytes
  piece_bytes_lem k i lk li =
      let same : length (get_or (get_or C.members k []) i []) ≡ size D (supplied_region P k) =
      S.within.element_each k i lk li ∙ sym (S.sizes_are (supplied_region P k)) in
      rw same (omega arith)

  piece_width :
      (k : ℕ) → k < supplied_count P → (i : ℕ) → i < length (map member_bytes (get_or C.members k [])) →
      length (get_or (map member_bytes (get_or C.members k [])) i []) ≡ piece_bytes P D k
  piece_width k lk i inside =
      let li : i < length (get_or C.members k []) = rw (length-map (get_or C.members k []) member_bytes) at inside in
      rw (get_d_map member_bytes (get_or C.members k []) i [] [] li)
      (length_members (get_or (get_or C.members k []) i []) ∙ piece_bytes_lem k i lk (rw (S.within.piece_each k lk) at li))

  partition_is : (k : ℕ) → k < supplied_count P → get_or (map partition_bytes C.members) k [] ≡ partition_bytes (get_or C.members k [])
  partition_is k lk = get_d_map partition_bytes C.members k [] [] (rw S.within.partition_each lk)

  pub partition_length : (k : ℕ) → k < supplied_count P → length (get_or (map partition_bytes C.members) k []) ≡ pieces D * piece_bytes P D k
  partition_length k lk =
      rw (partition_is k lk)
      (length_of_widths (piece_bytes P D k) (map member_bytes (get_or C.members k [])) (piece_width k lk)
      ∙ rw (length-map (get_or C.members k []) member_bytes, S.within.piece_each k lk, S.pieces_are))

  pub members_begin : (k : ℕ) → k ≤ supplied_count P → member_start P D k ≡ start (map partition_bytes C.members) k
  unfolding member_start
  members_begin zero le = omega (arith, start_first (map partition_bytes C.members))
  members_begin (suc k) le =
      omega (arith, members_begin k (omega arith), start_next (map partition_bytes C.members) k, partition_length k le)

  pub members_end : member_start P D (supplied_count P) ≡ length (concatenation (map partition_bytes C.members))
  members_end =
      members_begin (supplied_count P) (omega arith)
      ∙ sym (length-concatenation (map partition_bytes C.members)
      ∙ ap (start (map partition_bytes C.members)) (length-map C.members partition_bytes ∙ S.within.partition_each))

  -- byte q of piece i
  pub piece_byte :
      (k i q : ℕ) → k < supplied_count P → i < pieces D → q < piece_bytes P D k →
      get_or (get_or (map partition_bytes C.members) k []) (i * piece_bytes P D k + q) 0
      ≡ byte (member_bytes (get_or (get_or C.members k []) i [])) q
  piece_byte k i q lk li lq =
      let there : i < length (get_or C.members k []) = omega (arith, S.within.piece_each k lk, S.pieces_are) in
      ap (λ (s : Bytes). get_or s (i * piece_bytes P D k + q) 0) (partition_is k lk)
      ∙ cell_at (piece_bytes P D k) (map member_bytes (get_or C.members k [])) (piece_width k lk) i q _ 0 lq refl
      ∙ ap (λ (s : Bytes). get_or s q 0) (get_d_map member_bytes (get_or C.members k []) i [] [] there)

-- a data set whose sections hold these contents
record Holds (D : DataSet) (C : DataContents) : Type 0 where
  piece_count_lem : D.piece_count ≡ C.piece_count ∷ []
  sizes : D.sizes ≡ concatenation (map u16_bytes C.sizes)
  entries : D.entries ≡ concatenation (map u16_bytes (concatenation C.entries))
  members : D.members ≡ concatenation (map partition_bytes C.members)

sizes_held : (D : DataSet) (C : DataContents) → Holds D C → (r : ℕ) → size D r ≡ get_or C.sizes r 0
unfolding size
sizes_held D C H r = let (high, low) = u16_read C.sizes D.sizes H.sizes r (2 * r) (omega arith) in omega arith

module _ (P : Plan) (D : DataSet) (C : DataContents) (W : ContentsWithinLimits P C) (H : Holds D C) where
  sized : Sized P D C
  sized = record { within = W; pieces_are = rw H.piece_count_lem; sizes_are = sizes_held D C H }

  entries_read : (m k : ℕ) → m < map_count P → k < size D (source P m) → entry P D m k ≡ cell C.entries m k
  unfolding entry
  entries_read m k lm lk =
      let (high, low) =
      u16_read (concatenation C.entries) D.entries H.entries (start C.entries m + k) (entry_start P D m + 2 * k)
      (omega (arith, entries_begin sized m (omega arith))) in
      let written = within_list C.entries m k _ 0 (omega (arith, W.entry_each m lm, sized.sizes_are (source P m))) refl in
      omega arith

  -- each byte of a piece, and each of its bits
  member_byte :
      (k i q at : ℕ) → k < supplied_count P → i < pieces D → q < piece_bytes P D k → at ≡ member_start P D k + i * piece_bytes P D k + q →
      byte D.members at ≡ byte (member_bytes (get_or (get_or C.members k []) i [])) q
  member_byte k i q at lk li lq place =
      let inside : i * piece_bytes P D k + q < length (get_or (map partition_bytes C.members) k []) =
      omega (arith, partition_length sized k lk, mul-le-mul_right (piece_bytes P D k) li) in
      ap (λ (s : Bytes). get_or s at 0) H.members
      ∙ within_list (map partition_bytes C.members) k (i * piece_bytes P D k + q) at 0 inside
      (omega (arith, members_begin sized k (omega arith)))
      ∙ piece_byte sized k i q lk li lq

  bits_read :
      (k i e : ℕ) → k < supplied_count P → i < pieces D → e < 8 * piece_bytes P D k →
      supplied_bit P D k i e ≡ get_or (get_or (get_or C.members k []) i []) e false
  unfolding supplied_bit bit
  bits_read k i e lk li le =
      ap (λ (w : ℕ). bit w (7 - e % 8)) (member_byte k i (e / 8) _ lk li (omega arith) (omega arith))
      ∙ member_read (get_or (get_or C.members k []) i []) e (rw (piece_bytes_lem sized k i lk (rw sized.pieces_are at li)) (omega arith))

  read_back : DataReadBack P C D
  read_back =
      record {
        pieces_read = sized.pieces_are;
        size_read = sized.sizes_are;
        entry_read = entries_read;
        member_bit_read = λ k i e lk li le. bits_read k i e lk li (covers k e le);
        pad_bit_read = λ k i e lk li ge le.
            bits_read k i e lk li le
            ∙ get_or-eq_default (get_or (get_or C.members k []) i []) false
            (omega (arith, W.element_each k i lk (rw sized.pieces_are at li), sized.sizes_are (supplied_region P k)));
      }
    where
      covers : (k e : ℕ) → e < size D (supplied_region P k) → e < 8 * piece_bytes P D k
      covers k e le = unfold piece_bytes in omega arith

-- the bytes of contents within the limits
module _ (P : Plan) (edition : ℕ) (C : DataContents) (W : ContentsWithinLimits P C) where
  holds : Holds (data_of (data_bytes edition C)) C
  holds =
      let F = frame_read edition (data_bodies C) in
      record {
        piece_count_lem = F.body_is 0 (omega arith);
        sizes = F.body_is 1 (omega arith);
        entries = F.body_is 2 (omega arith);
        members = F.body_is 3 (omega arith);
      }

  pub data_read_back : DataReadBack P C (data_of (data_bytes edition C))
  data_read_back = read_back P (data_of (data_bytes edition C)) C W holds

  pub pad_bits_written : (k : ℕ) → k < supplied_count P → Is (pad_bits_clear P (data_of (data_bytes edition C)) k)
  unfolding pad_bits_clear
  pad_bits_written k lk =
      every_of _ _ (λ i li. every_of _ _ (λ b lb. failing (data_read_back.pad_bit_read k i _ lk li (omega arith) (omega arith))))

pub data_framed : (P : Plan) (C : DataContents) → ContentsWithinLimits P C → Is (well_framed P (data_bytes 1 C))
data_framed P C W =
    (frame_fits P (data_bytes 1 C)).1
    (record {
      some_byte = omega arith;
      edition = refl;
      sections_end = (frame_read 1 (data_bodies C)).ends_inside;
      nothing_after = (frame_read 1 (data_bodies C)).nothing_after;
      one_piece_count = ap (λ (s : Bytes). length s) H.piece_count_lem;
      piece_count_lem = (rw read.pieces_read W.some_piece, rw read.pieces_read W.few_pieces);
      size_each = ap (λ (s : Bytes). length s) H.sizes ∙ length_u16s C.sizes ∙ rw W.size_each;
      sizes = λ r lt. rw (read.size_read r) (W.sizes r);
      entry_each =
          ap (λ (s : Bytes). length s) H.entries ∙ length_u16s (concatenation C.entries)
          ∙ sym (entries_end (sized P (data_of (data_bytes 1 C)) C W H));
      member_bytes_lem = ap (λ (s : Bytes). length s) H.members ∙ sym (members_end (sized P (data_of (data_bytes 1 C)) C W H));
    })
  where
    H : Holds (data_of (data_bytes 1 C)) C
    H = holds P 1 C W

    read : DataReadBack P C (data_of (data_bytes 1 C))
    read = data_read_back P 1 C W

-- the written bytes are octets, for a plan within its limits
module _ (P : Plan) (L : Limits P) (C : DataContents) (W : ContentsWithinLimits P C) where
  few_entries : (m : ℕ) → m ≤ map_count P → start C.entries m ≤ m * 512
  few_entries zero le = omega (arith, start_first C.entries)
  few_entries (suc m) le =
      omega (arith, few_entries m (omega arith), start_next C.entries m, W.entry_each m le, W.sizes (source P m))

  few_members : (k : ℕ) → k ≤ supplied_count P → member_start P (data_of (data_bytes 1 C)) k ≤ k * 1024
  unfolding member_start piece_bytes
  few_members zero le = omega arith
  few_members (suc k) le =
      let read = data_read_back P 1 C W in
      let narrow : piece_bytes P (data_of (data_bytes 1 C)) k ≤ 64 =
      omega (arith, read.size_read (supplied_region P k), W.sizes (supplied_region P k)) in
      let few : pieces (data_of (data_bytes 1 C)) ≤ 16 = omega (arith, read.pieces_read, W.few_pieces) in
      omega (arith, few_members k (omega arith), mul-le-mul few narrow)

  pub data_octets : Octets (data_bytes 1 C)
  data_octets =
      octets_framed 1 (data_bodies C) (omega arith)
      (λ n lt. at_each (λ n. (length (get_or (data_bodies C) n []) < 65536) × Octets (get_or (data_bodies C) n [])) 0 4
      ((omega arith, count)
      also (omega (arith, length_u16s C.sizes, W.size_each, L.few_regions), u16s C.sizes (λ r. omega (arith, W.sizes r)))
      also (
        omega (
          arith,
          length_u16s (concatenation C.entries),
          length-concatenation C.entries,
          ap (start C.entries) W.map_each,
          few_entries (map_count P) (omega arith),
          L.few_maps,
        ),
        u16s (concatenation C.entries) (each_concatenation (λ n. n < 65536) 0 (omega arith) C.entries W.entries),
      )
      also (
        omega (
          arith,
          members_end (sized P (data_of (data_bytes 1 C)) C W (holds P 1 C W)),
          few_members (supplied_count P) (omega arith),
          L.few_supplied,
        ),
        each_mapped (λ n. n < 256) 0 (omega arith) partition_bytes C.members []
            (λ k lk. each_mapped (λ n. n < 256) 0 (omega arith) member_bytes (get_or C.members k []) []
            (λ i li. bits (get_or (get_or C.members k []) i []))),
      )
      also tt) n (omega arith) lt)
    where
      count : Octets (C.piece_count ∷ [])
      count zero = omega (arith, W.few_pieces)
      count (suc at) = omega arith

      bits : (elements : List Bool) → Octets (member_bytes elements)
      bits elements =
          each_tabulate (λ n. n < 256) 0 (omega arith) ((length elements + 7) / 8) (λ q. from_bits 8 (λ b. get_or elements (q * 8 + (7 - b)) false))
          (λ q lt. number_less 8 (λ b. get_or elements (q * 8 + (7 - b)) false))

      u16s : (numbers : List ℕ) → ((i : ℕ) → get_or numbers i 0 < 65536) → Octets (concatenation (map u16_bytes numbers))
      u16s numbers small =
          each_mapped (λ n. n < 256) 0 (omega arith) u16_bytes numbers 0 (λ m lt. octets_u16 (get_or numbers m 0) (small m))
