-- A node's pieces, one after the other, and what each of them is. Assumes nothing.
use Prim.Native.Nat.{ℕ, ◌+◌, ◌-◌, ◌*◌, ◌/◌, ◌%◌, ◌≤◌, ◌<◌, min}
use mathlib.Core.Path.{◌≡◌, refl, sym, ap, ap₂, ◌∙◌}
use mathlib.Core.Bool.{Bool}
use mathlib.Core.List.{List, ◌++◌}
use native.Mathlib.Nat.{mul-le-mul_left, mul-le-mul_right}
use native.Mathlib.Decide.{ℕ_discrete, dec_lt}
use native.Mathlib.Omega.{arith}
use lib.ListN.{length, get_or, take, drop}
use Rattle.std.proofs.lemmas.List.{length-append, length-drop, length-take-le, get_or_append_left, get_or-append_right, get_or-take, get_or-drop}
use Rattle.model.specs.Tests.{◌and◌, ◌<?◌}
use Rattle.model.specs.Bytes.{u16}
use Rattle.model.specs.Partitions.{Partition}
use Rattle.model.specs.Words.{bit, holds, word, store}
use Rattle.model.proofs.Tests.{less}
use Rattle.model.proofs.Words.{word_same, word_element, store_length, store_same, store_pieces, store_inside, store_outside, is_store}
use Rattle.bitsets.specs.Elements.{up_to, word_at, PieceOf, combined, masked, supplied_elements, entries_of, leading_to, through}
use Rattle.subregions.specs.Operators.{TargetsTable, TargetsRoom, OperandSet, ImagePieceRoom, PreimagePieceRoom, PreimagePieceOf}
use Rattle.subregions.specs.Pieces.{piece_words, PiecesMade, supplied_pieces, combined_pieces, image_pieces, preimage_pieces, ImageRoom}
use Rattle.subregions.proofs.Maps.{supplied_from, entries_first, leading_at, leading_past, leading_none}

-- so many of a node's pieces written
pub record PiecesWritten (old : List ℕ) (partition : Partition) (N : ℕ) (new : List ℕ) (i : ℕ) : Type 0 where
  pub few : i ≤ N
  pub words_are : new ≡ store old 0 (i * 8) (piece_words partition)
  pub as_long : length new ≡ length old

own_word : (partition : Partition) (i k : ℕ) → k < 8 → word (partition i) k ≡ piece_words partition (i * 8 + k)
unfolding piece_words
own_word partition i k m =
    let piece : i ≡ (i * 8 + k) / 8 = omega arith in
    let eighth : k ≡ (i * 8 + k) % 8 = omega arith in
    ap₂ (λ (x y : ℕ). word (partition x) y) piece eighth

module _ {old : List ℕ} {partition : Partition} {N : ℕ} where
  pub pieces_none : PiecesWritten old partition N old 0
  unfolding store
  pieces_none = record { few = omega arith; words_are = refl; as_long = refl }

  -- a set stored, which is the partition's piece i
  pub set_next : {words new : List ℕ} {i : ℕ} {elements : ℕ → Bool} → PiecesWritten old partition N words i → i < N → new ≡ store words (i * 8) 8 (word elements)
      → ((e : ℕ) → e < 512 → elements e ≡ partition i e) → PiecesWritten old partition N new (i + 1)
  set_next {new} {i} {elements} written lt q same =
      let place : i * 8 ≡ 0 + i * 8 = omega arith in
      let more : i * 8 + 8 ≡ (i + 1) * 8 = omega arith in
      let value : (k : ℕ) → k < 8 → word elements k ≡ piece_words partition (i * 8 + k) =
      λ k m. word_same elements (partition i) k (λ b r. same (k * 64 + b) (omega arith)) ∙ own_word partition i k m in
      let all : new ≡ store old 0 ((i + 1) * 8) (piece_words partition) =
      q ∙ ap₂ (λ (list : List ℕ) (x : ℕ). store list x 8 (word elements)) written.words_are place
      ∙ store_same _ (0 + i * 8) 8 (word elements) (λ k. piece_words partition (i * 8 + k)) value
      ∙ store_pieces old 0 (i * 8) 8 (piece_words partition) ∙ ap (λ (n : ℕ). store old 0 n (piece_words partition)) more
      in
      record { few = omega arith; words_are = all; as_long = ap length all ∙ store_length old 0 ((i + 1) * 8) (piece_words partition) }

-- pieces made one after the other
module _ {made : ℕ → List ℕ → Type 0} {old : List ℕ} where
  pub made_more : {words new piece : List ℕ} {i : ℕ} → PiecesMade made old i words → i * 8 + 8 ≤ length old → made i piece → new ≡ store words (i * 8) 8 (word_at piece)
      → PiecesMade made old (i + 1) new
  made_more {words} {new} {piece} {i} h room it q =
      record {
        as_long = ap length q ∙ store_length words (i * 8) 8 (word_at piece) ∙ h.as_long;
        piece = λ k l. go k l (ℕ_discrete k i);
        rest = λ k m. read k ∙ store_outside words (i * 8) 8 (word_at piece) k (λ a b. omega arith) ∙ h.rest k (omega arith);
      }
    where
      read : (k : ℕ) → get_or new k 0 ≡ get_or (store words (i * 8) 8 (word_at piece)) k 0
      read k = ap (λ (list : List ℕ). get_or list k 0) q

      go : (k : ℕ) → k < i + 1 → Dec (k ≡ i) → (r : List ℕ) × made k r × ((w : ℕ) → w < 8 → get_or new (k * 8 + w) 0 ≡ word_at r w)
      go k l (yes e) = rw e (piece, it, λ w m. read (i * 8 + w) ∙ store_inside words (i * 8) 8 (word_at piece) w (omega (arith, h.as_long)) m)
      go k l (no d) =
          let before = h.piece k (omega arith) in
          (before.0, before.1, λ w m. read (k * 8 + w) ∙ store_outside words (i * 8) 8 (word_at piece) (k * 8 + w) (λ a b. d (omega arith)) ∙ before.2 w m)

  -- pieces of a partition
  pub pieces_stored : {partition : Partition} {N : ℕ} {new : List ℕ} → N * 8 ≤ length old → PiecesMade made old N new
      → ((i : ℕ) (r : List ℕ) → i < N → made i r → PieceOf (partition i) r) → new ≡ store old 0 (N * 8) (piece_words partition)
  unfolding piece_words
  pieces_stored {partition} {N} {new} room h are =
      is_store new old 0 (N * 8) (piece_words partition) h.as_long (omega arith)
      (λ k l.
      let it = h.piece (k / 8) (omega arith) in
      let place : 0 + k ≡ k / 8 * 8 + k % 8 = omega arith in
      ap (λ (x : ℕ). get_or new x 0) place ∙ it.2 (k % 8) (omega arith) ∙ (are (k / 8) it.0 (omega arith) it.1).word_is (k % 8) (omega arith))
      (λ k o. let past : (k < N * 8 → ⊥) = λ m. o (omega arith) (omega arith) in h.rest k (omega arith))

-- words cut at a place
module _ (old : List ℕ) (at : ℕ) {earlier : List ℕ} (front : earlier ≡ take at old) where
  -- those behind it stored
  pub stored_behind : {behind own : List ℕ} (n : ℕ) (value : ℕ → ℕ) → at + n ≤ length old → behind ≡ drop at old → own ≡ store behind 0 n value
      → earlier ++ own ≡ store old at n value
  stored_behind {behind} {own} n value room back q =
      is_store (earlier ++ own) old at n value
      (omega (arith, length-append earlier own, first, own_length, length-drop at old)) room
      (λ k l. let place : at + k - at ≡ 0 + k = omega arith in
      get_or-append_right earlier own at (at + k) 0 first (omega arith) ∙ ap (λ (x : ℕ). get_or own x 0) place ∙ read (0 + k)
      ∙ store_inside behind 0 n value k (omega (arith, ap length back, length-drop at old)) l)
      (λ i o. go i o (dec_lt i at))
    where
      first : length earlier ≡ at
      first = ap length front ∙ length-take-le at old (omega arith)

      own_length : length own ≡ length (drop at old)
      own_length = ap length q ∙ store_length behind 0 n value ∙ ap length back

      read : (k : ℕ) → get_or own k 0 ≡ get_or (store behind 0 n value) k 0
      read k = ap (λ (list : List ℕ). get_or list k 0) q

      go : (i : ℕ) → (at ≤ i → i < at + n → ⊥) → Dec (i < at) → get_or (earlier ++ own) i 0 ≡ get_or old i 0
      go i o (yes l) =
          get_or_append_left earlier own 0 i (omega (arith, first)) ∙ ap (λ (list : List ℕ). get_or list i 0) front ∙ get_or-take at old i 0 l
      go i o (no l) =
          let here : at + (i - at) ≡ i = omega arith in
          get_or-append_right earlier own at i 0 first (omega arith) ∙ read (i - at)
          ∙ store_outside behind 0 n value (i - at) (λ a b. o (omega arith) (omega arith)) ∙ ap (λ (list : List ℕ). get_or list (i - at) 0) back
          ∙ get_or-drop at old (i - at) 0 ∙ ap (λ (x : ℕ). get_or old x 0) here

  -- a piece before it
  pub holds_before : (a e : ℕ) → a + 8 ≤ at → e < 512 → holds earlier a e ≡ holds old a e
  unfolding holds
  holds_before a e before l =
      ap (λ (x : ℕ). bit x (e % 64)) (ap (λ (list : List ℕ). get_or list (a + e / 64) 0) front ∙ get_or-take at old (a + e / 64) 0 (omega arith))

-- a set whose words stand behind a place
pub holds_from : (words : List ℕ) (start : ℕ) {part : List ℕ} → part ≡ drop start words → (at e : ℕ) → holds part at e ≡ holds words (start + at) e
unfolding holds
holds_from words start cut at e =
    let place : start + (at + e / 64) ≡ start + at + e / 64 = omega arith in
    ap (λ (x : ℕ). bit x (e % 64))
    (ap (λ (list : List ℕ). get_or list (at + e / 64) 0) cut ∙ get_or-drop start words (at + e / 64) 0 ∙ ap (λ (x : ℕ). get_or words x 0) place)

-- a piece of the same elements
pub piece_same : {S T : ℕ → Bool} {piece : List ℕ} → PieceOf S piece → ((e : ℕ) → e < 512 → S e ≡ T e) → PieceOf T piece
piece_same {S} {T} made same =
    record { eight = made.eight; word_is = λ w l. made.word_is w l ∙ word_same S T w (λ b m. same (w * 64 + b) (omega arith)) }

-- a mask is the elements below a size
pub mask_holds : (size : ℕ) (masks : List ℕ) → PieceOf (up_to size) masks → (e : ℕ) → e < 512 → holds masks 0 e ≡ (e <? size)
unfolding holds up_to
mask_holds size masks m e h =
    let here : 0 + e / 64 ≡ e / 64 = omega arith in
    ap (λ (k : ℕ). bit (get_or masks k 0) (e % 64)) here ∙ ap (λ (x : ℕ). bit x (e % 64)) (m.word_is (e / 64) (omega arith))
    ∙ word_element (up_to size) e

-- within a mask
pub masked_is : (size : ℕ) (masks : List ℕ) → PieceOf (up_to size) masks → (S T : ℕ → Bool) (e : ℕ) → e < 512 → S e ≡ T e → masked masks S e ≡ (e <? size and T e)
unfolding masked
masked_is size masks m S T e h same = ap₂ ◌and◌ (mask_holds size masks m e h) same

-- a piece that is supplied
pub supplied_made : (members masks piece : List ℕ) (size bytes i : ℕ) → bytes ≡ (size + 7) / 8 → PieceOf (up_to size) masks
    → PieceOf (masked masks (supplied_elements (drop (i * bytes) members) 0)) piece → PieceOf (supplied_pieces members size i) piece
unfolding supplied_pieces
supplied_made members masks piece size bytes i whole m made =
    let begin : ℕ = i * ((size + 7) / 8) in
    let here : begin + 0 ≡ begin = omega arith in
    piece_same (rw whole at made)
    (λ e h. masked_is size masks m _ (supplied_elements members begin) e h (supplied_from members begin 0 e ∙ ap (λ (x : ℕ). supplied_elements members x e) here))

-- a piece combined from the operands'
pub combined_made : (left right : List ℕ) (combination : Bool → Bool → Bool) (size i : ℕ) {masks piece : List ℕ} → PieceOf (up_to size) masks
    → PieceOf (masked masks (combined combination (holds left (i * 8)) (holds right (i * 8)))) piece → PieceOf (combined_pieces left right combination size i) piece
unfolding combined_pieces
combined_made left right combination size i {masks} m made =
    let set : ℕ → Bool = combined combination (holds left (i * 8)) (holds right (i * 8)) in
    piece_same made (λ e h. masked_is size masks m set set e h refl)

-- the image of the operand's piece
pub image_made : (operand entries : List ℕ) (i : ℕ) {masks piece : List ℕ} {elements : ℕ} → elements ≤ 512 → PieceOf (up_to elements) masks
    → PieceOf (entries_of 512 entries 0 (masked masks (holds operand (i * 8)))) piece → PieceOf (image_pieces operand entries elements i) piece
unfolding image_pieces
image_made operand entries i {masks} few m made =
    let set : ℕ → Bool = holds operand (i * 8) in
    piece_same made (λ e h. entries_first _ _ _ _ _ _ few (λ k l. masked_is _ masks m set set k l refl) e)

-- its elements have entries
pub image_piece_room : {words operand entries masks : List ℕ} {elements N i : ℕ} → ImageRoom words operand entries elements N → PieceOf (up_to elements) masks
    → i < N → ImagePieceRoom operand entries masks (i * 8)
image_piece_room room m lt =
    record {
      room = omega (arith, room.operand_there);
      inside = λ k h t. let l = less (sym (mask_holds _ _ m k h) ∙ t) in omega (arith, room.entries_there);
    }

-- a map's entries lead through its table to the set
module _ (operand entries masks table set : List ℕ) (elements size at : ℕ) (small : size ≤ 512) (m : PieceOf (up_to size) masks)
    (t : TargetsTable entries elements table) (o : OperandSet operand masks at set) where
  pub through_is : (k : ℕ) → k < 512 → through table set k ≡ leading_to elements entries 0 size (holds operand at) k
  unfolding through
  through_is k l = go (dec_lt k elements)
    where
      entry : ℕ
      entry = u16 entries (0 + 2 * k)

      listed : k < elements → get_or table k 0 ≡ min entry 512
      listed h = let place : 2 * k ≡ 0 + 2 * k = omega arith in t.target_is k h ∙ ap (λ (x : ℕ). min (u16 entries x) 512) place

      leads : k < elements → Dec (entry < 512) → holds set 0 (get_or table k 0) ≡ leading_to elements entries 0 size (holds operand at) k
      leads h (yes q) =
          let there : get_or table k 0 ≡ entry = listed h ∙ omega arith in
          rw there (o.holds_is entry q ∙ masked_is size masks m _ (holds operand at) entry q refl ∙ leading_at elements entries 0 size (holds operand at) k entry h refl)
      leads h (no q) =
          let there : get_or table k 0 ≡ 512 = listed h ∙ omega arith in
          rw there (o.spare ∙ sym (leading_none elements entries 0 size (holds operand at) k (omega arith)))

      go : Dec (k < elements) → holds set 0 (get_or table k 0) ≡ leading_to elements entries 0 size (holds operand at) k
      go (yes h) = leads h (dec_lt entry 512)
      go (no h) = rw (t.rest k (omega arith) l) (o.spare ∙ sym (leading_past elements entries 0 size (holds operand at) k (omega arith)))

-- a table is asked for a set that has not element 512
pub preimage_piece_room : {words masks table set : List ℕ} {a count : ℕ} → TargetsRoom table count → OperandSet words masks a set → PreimagePieceRoom table set count
unfolding through
preimage_piece_room t o =
    record {
      small = t.small;
      few_elements = t.few_elements;
      past = λ k h l. rw (t.rest k h l) o.spare;
    }

-- the preimage of the operand's piece
pub preimage_made : (i : ℕ) {operand entries masks table piece : List ℕ} {elements size : ℕ} → size ≤ 512 → PieceOf (up_to size) masks → TargetsTable entries elements table
    → PreimagePieceOf operand masks table (i * 8) piece → PieceOf (preimage_pieces operand entries elements size i) piece
unfolding preimage_pieces
preimage_made i {operand} {entries} {masks} {table} {elements} {size} few m t made =
    piece_same made.places (through_is operand entries masks table made.set elements size (i * 8) few m t made.held)

-- a bound of a product
pub product : (a b x y : ℕ) → a ≤ x → b ≤ y → a * b ≤ x * y
product a b x y h k = omega (arith, mul-le-mul_right b h, mul-le-mul_left x k)
