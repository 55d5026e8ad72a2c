-- What data that fit a plan keep: the checks that passed, as statements about pieces, sizes, maps and supplied partitions. Assumes nothing.
use Prim.Native.Nat.{ℕ, suc, ◌+◌, ◌*◌, ◌≤◌, ◌<◌}
use mathlib.Core.Path.{◌≡◌, refl, sym, ◌∙◌}
use mathlib.Core.Logic.{◌⊎◌, inl, inr}
use native.Mathlib.Nat.{le_refl, suc-mul, mul-le-mul_right}
use native.Mathlib.Decide.{le_ind}
use native.Mathlib.Omega.{arith}
use lib.ListN.{length}
use Rattle.std.specs.Prelude.{Ok}
use Rattle.model.specs.Tests.{Is, non, ◌=?◌}
use Rattle.model.specs.Bytes.{Bytes, byte, boundary}
use Rattle.model.specs.Partitions.{equal_start, PairwiseDisjoint, Covering}
use Rattle.model.specs.Layout.{Plan, region_count, map_count, supplied_count, source, target, totality, supplied_region, supplied_flags}
use Rattle.model.specs.DataSets.{DataSet, data_of, NONE, pieces, size, entry_start, entry, low, past, maps_to, piece_bytes, member_start, supplied, entry_fits, well_framed, data_check}
use Rattle.model.proofs.Tests.{both, pair, split, fails, same, less, less!, most, most!, every_at, pick_true, pick-false}
use Rattle.model.proofs.Outcomes.{then_pass, require_pass}
use Rattle.model.proofs.DataAgrees.{frame_fits, entry_fits_lem, data_fits}
use Rattle.model.proofs.Partitions.{SingleValued, Total, Within, Starts, equal_starts}

-- the bytes of a data set: the edition, four sections inside, nothing after them
pub record DataLaidOut (d : Bytes) : Type 0 where
  pub edition : byte d 0 ≡ 1
  pub starts_inside : (n : ℕ) → n < 4 → boundary d n + 2 ≤ length d
  pub ends_inside : (n : ℕ) → n < 4 → boundary d (suc n) ≤ length d
  pub nothing_after : length d ≡ boundary d 4

pub record Fit (P : Plan) (D : DataSet) : Type 0 where
  pub some_piece : 1 ≤ pieces D
  pub few_pieces : pieces D ≤ 16
  pub few_elements : (r : ℕ) → r < region_count P → size D r ≤ 512
  pub count_length : length D.piece_count ≡ 1
  pub sizes_length : length D.sizes ≡ 2 * region_count P
  pub entries_length : length D.entries ≡ entry_start P D (map_count P)
  pub members-length : length D.members ≡ member_start P D (supplied_count P)
  -- equal
  pub starts : (r : ℕ) → Starts (pieces D) (size D r) (equal_start (pieces D) (size D r))
  -- maps
  pub sources : (m k e : ℕ) → Is (maps_to P D m k e) → k < size D (source P m)
  pub targets : (m : ℕ) → m < map_count P → (k e : ℕ) → Is (maps_to P D m k e) → e < size D (target P m)
  pub single_valued : (m : ℕ) → SingleValued (maps_to P D m)
  pub total : (m : ℕ) → m < map_count P → totality P m ≡ 1 → Total (size D (source P m)) (size D (target P m)) (maps_to P D m)
  -- supplied partitions
  pub supplied_within : (k : ℕ) → Within (pieces D) (size D (supplied_region P k)) (supplied P D k)
  pub supplied_disjoint_lem : (k : ℕ) → k < supplied_count P → (supplied_flags P k ≡ 1) ⊎ (supplied_flags P k ≡ 3) → PairwiseDisjoint (supplied P D k)
  pub supplied_complete_lem :
      (k : ℕ) → k < supplied_count P → (supplied_flags P k ≡ 2) ⊎ (supplied_flags P k ≡ 3) →
      Covering (pieces D) (size D (supplied_region P k)) (supplied P D k)

-- an entry is none, or leads to one element
module _ (P : Plan) (D : DataSet) (m k : ℕ) where
  maps_from : (e : ℕ) → Is (maps_to P D m k e) → (k < size D (source P m)) × Is (non (entry P D m k =? NONE)) × (e ≡ entry P D m k)
  unfolding maps_to low past
  maps_from e h =
      let (inside, range) = both h in
      let from = most (both range).0 in
      let up-to = less (both range).1 in
      elim (split (entry P D m k =? NONE)) [
        | inl none ↦ absurd (omega (arith, rw (pick_true _ _ _ none) at up-to))
        | inr some ↦ (less inside, some, omega (arith, rw (pick-false _ _ _ (fails some)) at up-to))
      ]

  maps_to_lem : k < size D (source P m) → Is (non (entry P D m k =? NONE)) → Is (maps_to P D m k (entry P D m k))
  unfolding maps_to low past
  maps_to_lem lt some =
      pair (less! lt) (pair (most! (le_refl _)) (less! (rw (pick-false _ _ _ (fails some)) (omega arith))))

  -- an entry that fits is none in a partial map only, or leads inside
  entry_inside : Is (entry_fits P D m k) → Is (non (entry P D m k =? NONE)) → entry P D m k < size D (target P m)
  unfolding entry_fits
  entry_inside fits some = less (rw (pick-false _ _ _ (fails some)) at fits)

  entry_some : Is (entry_fits P D m k) → totality P m ≡ 1 → Is (non (entry P D m k =? NONE))
  unfolding entry_fits
  entry_some fits total =
      elim (split (entry P D m k =? NONE)) [
        | inl none ↦ absurd (omega (arith, same (rw (pick_true _ _ _ none) at fits)))
        | inr some ↦ some
      ]

-- a supplied partition lies in its pieces and its region
module _ (P : Plan) (D : DataSet) (k : ℕ) where
  supplied_bits : Within (pieces D) (size D (supplied_region P k)) (supplied P D k)
  unfolding supplied
  supplied_bits i e h = (less (both h).0, less (both (both h).1).0)

module _ (P : Plan) (d : Bytes) where
  pub data_laid_out : data_check P d ≡ Ok tt → DataLaidOut d
  unfolding data_check well_framed
  data_laid_out h =
      let (some, h) = both (require_pass _ _ (then_pass _ _ h).0) in
      let (edition, h) = both h in
      let (sections, h) = both h in
      record {
        edition = same edition;
        starts_inside = λ n lt. most (both (every_at _ _ sections n lt)).0;
        ends_inside = λ n lt. most (both (every_at _ _ sections n lt)).1;
        nothing_after = same (both h).0;
      }

  pub fit : data_check P d ≡ Ok tt → Fit P (data_of d)
  unfolding well_framed
  fit h =
      let F = (data_fits P d).0 h in
      let (some, f) = both ((frame_fits P d).1 F.frame) in
      let (edition, f) = both f in
      let (sections, f) = both f in
      let (end, f) = both f in
      let (count_length, f) = both f in
      let (some_piece, f) = both f in
      let (few_pieces, f) = both f in
      let (sizes_length, f) = both f in
      let (few_elements, f) = both f in
      let D = data_of d in
      let fits : (m : ℕ) → m < map_count P → (k : ℕ) → k < size D (source P m) → Is (entry_fits P D m k) =
      λ m lm k lk. (entry_fits_lem P D m k).1 (F.entries m k lm lk) in
      record {
        some_piece = most some_piece;
        few_pieces = most few_pieces;
        few_elements = λ r lt. most (every_at _ _ few_elements r lt);
        count_length = same count_length;
        sizes_length = same sizes_length;
        entries_length = same (both f).0;
        members-length = same (both f).1;
        starts = λ r. equal_starts (pieces D) (size D r) (most some_piece);
        sources = λ m k e l. (maps_from P D m k e l).0;
        targets = λ m lt k e l.
            let r = maps_from P D m k e l in
            rw r.2 (entry_inside P D m k (fits m lt k r.0) r.1);
        single_valued = λ m k a b x y. (maps_from P D m k a x).2 ∙ sym (maps_from P D m k b y).2;
        total = λ m lt t k lk.
            let some = entry_some P D m k (fits m lt k lk) t in
            (entry P D m k, entry_inside P D m k (fits m lt k lk) some, maps_to_lem P D m k lk some);
        supplied_within = supplied_bits P D;
        supplied_disjoint_lem = λ k lt. (F.supplied k lt).disjoint;
        supplied_complete_lem = λ k lt. (F.supplied k lt).complete;
      }

-- the sums of g before m, and before n
sums_grow : (f g : ℕ → ℕ) → ((m : ℕ) → f (suc m) ≡ f m + g m) → (m n : ℕ) → m < n → f m + g m ≤ f n
sums_grow f g next m n lt =
    le_ind (λ n. f m + g m ≤ f n) (omega (arith, next m)) (λ n _ ih. omega (arith, next n)) n lt

module _ (P : Plan) (D : DataSet) (F : Fit P D) where
  -- a map's entries lie in their section
  pub entries_there : (m : ℕ) → m < map_count P → entry_start P D m + 2 * size D (source P m) ≤ length D.entries
  unfolding entry_start
  entries_there m lm =
      omega (arith, F.entries_length, sums_grow (entry_start P D) (λ m. 2 * size D (source P m)) (λ m. refl) m (map_count P) lm)

  -- both bytes of a map's entry, and each byte of a supplied partition's piece, are there
  pub entry_there : (m k : ℕ) → m < map_count P → k < size D (source P m) → entry_start P D m + 2 * k + 1 < length D.entries
  entry_there m k lm lk = omega (arith, entries_there m lm)

  pub member_there :
      (k i b : ℕ) → k < supplied_count P → i < pieces D → b < piece_bytes P D k →
      member_start P D k + i * piece_bytes P D k + b < length D.members
  unfolding member_start
  member_there k i b lk li lb =
      let w = piece_bytes P D k in
      let ends = sums_grow (member_start P D) (λ k. pieces D * piece_bytes P D k) (λ k. refl) k (supplied_count P) lk in
      omega (arith, F.members-length, suc-mul i w, mul-le-mul_right w li)
