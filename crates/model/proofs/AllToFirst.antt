-- For every plan a data set that fits it, in which every region has two elements and every pointer leads to the first: what a loop can
-- disturb, it disturbs there. Assumes nothing.
use Prim.Native.Nat.{ℕ, zero, suc, ◌<◌, ◌≤◌}
use mathlib.Core.Path.{◌≡◌, refl, sym, ◌∙◌}
use mathlib.Core.Logic.{inr}
use mathlib.Core.Bool.{true, false}
use mathlib.Core.List.{[], ◌∷◌}
use native.Mathlib.Omega.{arith}
use lib.ListN.{get_or}
use Rattle.model.specs.Tests.{Is}
use Rattle.model.specs.Bytes.{Bytes}
use Rattle.model.specs.Layout.{Plan, region_count, map_count, supplied_count, source, target, supplied_region}
use Rattle.model.specs.AcceptedPlans.{Limits}
use Rattle.model.specs.DataSets.{DataSet, data_of, size, entry, supplied_bit, supplied}
use Rattle.model.specs.PlainData.{WellFramed, DeclarationsHold, Fits}
use Rattle.model.specs.Encoding.{tabulate, Octets, DataContents, data_bytes, ContentsWithinLimits}
use Rattle.model.proofs.Tests.{falsum, both, pair, less, less! }
use Rattle.model.proofs.Lists.{length-tabulate, get_d_tabulate, each_tabulate}
use Rattle.model.proofs.DataAgrees.{frame_fits}
use Rattle.model.proofs.DataEncoding.{DataReadBack, data_read_back, data_framed, data_octets}

-- maps and supplied partitions are of regions that there are
pub record RegionsListed (P : Plan) : Type 0 where
  pub sources : (m : ℕ) → m < map_count P → source P m < region_count P
  pub targets : (m : ℕ) → m < map_count P → target P m < region_count P
  pub supplied_regions : (k : ℕ) → k < supplied_count P → supplied_region P k < region_count P

-- one piece; two elements of each region; each entry is element 0; each supplied partition has all elements in its piece
abbrev pub all_to_first : Plan → DataContents
all_to_first P =
    record {
      piece_count = 1;
      sizes = tabulate (region_count P) (λ r. 2);
      entries = tabulate (map_count P) (λ m. 0 ∷ 0 ∷ []);
      members = tabulate (supplied_count P) (λ k. (true ∷ true ∷ []) ∷ []);
    }

unfoldable pub all_to_first_data : Plan → Bytes
all_to_first_data P = data_bytes 1 (all_to_first P)

-- what is known of such a data set
pub record AllToFirst (P : Plan) (D : DataSet) : Type 0 where
  pub two_elements : (r : ℕ) → r < region_count P → size D r ≡ 2
  pub first_entry : (m k : ℕ) → m < map_count P → k < 2 → entry P D m k ≡ 0

module _ (P : Plan) (R : RegionsListed P) where
  two_each : (r : ℕ) → r < region_count P → get_or (all_to_first P).sizes r 0 ≡ 2
  two_each r lt = get_d_tabulate (region_count P) _ r 0 lt

  map_entries : (m : ℕ) → m < map_count P → get_or (all_to_first P).entries m [] ≡ 0 ∷ 0 ∷ []
  map_entries m lt = get_d_tabulate (map_count P) _ m [] lt

  one_piece : (k : ℕ) → k < supplied_count P → get_or (all_to_first P).members k [] ≡ (true ∷ true ∷ []) ∷ []
  one_piece k lt = get_d_tabulate (supplied_count P) _ k [] lt

  zeros : (k : ℕ) → get_or {A = ℕ} (0 ∷ 0 ∷ []) k 0 ≡ 0
  zeros zero = refl
  zeros (suc zero) = refl
  zeros (suc (suc k)) = refl

  -- these contents suit the plan, so what is written is read back
  within : ContentsWithinLimits P (all_to_first P)
  within =
      record {
        some_piece = omega arith;
        few_pieces = omega arith;
        size_each = length-tabulate (region_count P) _;
        sizes = each_tabulate (λ n. n ≤ 512) 0 (omega arith) (region_count P) _ (λ r lt. omega arith);
        map_each = length-tabulate (map_count P) _;
        entry_each = λ m lt. rw (map_entries m lt, two_each (source P m) (R.sources m lt)) refl;
        entries = each_tabulate (λ list. (k : ℕ) → get_or list k 0 < 65536) [] (λ k. omega arith) (map_count P) _ (λ m lt k. omega (arith, zeros k));
        partition_each = length-tabulate (supplied_count P) _;
        piece_each = λ k lt. rw (one_piece k lt) refl;
        element_each = λ k i lk li.
            let first : i ≡ 0 = omega arith in
            rw (one_piece k lk, two_each (supplied_region P k) (R.supplied_regions k lk), first) refl;
      }

  read : DataReadBack P (all_to_first P) (data_of (all_to_first_data P))
  unfolding all_to_first_data
  read = data_read_back P 1 (all_to_first P) within

  pub all_to_first_lem : AllToFirst P (data_of (all_to_first_data P))
  all_to_first_lem =
      record {
        two_elements = λ r lt. read.size_read r ∙ two_each r lt;
        first_entry = λ m k lm lk.
            read.entry_read m k lm (omega (arith, read.size_read (source P m), two_each (source P m) (R.sources m lm)))
            ∙ rw (map_entries m lm) (zeros k);
      }

  -- what is declared of the supplied partitions is so
  supplied_hold : (k : ℕ) → k < supplied_count P → DeclarationsHold P (data_of (all_to_first_data P)) k
  unfolding supplied
  supplied_hold k lk =
      record {
        disjoint = λ flags i j e a b. let li = less (both a).0 in let lj = less (both b).0 in omega (arith, read.pieces_read);
        complete = λ flags e le. (0, omega (arith, read.pieces_read), pair (less! (omega (arith, read.pieces_read))) (pair (less! le) (held e le)));
        pad_bits = λ i e li le lt h. falsum (sym (read.pad_bit_read k i e lk li le lt) ∙ h);
      }
    where
      two : (e : ℕ) → e < 2 → get_or (true ∷ true ∷ []) e false ≡ true
      two zero lt = refl
      two (suc zero) lt = refl
      two (suc (suc e)) lt = absurd (omega arith)

      held : (e : ℕ) → e < size (data_of (all_to_first_data P)) (supplied_region P k) → Is (supplied_bit P (data_of (all_to_first_data P)) k 0 e)
      held e le =
          read.member_bit_read k 0 e lk (omega (arith, read.pieces_read)) le
          ∙ rw (one_piece k lk) (two e (omega (arith, all_to_first_lem.two_elements (supplied_region P k) (R.supplied_regions k lk))))

  -- for a plan within the limits the data set is bytes
  pub all_to_first_octets : Limits P → Octets (all_to_first_data P)
  unfolding all_to_first_data
  all_to_first_octets L = data_octets P L (all_to_first P) within

  -- it is framed as it must be, and fits
  framed : WellFramed P (all_to_first_data P)
  unfolding all_to_first_data
  framed = (frame_fits P (all_to_first_data P)).0 (data_framed P (all_to_first P) within)

  pub all_to_first_fits : Fits P (all_to_first_data P)
  all_to_first_fits =
      record {
        frame = framed;
        entries = λ m k lm lk.
            let first = all_to_first_lem.first_entry m k lm (omega (arith, all_to_first_lem.two_elements (source P m) (R.sources m lm))) in
            inr (omega arith, omega (arith, all_to_first_lem.two_elements (target P m) (R.targets m lm)));
        supplied = supplied_hold;
      }
