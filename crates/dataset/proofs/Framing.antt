-- Sections within the bytes that the last one ends with, and small regions. Assumes nothing.
use Rattle.std.proofs.Common.{ℕ, zero, suc, ◌+◌, ◌*◌, ◌≤◌, ◌<◌, ◌≡◌, ◌≢◌, length, get_or, arith}
use native.Mathlib.Decide.{dec_le, dec_lt}
use Rattle.std.proofs.Math.ListN.{get_or-eq_default}
use Rattle.model.specs.Bytes.{Bytes, u16, boundary}
use Rattle.model.specs.DataSets.{data_of, pieces}
use Rattle.primitives.specs.Sections.{frame_of, Delimits}
use Rattle.primitives.proofs.Bodies.{boundary_next, frame_at, body_at, body_past}

-- what does not fall at a step does not fall
pub grows : (f : ℕ → ℕ) → ((k : ℕ) → f k ≤ f (suc k)) → (n m : ℕ) → n ≤ m → f n ≤ f m
grows f step n zero h = let e : n ≡ 0 = omega arith in rw e (omega arith)
grows f step n (suc m) h = go (grows f step n m) (dec_le n m)
  where
    go : (n ≤ m → f n ≤ f m) → Dec (n ≤ m) → f n ≤ f (suc m)
    go below (yes l) = omega (arith, below l, step m)
    go below (no l) = let e : n ≡ suc m = omega arith in rw e (omega arith)

pub boundary_grows : (d : Bytes) (n m : ℕ) → n ≤ m → boundary d n ≤ boundary d m
boundary_grows d = grows (boundary d) (λ k. omega (arith, boundary_next d k))

-- the sections of bytes that the last one ends with
pub sections_delimited : (d : Bytes) → length d ≡ boundary d 4 → Delimits 4 d (frame_of 4 d)
sections_delimited d e =
    record {
      few = omega arith;
      places = λ k l. frame_at d 4 k (omega arith) l;
      inside = λ k l. omega (arith, boundary_grows d k 4 l);
    }

-- a size is read as 0 where there is no region
pub small_sizes : (n : ℕ) (sizes : Bytes) → length sizes ≡ 2 * n → ((r : ℕ) → r < n → u16 sizes (2 * r) ≤ 512) → (region : ℕ) → u16 sizes (2 * region) ≤ 512
small_sizes n sizes long small region = go (dec_lt region n)
  where
    go : Dec (region < n) → u16 sizes (2 * region) ≤ 512
    go (yes l) = small region l
    go (no l) =
        omega (
          arith,
          get_or-eq_default sizes 0 {n = 2 * region} (omega arith),
          get_or-eq_default sizes 0 {n = 2 * region + 1} (omega arith),
        )

-- the number of pieces stands behind the edition and the first section's length
module _ (d : Bytes) where
  pub no_pieces : u16 d 1 ≡ 0 → pieces (data_of d) ≡ 0
  unfolding boundary
  no_pieces h = body_past d 0 0 (omega arith)

  pub pieces_read : u16 d 1 ≢ 0 → pieces (data_of d) ≡ get_or d 3 0
  unfolding boundary
  pieces_read h = body_at d 0 0 (omega arith)
