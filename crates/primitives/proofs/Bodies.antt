-- The places after the first sections, as a loop stores them, and the bodies between them. Assumes nothing.
use Prim.Native.Nat.{ℕ, zero, suc, ◌+◌, ◌-◌, ◌*◌, ◌≤◌, ◌<◌}
use mathlib.Core.Path.{◌≡◌, refl, sym}
use mathlib.Core.List.{List}
use native.Mathlib.Nat.{zero-add}
use native.Mathlib.Numerals.{add-one}
use native.Mathlib.Omega.{arith}
use lib.ListN.{get_or, set, replicate, take, drop, length-take, get_or-eq_default}
use lib.Seq.{get_or-take, get_or-drop}
use Rattle.model.specs.Bytes.{Bytes, u16, part, boundary, body}
use Rattle.model.specs.Words.{store}
use Rattle.model.proofs.Words.{store_inside}
use Rattle.primitives.specs.declared.sections.Frame.{Frame}
use Rattle.primitives.specs.Sections.{frame_of, Delimits}

-- after n sections the places so far stand in the table, and the last one is in hand
pub record Located (s : Bytes) (boundaries : List ℕ) (at n : ℕ) : Type 0 where
  pub stored : boundaries ≡ store (replicate 9 0) 0 (suc n) (boundary s)
  pub place : at ≡ boundary s n

module _ (s : Bytes) where
  pub boundary_next : (n : ℕ) → boundary s (suc n) ≡ boundary s n + 2 + u16 s (boundary s n)
  unfolding boundary
  boundary_next n = refl

  pub located_start : Located s (set (replicate 9 0) 0 1) 1 0
  unfolding store boundary
  located_start = record { stored = refl; place = refl }

  module _ {boundaries : List ℕ} {at n : ℕ} (past : Located s boundaries at n) {size : ℕ} (read : size ≡ u16 s at) where
    pub next_place : at + 2 + size ≡ boundary s (suc n)
    next_place = rw (read, past.place) (sym (boundary_next n))

    pub located_next : Located s (set boundaries (n + 1) (at + 2 + size)) (at + 2 + size) (n + 1)
    unfolding store
    located_next =
        record {
          stored = rw (add-one n, next_place, past.stored, zero-add (suc n));
          place = rw (add-one n) next_place;
        }

  -- how far a place is at most
  pub boundary_most : ((i : ℕ) → get_or s i 0 < 256) → (n : ℕ) → boundary s n ≤ 1 + n * 65537
  unfolding boundary
  boundary_most bytes zero = omega arith
  boundary_most bytes (suc n) =
      omega (arith, boundary_most bytes n, bytes (boundary s n), bytes (boundary s n + 1))

  -- the places of a frame, and the body between two of them
  pub frame_at : (n k : ℕ) → n ≤ 8 → k ≤ n → get_or (frame_of n s).boundaries k 0 ≡ boundary s k
  frame_at n k few h = rw zero-add at (store_inside (replicate 9 0) 0 (suc n) (boundary s) k (omega arith) (omega arith))

  pub body_between : {a e : ℕ} (n : ℕ) → a ≡ boundary s n → e ≡ boundary s (suc n) → part s (a + 2) e ≡ body s n
  unfolding body
  body_between n a e = rw (a, e)

  -- the bytes of a body, as bytes of the whole
  module _ (n place : ℕ) where
    pub body_at : place < u16 s (boundary s n) → get_or (body s n) place 0 ≡ get_or s (boundary s n + 2 + place) 0
    unfolding boundary body
    body_at h =
        let from = boundary s n + 2 in
        let e : from + u16 s (boundary s n) - from ≡ u16 s (boundary s n) = omega arith in
        rw (e, get_or-take, get_or-drop)

    pub body_past : u16 s (boundary s n) ≤ place → get_or (body s n) place 0 ≡ 0
    unfolding boundary body
    body_past h =
        let from = boundary s n + 2 in
        let many = from + u16 s (boundary s n) - from in
        get_or-eq_default (take many (drop from s)) 0 {n = place} (omega (arith, length-take many (drop from s)))

-- the first of the sections that a frame delimits
pub fewer : {n m : ℕ} {s : Bytes} {frame : Frame} → Delimits m s frame → n ≤ m → Delimits n s frame
fewer known h =
    record {
      few = omega (arith, known.few);
      places = λ k l. known.places k (omega arith);
      inside = λ k l. known.inside k (omega arith);
    }
