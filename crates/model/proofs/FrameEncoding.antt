-- Sections written one after the other behind an edition byte are read as they were written, and bytes so framed are those that would be
-- written. Assumes nothing.
use Prim.Native.Nat.{ℕ, zero, suc, ◌+◌, ◌-◌, ◌≤◌, ◌<◌}
use mathlib.Core.Path.{◌≡◌, refl, sym, ap, ◌∙◌}
use mathlib.Core.List.{List, [], ◌∷◌, map}
use native.Mathlib.Omega.{arith}
use lib.ListN.{length, get_or, drop, length-map}
use lib.Seq.{get_or-append-add, get_or-take, get_or-drop, ext_get_or}
use Rattle.model.specs.Bytes.{Bytes, byte, u16, boundary, body}
use Rattle.model.specs.Encoding.{concatenation, Octets, u16_bytes, section, framed_bytes}
use Rattle.model.proofs.Accepted.{length-body}
use Rattle.model.proofs.Lists.{start, start_first, start_next, start_most, length-concatenation, list_there, within_list, is_concatenation, each_take, each_append, each_mapped, get_d_map}

-- the sections of s, and nothing else behind its edition byte, have these bodies
pub record Framed (s : Bytes) (bodies : List Bytes) : Type 0 where
  pub some_byte : 1 ≤ length s
  pub ends_inside : (n : ℕ) → n < length bodies → boundary s (suc n) ≤ length s
  pub nothing_after : length s ≡ boundary s (length bodies)
  pub body_is : (n : ℕ) → n < length bodies → body s n ≡ get_or bodies n []

-- an element of a section's body
body_at : (s : Bytes) (n i : ℕ) → i < length (body s n) → boundary s (suc n) ≤ length s → get_or (body s n) i 0 ≡ byte s (boundary s n + 2 + i)
unfolding body
body_at s n i lt ends =
    let long = length-body s n ends in
    let next : boundary s (suc n) ≡ boundary s n + 2 + u16 s (boundary s n) = unfold boundary in refl in
    get_or-take (boundary s (suc n) - (boundary s n + 2)) (drop (boundary s n + 2) s) i 0 (omega arith) ∙ get_or-drop (boundary s n + 2) s i 0

module _ (edition : ℕ) (bodies : List Bytes) where
  -- a byte of a section
  section_at :
      (n k at : ℕ) → n < length bodies → k < 2 + length (get_or bodies n []) → at ≡ suc (start (map section bodies) n) + k →
      byte (framed_bytes edition bodies) at ≡ byte (section (get_or bodies n [])) k
  section_at n k at lt inside e =
      let written = get_d_map section bodies n [] [] lt in
      let place : at ≡ suc (start (map section bodies) n + k) = omega arith in
      rw place
      (within_list (map section bodies) n k (start (map section bodies) n + k) 0 (rw written (omega arith)) refl
      ∙ ap (λ (s : Bytes). get_or s k 0) written)

  boundary_written : (n : ℕ) → n ≤ length bodies → boundary (framed_bytes edition bodies) n ≡ suc (start (map section bodies) n)
  unfolding boundary
  boundary_written zero le = omega (arith, start_first (map section bodies))
  boundary_written (suc n) le =
      let here = boundary_written n (omega arith) in
      let high = section_at n 0 (boundary (framed_bytes edition bodies) n) le (omega arith) (omega arith) in
      let low = section_at n 1 (boundary (framed_bytes edition bodies) n + 1) le (omega arith) (omega arith) in
      omega (arith, start_next (map section bodies) n, ap (λ (s : Bytes). length s) (get_d_map section bodies n [] [] le))

  pub frame_read : Framed (framed_bytes edition bodies) bodies
  frame_read =
      record {
        some_byte = omega arith;
        ends_inside = ends;
        nothing_after = whole;
        body_is = λ n lt.
            let size = long n lt in
            ext_get_or 0 (body s n) (get_or bodies n []) size (λ i inside.
            body_at s n i inside (ends n lt)
            ∙ section_at n (2 + i) (boundary s n + 2 + i) lt (omega arith) (omega (arith, boundary_written n (omega arith)))
            ∙ within i (get_or bodies n []));
      }
    where
      s : Bytes
      s = framed_bytes edition bodies

      all : length (map section bodies) ≡ length bodies
      all = length-map bodies section

      whole : length (framed_bytes edition bodies) ≡ boundary (framed_bytes edition bodies) (length bodies)
      whole = omega (arith, boundary_written (length bodies) (omega arith), length-concatenation (map section bodies), ap (start (map section bodies)) all)

      ends : (n : ℕ) → n < length bodies → boundary (framed_bytes edition bodies) (suc n) ≤ length (framed_bytes edition bodies)
      ends n lt = omega (arith, boundary_written (suc n) lt, start_most (map section bodies) (suc n))

      long : (n : ℕ) → n < length bodies → length (body (framed_bytes edition bodies) n) ≡ length (get_or bodies n [])
      long n lt =
          let here = boundary_written n (omega arith) in
          omega (
            arith,
            length-body (framed_bytes edition bodies) n (ends n lt),
            section_at n 0 (boundary (framed_bytes edition bodies) n) lt (omega arith) (omega arith),
            section_at n 1 (boundary (framed_bytes edition bodies) n + 1) lt (omega arith) (omega arith),
          )

      within : (i : ℕ) (b : Bytes) → byte (section b) (2 + i) ≡ get_or b i 0
      within i b = get_or-append-add (u16_bytes (length b)) b i 0

-- bytes so framed are those that their bodies are written in
module _ (s : Bytes) (bodies : List Bytes) (octets : Octets s) (F : Framed s bodies) where
  body-length : (n : ℕ) → n < length bodies → length (get_or bodies n []) ≡ u16 s (boundary s n)
  body-length n lt = rw (← F.body_is n lt) (length-body s n (F.ends_inside n lt))

  boundary_framed : (n : ℕ) → n ≤ length bodies → boundary s n ≡ suc (start (map section bodies) n)
  unfolding boundary
  boundary_framed zero le = omega (arith, start_first (map section bodies))
  boundary_framed (suc n) le =
      omega (
        arith,
        boundary_framed n (omega arith),
        body-length n le,
        start_next (map section bodies) n,
        ap (λ (b : Bytes). length b) (get_d_map section bodies n [] [] le),
      )

  section_framed : (n k : ℕ) → n < length bodies → k < 2 + length (get_or bodies n []) → byte s (boundary s n + k) ≡ byte (section (get_or bodies n [])) k
  section_framed n zero lt inside =
      let z : boundary s n + 0 ≡ boundary s n = omega arith in
      rw z (omega (arith, body-length n lt, octets (boundary s n + 1)))
  section_framed n (suc zero) lt inside = omega (arith, body-length n lt, octets (boundary s n + 1))
  section_framed n (suc (suc i)) lt inside =
      let z : boundary s n + suc (suc i) ≡ boundary s n + 2 + i = omega arith in
      rw z
      (sym (body_at s n i (rw (F.body_is n lt) (omega arith)) (F.ends_inside n lt)) ∙ ap (λ (b : Bytes). get_or b i 0) (F.body_is n lt))

pub frame_written : (s : Bytes) (bodies : List Bytes) → Octets s → Framed s bodies → s ≡ framed_bytes (byte s 0) bodies
frame_written [] bodies octets F = absurd (omega (arith, F.some_byte))
frame_written (edition ∷ s) bodies octets F =
    ap (λ (t : Bytes). edition ∷ t) (is_concatenation (map section bodies) s 0 len at)
  where
    all : length (map section bodies) ≡ length bodies
    all = length-map bodies section

    len : length s ≡ length (concatenation (map section bodies))
    len =
        omega (
          arith,
          F.nothing_after,
          boundary_framed (edition ∷ s) bodies octets F (length bodies) (omega arith),
          length-concatenation (map section bodies),
          ap (start (map section bodies)) all,
        )

    at : (n k : ℕ) → k < length (get_or (map section bodies) n []) →
        get_or s (start (map section bodies) n + k) 0 ≡ get_or (get_or (map section bodies) n []) k 0
    at n k inside =
        let lt : n < length bodies = omega (arith, all, list_there (map section bodies) n k inside) in
        let written = get_d_map section bodies n [] [] lt in
        let place : boundary (edition ∷ s) n + k ≡ suc (start (map section bodies) n + k) =
        omega (arith, boundary_framed (edition ∷ s) bodies octets F n (omega arith)) in
        (rw place at (section_framed (edition ∷ s) bodies octets F n k lt (omega (arith, rw written at inside))))
        ∙ sym (ap (λ (b : Bytes). get_or b k 0) written)

-- parts of octets are octets
pub octets_body : (s : Bytes) (n : ℕ) → Octets s → Octets (body s n)
unfolding body
octets_body s n octets =
    each_take (λ n. n < 256) 0 (omega arith) (boundary s (suc n) - (boundary s n + 2)) (drop (boundary s n + 2) s)
    (λ at. rw (get_or-drop (boundary s n + 2) s at 0) (octets (boundary s n + 2 + at)))

pub octets_u16 : (n : ℕ) → n < 65536 → Octets (u16_bytes n)
octets_u16 n lt zero = omega arith
octets_u16 n lt (suc zero) = omega arith
octets_u16 n lt (suc (suc at)) = omega arith

-- written sections are octets, where their bodies are, and their lengths numbers of two bytes
pub octets_framed :
    (edition : ℕ) (bodies : List Bytes) → edition < 256 →
    ((n : ℕ) → n < length bodies → (length (get_or bodies n []) < 65536) × Octets (get_or bodies n [])) → Octets (framed_bytes edition bodies)
octets_framed edition bodies small each zero = small
octets_framed edition bodies small each (suc at) =
    each_mapped (λ n. n < 256) 0 (omega arith) section bodies []
    (λ n lt.
    let (short, octets) = each n lt in
    each_append (λ n. n < 256) 0 (omega arith) (u16_bytes (length (get_or bodies n []))) (get_or bodies n [])
    (octets_u16 (length (get_or bodies n [])) short) octets)
    at
