-- The two readings of the layout and of sections 1 to 3 agree. Assumes nothing.
use Prim.Native.Nat.{ℕ, zero, suc, ◌+◌, ◌-◌, ◌*◌, ◌/◌, ◌%◌, ◌≤◌, ◌<◌}
use mathlib.Core.Path.{◌≡◌, refl}
use mathlib.Core.Logic.{◌⊎◌, inl, inr, ◌↔◌}
use mathlib.Core.Bool.{Bool}
use native.Mathlib.Nat.{div-add-mod'}
use native.Mathlib.Omega.{arith}
use lib.ListN.{length}
use Rattle.std.specs.Prelude.{Ok, Err}
use Rattle.model.specs.Tests.{Is, ◌and◌, ◌=?◌, ◌≤?◌}
use Rattle.model.specs.Bytes.{Bytes, byte, u16, boundary, body}
use Rattle.model.specs.Layout.{Plan, shapes, shape_of, section_check, layout_check, region_count, fields, source, target, totality, supplied_region, supplied_flags}
use Rattle.model.specs.PlainPlan.{WellFormed, SectionLength, regions, maps, supplied, statements, nodes, assignments, steps}
use Rattle.model.proofs.Tests.{lacks, both, pair, same, same!, less, less!, most, most!, Firsts, at_each}
use Rattle.model.specs.Declarations.{region_check, map_check, supplied_check}
use Rattle.model.specs.Answers.{refusal_report}
use Rattle.model.specs.GivenWhen.{PlanGivenWhen, empty, truncated, unknown_edition, trailing_bytes, invalid_length}
use Rattle.model.specs.declared.Refusal.{Refusal}
use Rattle.model.proofs.Accepted.{LaidOut, begins_inside, length-body, section_pass, laid_out_lem, layout_pass}
use Rattle.model.proofs.Outcomes.{then_cases, require_pass, required, require_refuse, scan_refuse}

-- the length test of the section that stands after n others
unfoldable pub measured : ℕ → ℕ → Bool
measured n bytes = bytes % (shape_of n).width =? 0 and (shape_of n).fewest ≤? bytes / (shape_of n).width and bytes / (shape_of n).width ≤? (shape_of n).most

abbrev Shaped : ℕ → Type 0
Shaped n = (bytes : ℕ) → Is (measured n bytes) → SectionLength (suc n) bytes

by_shape : Firsts Shaped 0 7
unfolding measured shape_of shapes
by_shape = (
  λ b h. let (w, l, m) = parts h in regions refl (omega arith) (omega arith),
  (
    λ b h. let (w, l, m) = parts h in maps {k = b / 3} refl (omega arith) m,
    (
      λ b h. let (w, l, m) = parts h in supplied {k = b / 2} refl (omega arith) m,
      (
        λ b h. let (w, l, m) = parts h in statements {k = b / 4} refl (omega arith) m,
        (
          λ b h. let (w, l, m) = parts h in nodes {k = b / 4} refl (omega arith) m,
          (
            λ b h. let (w, l, m) = parts h in assignments refl (omega arith),
            (
              λ b h. let (w, l, m) = parts h in steps {k = b / 5} refl (omega arith) m,
              tt,
            ),
          ),
        ),
      ),
    ),
  ),
)
  where
    parts : {a b c d e f : ℕ} → Is (a =? b and c ≤? d and e ≤? f) → (a ≡ b) × (c ≤ d) × (e ≤ f)
    parts h = (same (both h).0, most (both (both h).1).0, most (both (both h).1).1)

of_shape : {n bytes : ℕ} → SectionLength n bytes → Is (measured (n - 1) bytes)
unfolding measured shape_of shapes
of_shape {n} {bytes} (regions e l m) = rw e (pair (same! (omega arith)) (pair (most! (omega arith)) (most! (omega arith))))
of_shape {n} {bytes} (maps {k = k} e l m) = rw e (pair (same! (omega arith)) (pair (most! (omega arith)) (most! (omega arith))))
of_shape {n} {bytes} (supplied {k = k} e l m) = rw e (pair (same! (omega arith)) (pair (most! (omega arith)) (most! (omega arith))))
of_shape {n} {bytes} (statements {k = k} e l m) = rw e (pair (same! (omega arith)) (pair (most! (omega arith)) (most! (omega arith))))
of_shape {n} {bytes} (nodes {k = k} e l m) = rw e (pair (same! (omega arith)) (pair (most! (omega arith)) (most! (omega arith))))
of_shape {n} {bytes} (assignments e m) = rw e (pair (same! (omega arith)) (pair (most! (omega arith)) (most! (omega arith))))
of_shape {n} {bytes} (steps {k = k} e l m) = rw e (pair (same! (omega arith)) (pair (most! (omega arith)) (most! (omega arith))))

pub section-length : (n bytes : ℕ) → n < 7 → Is (measured n bytes) ↔ SectionLength (suc n) bytes
section-length n bytes lt =
    (at_each Shaped 0 7 by_shape n (omega arith) lt bytes, λ s. let t = of_shape s in rw (one_less n) at t)
  where
    one_less : (n : ℕ) → suc n - 1 ≡ n
    one_less n = omega arith

-- what the layout's checks pass on, in the words of `WellFormed`
pub record LayoutRead (p : Bytes) : Type 0 where
  pub some_byte : 1 ≤ length p
  pub edition : byte p 0 ≡ 1
  pub sections_end : (n : ℕ) → n < 7 → boundary p (suc n) ≤ length p
  pub section_lengths : (n : ℕ) → n < 7 → SectionLength (suc n) (length (body p n))
  pub nothing_after : length p ≡ boundary p 7

-- of a plan that reads by the layout
pub well_formed_layout : (p : Bytes) → WellFormed p → LayoutRead p
well_formed_layout p R =
    record {
      some_byte = R.some_byte;
      edition = R.edition;
      sections_end = R.sections_end;
      section_lengths = R.section_lengths;
      nothing_after = R.nothing_after;
    }

-- a length of whole records, and a length without a rest
whole_iff : (a b : ℕ) → (a ≡ a / b * b) ↔ (a % b ≡ 0)
whole_iff a b = (λ z. omega (arith, div-add-mod' a b), λ z. omega (arith, div-add-mod' a b))

pub layout_read : (p : Bytes) → (layout_check p ≡ Ok tt) ↔ LayoutRead p
unfolding measured
layout_read p = (plainly, λ l. layout_pass p (by_section l))
  where
    plainly : layout_check p ≡ Ok tt → LayoutRead p
    plainly h =
        let L = laid_out_lem p h in
        record {
          some_byte = omega (arith, (L.section 0 (omega arith)).starts_inside);
          edition = L.edition;
          sections_end = λ n lt. (L.section n lt).ends_inside;
          section_lengths = λ n lt.
              let S = L.section n lt in
              (section-length n (length (body p n)) lt).0
              (pair (same! ((whole_iff _ _).0 S.whole_records)) (pair (most! S.count_least) (most! S.count_most)));
          nothing_after = L.nothing_after;
        }

    by_section : LayoutRead p → LaidOut p
    by_section l =
        record {
          edition = l.edition;
          section = λ n lt.
              let m = both ((section-length n (length (body p n)) lt).1 (l.section_lengths n lt)) in
              let ends = l.sections_end n lt in
              record {
                starts_inside = begins_inside p n ends;
                ends_inside = ends;
                body-length = length-body p n ends;
                whole_records = (whole_iff _ _).1 (same m.0);
                count_least = most (both m.1).0;
                count_most = most (both m.1).1;
              };
          nothing_after = l.nothing_after;
        }

-- a test of an order that fails
pub beyond : {a b : ℕ} → (Is (a ≤? b) → ⊥) → b < a
beyond {a} {b} h = let n : ¬ (a ≤ b) = λ l. h (most! l) in omega arith

-- the table's "given when" of a plan's refusal holds at its place
abbrev pub PlanGiven : Bytes → Refusal → Type 0
PlanGiven p r = PlanGivenWhen p (refusal_report r).number (refusal_report r).place

-- where the layout's checks refuse
module _ (p : Bytes) (r : Refusal) where
  section_refuses : (n : ℕ) → n < 7 → boundary p n ≤ length p → section_check p n ≡ Err r → PlanGiven p r
  unfolding section_check measured
  section_refuses n lt start h =
      then_cases _ _ r h
      (λ e. let f = require_refuse _ _ r e in rw (← f.1) (truncated {n = n} refl (omega arith) lt start (ended (λ ends. lacks f.0 (within ends)))))
      (λ e g.
      let f = require_refuse _ _ r g in
      let ends = most (both (require_pass _ _ e)).1 in
      rw (← f.1) (invalid_length refl refl lt (λ s. lacks f.0 ((section-length n (u16 p (boundary p n)) lt).1 (rw (length-body p n ends) at s)))))
    where
      ended : (boundary p (suc n) ≤ length p → ⊥) → length p < boundary p (suc n)
      ended k = let m : ¬ (boundary p (suc n) ≤ length p) = k in omega arith

      within : boundary p (suc n) ≤ length p → Is (boundary p n + 2 ≤? length p and boundary p (suc n) ≤? length p)
      within ends = pair (most! (begins_inside p n ends)) (most! ends)

  -- a section begins within the bytes, where those before it pass
  starts : 1 ≤ length p → (n : ℕ) → ((l : ℕ) → 0 ≤ l → l < n → section_check p l ≡ Ok tt) → n < 7 → boundary p n ≤ length p
  unfolding boundary
  starts s zero b lt = s
  starts s (suc n) b lt = (section_pass p n (b n (omega arith) (omega arith))).ends_inside

  pub layout_refuses : layout_check p ≡ Err r → PlanGiven p r
  unfolding layout_check
  layout_refuses h =
      then_cases _ _ r h
      (λ e.
      let f = require_refuse _ _ r e in
      let none : length p < 1 = beyond (lacks f.0) in
      rw (← f.1) (empty refl refl (omega arith)))
      (λ some h2. then_cases _ _ r h2
      (λ e. let f = require_refuse _ _ r e in rw (← f.1) (unknown_edition refl refl (λ q. lacks f.0 (same! q))))
      (λ edition h3. then_cases _ _ r h3
      (λ e.
      let w = scan_refuse (section_check p) 7 r e in
      let lt : w.at < 7 = omega (arith, w.inside) in
      section_refuses w.at lt (starts (most (require_pass _ _ some)) w.at w.before lt) w.refuses)
      (λ sections e. let f = require_refuse _ _ r e in rw (← f.1) (trailing_bytes refl refl (beyond (lacks f.0))))))

-- sections 1 to 3: each record's check against its plain statement
module _ (P : Plan) where
  pub region_formed : (r : ℕ) → (region_check P r ≡ Ok tt) ↔ ((1 ≤ fields P r) × (fields P r ≤ 8))
  unfolding region_check
  region_formed r =
      (λ h. let t = both (require_pass _ _ h) in (most t.0, most t.1), λ w. required _ _ (pair (most! w.0) (most! w.1)))

  pub map_formed :
      (m : ℕ) → (map_check P m ≡ Ok tt) ↔
      ((source P m < region_count P) × (target P m < region_count P) × ((totality P m ≡ 0) ⊎ (totality P m ≡ 1)))
  unfolding map_check
  map_formed m = (
    λ h. let t = both (require_pass _ _ h) in (less t.0, less (both t.1).0, flag (totality P m) (most (both t.1).1)),
    λ w. required _ _ (pair (less! w.0) (pair (less! w.1) (most! (few (totality P m) w.2)))),
  )
    where
      flag : (k : ℕ) → k ≤ 1 → (k ≡ 0) ⊎ (k ≡ 1)
      flag zero l = inl refl
      flag (suc zero) l = inr refl
      flag (suc (suc k)) l = absurd (omega arith)

      few : (k : ℕ) → (k ≡ 0) ⊎ (k ≡ 1) → k ≤ 1
      few k (inl e) = omega arith
      few k (inr e) = omega arith

  pub supplied_formed : (k : ℕ) → (supplied_check P k ≡ Ok tt) ↔ ((supplied_region P k < region_count P) × (supplied_flags P k ≤ 3))
  unfolding supplied_check
  supplied_formed k =
      (λ h. let t = both (require_pass _ _ h) in (less t.0, most t.1), λ w. required _ _ (pair (less! w.0) (most! w.1)))
