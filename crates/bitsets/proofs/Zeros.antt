-- The zeros below a number's lowest one: the lowest member of a word, and the word without it. Assumes nothing.
use Prim.Native.Nat.{ℕ, zero, suc, ◌-◌, ◌/◌, ◌%◌, ◌^◌, ◌≤◌, ◌<◌, suc-le-suc}
use mathlib.Core.Path.{◌≡◌, refl, sym, ap, ap₂, ◌∙◌, subst}
use mathlib.Core.Bool.{Bool, false}
use native.Mathlib.Numerals.{add-one}
use native.Mathlib.Omega.{arith}
use lib.Arith.{lt-one}
use lib.Count.{count_trailing_zeros, under}
use lib.Pow.{shr_lt}
use lib.Bits.{bit_and}
use Rattle.model.specs.Tests.{Is, ◌and◌, non, ◌=?◌}
use Rattle.model.specs.Words.{bit}
use Rattle.model.proofs.Tests.{both, pair, lacks, refuted, same, same!, same_truth}
use Rattle.model.proofs.Words.{bit_first, bit_next}
use Rattle.primitives.proofs.Bits.{refute, false_and, and-true, bit-bit_and}

-- they are zeros
zeros_low : (d w e : ℕ) → e < count_trailing_zeros d w → bit w e ≡ false
unfolding count_trailing_zeros ◌=?◌
zeros_low zero w e h = absurd (omega arith)
zeros_low (suc d) w e h = go (λ e l. zeros_low d (w / 2) e l) (w % 2) refl e h
  where
    go : ((e : ℕ) → e < count_trailing_zeros d (w / 2) → bit (w / 2) e ≡ false) → (r : ℕ) → w % 2 ≡ r → (e : ℕ)
        → e < under r (count_trailing_zeros d (w / 2)) → bit w e ≡ false
    go f zero q zero h = bit_first w ∙ ap (λ (x : ℕ). x =? 1) q
    go f zero q (suc e) h = bit_next w e ∙ f e (omega arith)
    go f (suc r) q e h = absurd (omega arith)

-- fewer than the bits of a number that is not 0, and behind them stands a one
module _ where
  half_less : (m w : ℕ) → w < 2 ^ suc m → w / 2 < 2 ^ m
  half_less m w h = shr_lt m 1 (subst (λ (x : ℕ). w < 2 ^ x) (sym (add-one m)) h)

  zeros_few : (d m w : ℕ) → m ≤ d → (w ≡ 0 → ⊥) → w < 2 ^ m → count_trailing_zeros d w < m
  unfolding count_trailing_zeros
  zeros_few d zero w l n h = absurd (n (lt-one h))
  zeros_few zero (suc m) w l n h = absurd (omega arith)
  zeros_few (suc d) (suc m) w l n h = go (λ z. zeros_few d m (w / 2) (omega arith) z (half_less m w h)) (w % 2) refl
    where
      go : ((w / 2 ≡ 0 → ⊥) → count_trailing_zeros d (w / 2) < m) → (r : ℕ) → w % 2 ≡ r → under r (count_trailing_zeros d (w / 2)) < suc m
      go f zero q = suc-le-suc (f (λ z. n (omega arith)))
      go f (suc r) q = omega arith

  zeros_one : (d m w : ℕ) → m ≤ d → (w ≡ 0 → ⊥) → w < 2 ^ m → Is (bit w (count_trailing_zeros d w))
  unfolding count_trailing_zeros
  zeros_one d zero w l n h = absurd (n (lt-one h))
  zeros_one zero (suc m) w l n h = absurd (omega arith)
  zeros_one (suc d) (suc m) w l n h = go (λ z. zeros_one d m (w / 2) (omega arith) z (half_less m w h)) (w % 2) refl
    where
      go : ((w / 2 ≡ 0 → ⊥) → Is (bit (w / 2) (count_trailing_zeros d (w / 2)))) → (r : ℕ) → w % 2 ≡ r → Is (bit w (under r (count_trailing_zeros d (w / 2))))
      go f zero q = bit_next w (count_trailing_zeros d (w / 2)) ∙ f (λ z. n (omega arith))
      go f (suc r) q = bit_first w ∙ same! (omega arith)

-- a number less 1 has the same bits but for its lowest one and the zeros below
lowest_cleared : (d w b : ℕ) → (w ≡ 0 → ⊥) → w < 2 ^ d → bit (bit_and w (w - 1)) b ≡ (bit w b and non (b =? count_trailing_zeros d w))
unfolding count_trailing_zeros
lowest_cleared zero w b some small = absurd (some (lt-one small))
lowest_cleared (suc d) w b some small = go (λ b n. lowest_cleared d (w / 2) b n (half_less d w small)) (w % 2) refl b
  where
    go : ((b : ℕ) → (w / 2 ≡ 0 → ⊥) → bit (bit_and (w / 2) (w / 2 - 1)) b ≡ (bit (w / 2) b and non (b =? count_trailing_zeros d (w / 2)))) → (r : ℕ) → w % 2 ≡ r
        → (b : ℕ) → bit (bit_and w (w - 1)) b ≡ (bit w b and non (b =? under r (count_trailing_zeros d (w / 2))))
    go f zero q zero =
        let none : bit w 0 ≡ false = bit_first w ∙ refute (λ t. let p = same t in omega arith) in
        bit-bit_and w (w - 1) 0 ∙ ap (λ (t : Bool). t and bit (w - 1) 0) none ∙ false_and _
        ∙ sym (ap (λ (t : Bool). t and non (0 =? suc (count_trailing_zeros d (w / 2)))) none ∙ false_and _)
    go f zero q (suc b) =
        let half : (w - 1) / 2 ≡ w / 2 - 1 = omega arith in
        bit-bit_and w (w - 1) (suc b) ∙ ap₂ ◌and◌ (bit_next w b) (bit_next (w - 1) b ∙ ap (λ (x : ℕ). bit x b) half) ∙ sym (bit-bit_and (w / 2) (w / 2 - 1) b)
        ∙ f b (λ z. some (omega arith))
        ∙ ap₂ (λ (s t : Bool). s and non t) (sym (bit_next w b)) (same_truth (λ t. let p = same t in same! (omega arith)) (λ t. let p = same t in same! (omega arith)))
    go f (suc r) q zero =
        let even : bit (w - 1) 0 ≡ false = bit_first (w - 1) ∙ refute (λ t. let p = same t in omega arith) in
        bit-bit_and w (w - 1) 0 ∙ ap (λ (t : Bool). bit w 0 and t) (even ∙ sym (refute (λ h. lacks h (same! refl))))
    go f (suc r) q (suc b) =
        let half : (w - 1) / 2 ≡ w / 2 = omega arith in
        bit-bit_and w (w - 1) (suc b) ∙ ap₂ ◌and◌ (bit_next w b) (bit_next (w - 1) b ∙ ap (λ (x : ℕ). bit x b) half)
        ∙ same_truth (λ t. (both t).0) (λ t. pair t t)
        ∙ sym (ap₂ ◌and◌ (bit_next w b) (refuted (λ h. let p = same h in omega arith)) ∙ and-true _)

-- the lowest member of a word
pub record Lowest (members t : ℕ) : Type 0 where
  pub inside : t < 64
  pub member : Is (bit members t)
  pub none_below : (b : ℕ) → b < t → bit members b ≡ false
  pub cleared : (b : ℕ) → bit (bit_and members (members - 1)) b ≡ (bit members b and non (b =? t))

pub lowest : (members t : ℕ) → members < 2 ^ 64 → (members ≡ 0 → ⊥) → t ≡ count_trailing_zeros 64 members → Lowest members t
lowest members t small some is =
    record {
      inside = rw is (zeros_few 64 64 members (omega arith) some small);
      member = rw is (zeros_one 64 64 members (omega arith) some small);
      none_below = λ b lt. zeros_low 64 members b (omega arith);
      cleared = λ b. rw is (lowest_cleared 64 members b some small);
    }
