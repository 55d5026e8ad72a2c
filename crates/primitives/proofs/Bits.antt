-- The machine's operations, bit by bit. Assumes nothing.
use Prim.Native.Nat.{ℕ, zero, suc, ◌+◌, ◌-◌, ◌*◌, ◌/◌, ◌%◌, ◌^◌, ◌<◌, min, max}
use mathlib.Core.Path.{◌≡◌, refl, sym, ap, ◌∙◌}
use mathlib.Core.Bool.{Bool, true, false}
use native.Mathlib.Nat.{pow-suc, one-mul}
use native.Mathlib.Omega.{arith}
use lib.Arith.{digits_mod}
use lib.Bits.{bit_and, bit_or, and_step, or_step, and_shr, or_shr, shifted_half, shifted_even}
use lib.Pow.{shr-shr, shl-shr, pow_pos, shl_exact, field, mod-mod-pow, low, high}
use Rattle.model.specs.Tests.{Is, ◌and◌, ◌or◌, non, ◌=?◌, ◌<?◌}
use Rattle.model.specs.Words.{bit}
use Rattle.model.proofs.Tests.{same, same!, less, less!, same_truth}
use Rattle.model.proofs.Words.{bit_first, bit_next, bit_zero}

-- a test that cannot pass
pub refute : {a : Bool} → (Is a → ⊥) → a ≡ false
refute {a = true} h = absurd (h refl)
refute {a = false} h = refl

pub false_and : (b : Bool) → (false and b) ≡ false
unfolding ◌and◌
false_and b = refl

pub and_false : (a : Bool) → (a and false) ≡ false
unfolding ◌and◌
and_false true = refl
and_false false = refl

pub and-true : (a : Bool) → (a and true) ≡ a
unfolding ◌and◌
and-true true = refl
and-true false = refl

pub false_or : (b : Bool) → (false or b) ≡ b
unfolding ◌or◌
false_or b = refl

pub kept : {a : Bool} → non a ≡ false → Is a
unfolding non
kept {a = true} h = refl
kept {a = false} h = sym h

pub or-false : (a : Bool) → (a or false) ≡ a
unfolding ◌or◌
or-false true = refl
or-false false = refl

pub and_swap : (s t : Bool) → (s and t) ≡ (t and s)
unfolding ◌and◌
and_swap true true = refl
and_swap true false = refl
and_swap false true = refl
and_swap false false = refl

-- a test of two digits at once
least_test : (x y : ℕ) → x < 2 → y < 2 → (min x y =? 1) ≡ (x =? 1 and y =? 1)
unfolding ◌=?◌ ◌and◌
least_test zero zero h k = refl
least_test zero (suc zero) h k = refl
least_test (suc zero) zero h k = refl
least_test (suc zero) (suc zero) h k = refl
least_test (suc (suc x)) y h k = absurd (omega arith)
least_test zero (suc (suc y)) h k = absurd (omega arith)
least_test (suc zero) (suc (suc y)) h k = absurd (omega arith)

most_test : (x y : ℕ) → x < 2 → y < 2 → (max x y =? 1) ≡ (x =? 1 or y =? 1)
unfolding ◌=?◌ ◌or◌
most_test zero zero h k = refl
most_test zero (suc zero) h k = refl
most_test (suc zero) zero h k = refl
most_test (suc zero) (suc zero) h k = refl
most_test (suc (suc x)) y h k = absurd (omega arith)
most_test zero (suc (suc y)) h k = absurd (omega arith)
most_test (suc zero) (suc (suc y)) h k = absurd (omega arith)

rest_and : (a b : ℕ) → bit_and a b % 2 ≡ min (a % 2) (b % 2)
rest_and a b = ap (λ (x : ℕ). x % 2) (and_step a b) ∙ digits_mod (bit_and (a / 2) (b / 2)) (omega arith)

rest_or : (a b : ℕ) → bit_or a b % 2 ≡ max (a % 2) (b % 2)
rest_or a b = ap (λ (x : ℕ). x % 2) (or_step a b) ∙ digits_mod (bit_or (a / 2) (b / 2)) (omega arith)

pub bit-bit_and : (a b e : ℕ) → bit (bit_and a b) e ≡ (bit a e and bit b e)
unfolding bit
bit-bit_and a b e =
    ap (λ (x : ℕ). x % 2 =? 1) (and_shr a b e) ∙ ap (λ (x : ℕ). x =? 1) (rest_and (a / 2 ^ e) (b / 2 ^ e))
    ∙ least_test (a / 2 ^ e % 2) (b / 2 ^ e % 2) (omega arith) (omega arith)

pub bit-bit_or : (a b e : ℕ) → bit (bit_or a b) e ≡ (bit a e or bit b e)
unfolding bit
bit-bit_or a b e =
    ap (λ (x : ℕ). x % 2 =? 1) (or_shr a b e) ∙ ap (λ (x : ℕ). x =? 1) (rest_or (a / 2 ^ e) (b / 2 ^ e))
    ∙ most_test (a / 2 ^ e % 2) (b / 2 ^ e % 2) (omega arith) (omega arith)

-- the complement in n bits
flip_test : (x : ℕ) → x < 2 → (1 - x =? 1) ≡ non (x =? 1)
unfolding ◌=?◌ non
flip_test zero h = refl
flip_test (suc zero) h = refl
flip_test (suc (suc x)) h = absurd (omega arith)

flip_half : (m w : ℕ) → w < m * 2 → ((m * 2 - 1) - w) / 2 ≡ (m - 1) - w / 2
flip_half m w h = omega arith

flip_rest : (m w : ℕ) → w < m * 2 → ((m * 2 - 1) - w) % 2 ≡ 1 - w % 2
flip_rest m w h = omega arith

pub bit_not : (n w e : ℕ) → w < 2 ^ n → e < n → bit ((2 ^ n - 1) - w) e ≡ non (bit w e)
bit_not zero w e h l = absurd (omega arith)
bit_not (suc n) w zero h l =
    bit_first ((2 ^ suc n - 1) - w)
    ∙ ap (λ (x : ℕ). x =? 1) (ap (λ (m : ℕ). ((m - 1) - w) % 2) (pow-suc 2 n) ∙ flip_rest (2 ^ n) w (omega (arith, pow-suc 2 n)))
    ∙ flip_test (w % 2) (omega arith) ∙ ap non (sym (bit_first w))
bit_not (suc n) w (suc e) h l =
    bit_next ((2 ^ suc n - 1) - w) e
    ∙ ap (λ (x : ℕ). bit x e) (ap (λ (m : ℕ). ((m - 1) - w) / 2) (pow-suc 2 n) ∙ flip_half (2 ^ n) w (omega (arith, pow-suc 2 n)))
    ∙ bit_not n (w / 2) e (omega (arith, pow-suc 2 n)) (omega arith) ∙ ap non (sym (bit_next w e))

-- shifts
pub bit_down : (w m e : ℕ) → bit (w / 2 ^ m) e ≡ bit w (m + e)
unfolding bit
bit_down w m e = ap (λ (x : ℕ). x % 2 =? 1) (shr-shr w m e)

-- the lowest n bits
pub bit_low : (n w e : ℕ) → e < n → bit (w % 2 ^ n) e ≡ bit w e
unfolding bit
bit_low n w e h =
    let split : suc (n - suc e) + e ≡ n = omega arith in
    let half : suc (n - suc e) ≡ n - suc e + 1 = omega arith in
    ap (λ (x : ℕ). x % 2 =? 1)
    (ap (λ (m : ℕ). w % 2 ^ m / 2 ^ e) (sym split) ∙ field w (suc (n - suc e)) e)
    ∙ ap (λ (x : ℕ). x =? 1) (ap (λ (m : ℕ). w / 2 ^ e % 2 ^ m % 2) half ∙ mod-mod-pow (w / 2 ^ e) (n - suc e) 1)

-- a number above n bits and another in them
pub bit_lower : (h n l e : ℕ) → l < 2 ^ n → e < n → bit (h * 2 ^ n + l) e ≡ bit l e
bit_lower h n l e small k = sym (bit_low n (h * 2 ^ n + l) e k) ∙ ap (λ (x : ℕ). bit x e) (low h n small)

pub bit_upper : (h n l e : ℕ) → l < 2 ^ n → bit (h * 2 ^ n + l) (n + e) ≡ bit h e
bit_upper h n l e small = sym (bit_down (h * 2 ^ n + l) n e) ∙ ap (λ (x : ℕ). bit x e) (high h n small)

-- up by m, below m
pub bit_up_low : (w m e : ℕ) → e < m → bit (w * 2 ^ m) e ≡ false
unfolding ◌=?◌
bit_up_low w zero e h = absurd (omega arith)
bit_up_low w (suc m) zero h = bit_first (w * 2 ^ suc m) ∙ ap (λ (x : ℕ). x =? 1) (shifted_even w m)
bit_up_low w (suc m) (suc e) h =
    bit_next (w * 2 ^ suc m) e ∙ ap (λ (x : ℕ). bit x e) (shifted_half w m) ∙ bit_up_low w m e (omega arith)

-- and from m on
pub bit_up : (w m e : ℕ) → bit (w * 2 ^ m) (m + e) ≡ bit w e
bit_up w m e = sym (bit_down (w * 2 ^ m) m e) ∙ ap (λ (x : ℕ). bit x e) (shl-shr w m)

-- one bit set, and the lowest m bits set
pub bit_power : (m b : ℕ) → bit (2 ^ m) b ≡ (b =? m)
bit_power zero zero = bit_first 1 ∙ same! refl ∙ sym (same! refl)
bit_power zero (suc b) = bit_next 1 b ∙ bit_zero b ∙ sym (refute (λ h. let q = same h in omega arith))
bit_power (suc m) zero =
    let even : 2 ^ suc m % 2 ≡ 0 = omega (arith, pow-suc 2 m) in
    bit_first (2 ^ suc m) ∙ ap (λ (x : ℕ). x =? 1) even ∙ refute (λ h. let q = same h in omega arith) ∙ sym (refute (λ h. let q = same h in omega arith))
bit_power (suc m) (suc b) =
    let half : 2 ^ suc m / 2 ≡ 2 ^ m = omega (arith, pow-suc 2 m) in
    bit_next (2 ^ suc m) b ∙ ap (λ (x : ℕ). bit x b) half ∙ bit_power m b
    ∙ same_truth (λ h. let q = same h in same! (omega arith)) (λ h. let q = same h in same! (omega arith))

pub bit_ones : (m b : ℕ) → bit (2 ^ m - 1) b ≡ (b <? m)
bit_ones zero b = bit_zero b ∙ sym (refute (λ h. let q = less h in omega arith))
bit_ones (suc m) zero =
    let odd : (2 ^ suc m - 1) % 2 ≡ 1 = omega (arith, pow-suc 2 m, pow_pos m) in
    bit_first (2 ^ suc m - 1) ∙ ap (λ (x : ℕ). x =? 1) odd ∙ same! refl ∙ sym (less! (omega arith))
bit_ones (suc m) (suc b) =
    let half : (2 ^ suc m - 1) / 2 ≡ 2 ^ m - 1 = omega (arith, pow-suc 2 m, pow_pos m) in
    bit_next (2 ^ suc m - 1) b ∙ ap (λ (x : ℕ). bit x b) half ∙ bit_ones m b
    ∙ same_truth (λ h. let q = less h in less! (omega arith)) (λ h. let q = less h in less! (omega arith))

-- what `1 << m` gives
pub one_shifted : (m : ℕ) → m < 64 → (1 * 2 ^ m) % 2 ^ 64 ≡ 2 ^ m
one_shifted m h = shl_exact 1 m 64 (omega arith) (omega arith) ∙ one-mul (2 ^ m)
