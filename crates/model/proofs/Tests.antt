-- What a passed test says, and the way back. Assumes nothing.
use Prim.Native.Nat.{ℕ, zero, suc, ◌+◌, ◌-◌, ◌≤◌, ◌<◌}
use mathlib.Core.Path.{◌≡◌, refl, sym, ◌∙◌}
use mathlib.Core.Logic.{◌⊎◌, inl, inr}
use mathlib.Core.Bool.{Bool, true, false}
use native.Mathlib.Numerals.{add-one}
use native.Mathlib.Omega.{arith}
use lib.Dec.{eqb}
use borrow.Author.Tests.{ltb-true, ltb-false, lt-ltb, leb-true, le-leb, eqb-true, eqb-false, eq-eqb}
use Rattle.model.specs.Tests.{Is, ◌and◌, ◌or◌, non, ◌=?◌, ◌<?◌, ◌≤?◌, any, every, pick, first}

pub falsum {ℓ} : {A : Type ℓ} → false ≡ true → A
falsum h = absurd (mathlib.Core.Bool.false≢true h)

-- conjunction, disjunction, negation
pub both : {a b : Bool} → Is (a and b) → Is a × Is b
unfolding ◌and◌
both {a = true} h = (refl, h)
both {a = false} h = falsum h

pub pair : {a b : Bool} → Is a → Is b → Is (a and b)
unfolding ◌and◌
pair {a = true} h k = k
pair {a = false} h k = falsum h

pub either : {a b : Bool} → Is (a or b) → Is a ⊎ Is b
unfolding ◌or◌
either {a = true} h = inl refl
either {a = false} h = inr h

pub one : {a b : Bool} → Is a ⊎ Is b → Is (a or b)
unfolding ◌or◌
one {a = true} h = refl
one {a = false} (inl h) = falsum h
one {a = false} (inr h) = h

pub lacks : {a : Bool} → Is (non a) → Is a → ⊥
unfolding non
lacks {a = true} h k = falsum h
lacks {a = false} h k = falsum k

pub refuted : {a : Bool} → (Is a → ⊥) → Is (non a)
unfolding non
refuted {a = true} h = absurd (h refl)
refuted {a = false} h = refl

pub split : (a : Bool) → Is a ⊎ Is (non a)
unfolding non
split true = inl refl
split false = inr refl

pub fails : {a : Bool} → Is (non a) → a ≡ false
unfolding non
fails {a = true} h = falsum h
fails {a = false} h = refl

pub failing : {a : Bool} → a ≡ false → Is (non a)
unfolding non
failing {a = true} h = falsum (sym h)
failing {a = false} h = refl

-- tests that pass together
pub same_truth : {a b : Bool} → (Is a → Is b) → (Is b → Is a) → a ≡ b
same_truth {a = true} {b = true} f g = refl
same_truth {a = true} {b = false} f g = falsum (f refl)
same_truth {a = false} {b = true} f g = falsum (g refl)
same_truth {a = false} {b = false} f g = refl

-- an implication, as a test
pub implied : {a b : Bool} → Is (non a or b) → Is a → Is b
implied h k = elim (either h) [ inl n ↦ absurd (lacks n k) | inr y ↦ y ]

pub implies : {a b : Bool} → (Is a → Is b) → Is (non a or b)
implies {a} {b} f = elim (split a) [ inl y ↦ one (inr (f y)) | inr n ↦ one (inl n) ]

-- numbers
pub same : {a b : ℕ} → Is (a =? b) → a ≡ b
unfolding ◌=?◌
same {a} {b} h = eqb-true a b h

pub same! : {a b : ℕ} → a ≡ b → Is (a =? b)
unfolding ◌=?◌
same! {a} {b} h = eq-eqb a b h

pub less : {a b : ℕ} → Is (a <? b) → a < b
unfolding ◌<?◌
less {a} {b} h = ltb-true a b h

pub less! : {a b : ℕ} → a < b → Is (a <? b)
unfolding ◌<?◌
less! {a} {b} h = lt-ltb a b h

pub not_less : {a b : ℕ} → Is (non (a <? b)) → b ≤ a
unfolding ◌<?◌
not_less {a} {b} h = ltb-false a b (fails h)

pub most : {a b : ℕ} → Is (a ≤? b) → a ≤ b
unfolding ◌≤?◌
most {a} {b} h = leb-true a b h

pub most! : {a b : ℕ} → a ≤ b → Is (a ≤? b)
unfolding ◌≤?◌
most! {a} {b} h = le-leb a b h

-- one of two equations
pub which : {a b c d : ℕ} → Is (a =? b or c =? d) → (a ≡ b) ⊎ (c ≡ d)
which h = elim (either h) [ inl u ↦ inl (same u) | inr v ↦ inr (same v) ]

pub which! : {a b c d : ℕ} → (a ≡ b) ⊎ (c ≡ d) → Is (a =? b or c =? d)
which! (inl u) = one (inl (same! u))
which! (inr v) = one (inr (same! v))

-- a number below n + 1 is n, or below n
pub latest : (k n : ℕ) → k < suc n → (k ≡ n) ⊎ (k < n)
latest k n lt = go (eqb k n) refl
  where
    go : (b : Bool) → eqb k n ≡ b → (k ≡ n) ⊎ (k < n)
    go true e = inl (eqb-true k n e)
    go false e = let ne = eqb-false k n e in inr (omega arith)

-- some number below n passes
pub some_of : {n : ℕ} {f : ℕ → Bool} → Is (any n f) → (k : ℕ) × (k < n) × Is (f k)
unfolding any
some_of {n = zero} {f} h = falsum h
some_of {n = suc n} {f} h =
    elim (either h) [
      | inl b ↦ let r = some_of {n = n} {f = f} b in (r.0, omega (arith, r.1), r.2)
      | inr a ↦ (n, omega arith, a)
    ]

pub among : {n : ℕ} {f : ℕ → Bool} → (k : ℕ) × (k < n) × Is (f k) → Is (any n f)
unfolding any
among {n = zero} {f} w = absurd (omega arith)
among {n = suc n} {f} w =
    one (elim (latest w.0 n w.1) [ inl e ↦ inr (rw (← e) w.2) | inr l ↦ inl (among {n = n} {f = f} (w.0, l, w.2)) ])

-- each number below n passes
pub every_at : (n : ℕ) (f : ℕ → Bool) → Is (every n f) → (k : ℕ) → k < n → Is (f k)
unfolding every
every_at zero f h k lt = absurd (omega arith)
every_at (suc n) f h k lt = elim (latest k n lt) [ inl e ↦ rw e (both h).1 | inr l ↦ every_at n f (both h).0 k l ]

pub every_of : (n : ℕ) (f : ℕ → Bool) → ((k : ℕ) → k < n → Is (f k)) → Is (every n f)
unfolding every
every_of zero f h = refl
every_of (suc n) f h = pair (every_of n f (λ k lt. h k (omega arith))) (h n (omega arith))

-- a choice by a test
pub pick_true : {A : Type 0} (t : Bool) (a b : A) → Is t → pick t a b ≡ a
unfolding pick
pick_true t a b h = rw (h, pick)

pub pick-false : {A : Type 0} (t : Bool) (a b : A) → t ≡ false → pick t a b ≡ b
unfolding pick
pick-false t a b h = rw (h, pick)

-- the first number that passes
pub first_found : (f : ℕ → Bool) (k n : ℕ) → first f k n < k + n → Is (f (first f k n))
unfolding first pick
first_found f k zero lt = absurd (omega arith)
first_found f k (suc n) lt = go (f k) refl (first_found f (suc k) n) lt
  where
    go : (b : Bool) → f k ≡ b → (first f (suc k) n < suc k + n → Is (f (first f (suc k) n))) → first f k (suc n) < k + suc n → Is (f (first f k (suc n)))
    go true e r lt = rw (e, first, pick) e
    go false e r lt = rw (e, first, pick) (r (let l = rw (e, first, pick) at lt in omega arith))

pub first_most : (f : ℕ → Bool) (k n j : ℕ) → k ≤ j → j < k + n → Is (f j) → first f k n ≤ j
unfolding first pick
first_most f k zero j a b h = absurd (omega arith)
first_most f k (suc n) j a b h = go (f k) refl (first_most f (suc k) n j)
  where
    go : (t : Bool) → f k ≡ t → (suc k ≤ j → j < suc k + n → Is (f j) → first f (suc k) n ≤ j) → first f k (suc n) ≤ j
    go true e r = rw (e, first, pick) a
    go false e r =
        let ne : ¬ (k ≡ j) = λ q. falsum (sym (rw q at e) ∙ h) in
        rw (e, first, pick) (r (omega arith) (omega arith) h)

pub first_bound : (f : ℕ → Bool) (k n : ℕ) → first f k n ≤ k + n
unfolding first pick
first_bound f k zero = omega arith
first_bound f k (suc n) = go (f k) refl (first_bound f (suc k) n)
  where
    go : (b : Bool) → f k ≡ b → first f (suc k) n ≤ suc k + n → first f k (suc n) ≤ k + suc n
    go true e r = rw (e, first, pick) (omega arith)
    go false e r = rw (e, first, pick) (omega arith)

-- the number that passes, or the last, is the first where none before it passes
pub first_is : (f : ℕ → Bool) (n k : ℕ) → k ≤ n → (k < n → Is (f k)) → ((g : ℕ) → g < k → Is (f g) → ⊥) → k ≡ first f 0 n
first_is f n k le h none =
    let bound = first_bound f 0 n in
    elim (split (first f 0 n <? k)) [
      | inl early ↦ let l = less early in absurd (none (first f 0 n) l (first_found f 0 n (omega arith)))
      | inr far ↦
          let ge = not_less far in
          elim (split (k <? n)) [
            | inl inside ↦ let most = first_most f 0 n k (omega arith) (omega (arith, less inside)) (h (less inside)) in omega arith
            | inr end ↦ omega (arith, not_less end)
          ]
    ]

-- a loop that looks for the first of n numbers: what is left to search gives the whole search's number
pub left : (n k : ℕ) → k < n → n - k ≡ suc (n - (k + 1))
left n k h = omega arith

pub first_start : (f : ℕ → Bool) (n : ℕ) → first f 0 (n - 0) ≡ first f 0 n
first_start f n = let z : n - 0 ≡ n = omega arith in rw z

module _ (f : ℕ → Bool) (n k : ℕ) where
  pub first_next : k < n → f k ≡ false → first f k (n - k) ≡ first f (k + 1) (n - (k + 1))
  unfolding first pick
  first_next h e = rw (left n k h, first, e, pick, add-one k)

  pub first_stop : k < n → Is (f k) → first f k (n - k) ≡ k
  unfolding first pick
  first_stop h e = rw (left n k h, first, e, pick)

  pub first_end : n ≤ k → first f k (n - k) ≡ k
  unfolding first
  first_end h = let z : n - k ≡ 0 = omega arith in rw z

-- what holds at k, k + 1, .., of n numbers, one by one
abbrev pub Firsts : (ℕ → Type 0) → ℕ → ℕ → Type 0
Firsts Q k zero = Unit {0}
Firsts Q k (suc n) = Q k × Firsts Q (suc k) n

infixr 5 ◌also◌
pub ◌also◌ : {A B : Type 0} → A → B → A × B
a also b = (a, b)

pub at_each : (Q : ℕ → Type 0) (k n : ℕ) → Firsts Q k n → (l : ℕ) → k ≤ l → l < k + n → Q l
at_each Q k zero f l a b = absurd (omega arith)
at_each Q k (suc n) f l a b = go (eqb k l) refl (at_each Q (suc k) n f.1 l)
  where
    go : (t : Bool) → eqb k l ≡ t → (suc k ≤ l → l < suc k + n → Q l) → Q l
    go true e r = rw (eqb-true k l e) at f.0
    go false e r = let ne = eqb-false k l e in r (omega arith) (omega arith)
