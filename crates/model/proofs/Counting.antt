-- The laws of counting: counts and sums, the one bits of words as elements, and that a count numbers what it counts. Assumes nothing.
use Prim.Native.Nat.{ℕ, zero, suc, ◌+◌, ◌-◌, ◌*◌, ◌≤◌, ◌<◌}
use mathlib.Core.Path.{◌≡◌, refl, sym, ap, ap₂, ◌∙◌}
use mathlib.Core.Logic.{◌⊎◌, inl, inr, ◌↔◌}
use mathlib.Core.Bool.{Bool, true, false, false≢true}
use mathlib.Core.List.{List}
use native.Mathlib.Nat.{add-zero, add-suc, add_assoc}
use native.Mathlib.Numerals.{add-one}
use native.Mathlib.Decide.{ℕ_discrete, dec_lt}
use native.Mathlib.Omega.{arith}
use lib.ListN.{get_or}
use Rattle.model.specs.Tests.{Is, ◌and◌, non, pick, ◌<?◌}
use Rattle.model.specs.Words.{bit, holds, digit}
use Rattle.model.specs.Counting.{count, sum, ones, without, ones_lacking}
use Rattle.model.specs.Fetches.{Numbered}
use Rattle.model.proofs.Tests.{less, less!, fails, refuted, pick_true, pick-false}
use Rattle.model.proofs.Words.{digit_less, bit_number, holds-bit}

-- counts
pub count_same : (n : ℕ) (f g : ℕ → Bool) → ((e : ℕ) → e < n → f e ≡ g e) → count n f ≡ count n g
unfolding count
count_same zero f g h = refl
count_same (suc n) f g h = ap₂ (λ (x : ℕ) (t : Bool). x + digit t) (count_same n f g (λ e l. h e (omega arith))) (h n (omega arith))

pub count_most : (n : ℕ) (test : ℕ → Bool) → count n test ≤ n
unfolding count
count_most zero test = omega arith
count_most (suc n) test = omega (arith, count_most n test, digit_less (test n))

pub count_add : (n m : ℕ) (test : ℕ → Bool) → count (n + m) test ≡ count n test + count m (λ e. test (n + e))
unfolding count
count_add n zero test = ap (λ (k : ℕ). count k test) (add-zero n) ∙ sym (add-zero (count n test))
count_add n (suc m) test =
    ap (λ (k : ℕ). count k test) (add-suc n m) ∙ ap (λ (x : ℕ). x + digit (test (n + m))) (count_add n m test)
    ∙ add_assoc (count n test) (count m (λ e. test (n + e))) (digit (test (n + m)))

-- numbers that do not pass add nothing
pub count_cut : (n m : ℕ) (test : ℕ → Bool) → n ≤ m → ((e : ℕ) → n ≤ e → e < m → test e ≡ false) → count m test ≡ count n test
unfolding count
count_cut n m test le none =
    let whole : n + (m - n) ≡ m = omega arith in
    ap (λ (k : ℕ). count k test) (sym whole) ∙ count_add n (m - n) test
    ∙ ap (λ (x : ℕ). count n test + x) (nothing (m - n) (λ e. test (n + e)) (λ e l. none (n + e) (omega arith) (omega arith))) ∙ add-zero _
  where
    nothing : (k : ℕ) (f : ℕ → Bool) → ((e : ℕ) → e < k → f e ≡ false) → count k f ≡ 0
    nothing zero f h = refl
    nothing (suc k) f h = ap₂ (λ (x : ℕ) (t : Bool). x + digit t) (nothing k f (λ e l. h e (omega arith))) (h k (omega arith))

-- sums
pub sum_same : (n : ℕ) (f g : ℕ → ℕ) → ((i : ℕ) → i < n → f i ≡ g i) → sum n f ≡ sum n g
unfolding sum
sum_same zero f g h = refl
sum_same (suc n) f g h = ap₂ ◌+◌ (sum_same n f g (λ i l. h i (omega arith))) (h n (omega arith))

-- one value more, as a loop's turn adds it
pub sum_next : (n : ℕ) (f : ℕ → ℕ) → sum n f + f n ≡ sum (n + 1) f
unfolding sum
sum_next n f = ap (λ (k : ℕ). sum k f) (sym (add-one n))

pub sum_most : (n most : ℕ) (f : ℕ → ℕ) → ((i : ℕ) → i < n → f i ≤ most) → sum n f ≤ n * most
unfolding sum
sum_most zero most f h = omega arith
sum_most (suc n) most f h = omega (arith, sum_most n most f (λ i l. h i (omega arith)), h n (omega arith))

-- the elements of so many words, word by word
pub count_words : (k : ℕ) (test : ℕ → Bool) → sum k (λ w. count 64 (λ b. test (w * 64 + b))) ≡ count (k * 64) test
unfolding sum count
count_words zero test = refl
count_words (suc k) test =
    let end : k * 64 + 64 ≡ suc k * 64 = omega arith in
    ap (λ (x : ℕ). x + count 64 (λ b. test (k * 64 + b))) (count_words k test) ∙ sym (count_add (k * 64) 64 test)
    ∙ ap (λ (n : ℕ). count n test) end

-- the ones of the bits that one word has and another lacks
pub ones-without : (v w : ℕ) → ones (without v w) ≡ count 64 (λ b. bit v b and non (bit w b))
unfolding ones without
ones-without v w = count_same 64 _ _ (λ b l. bit_number 64 _ b l)

-- are the elements that one set has and another lacks
pub ones_lacking_lem : (words : List ℕ) (at from : ℕ) → ones_lacking words at from ≡ count 512 (λ e. holds words at e and non (holds words from e))
unfolding ones_lacking
ones_lacking_lem words at from =
    sum_same 8 _ _ (λ w l.
    ones-without (get_or words (at + w) 0) (get_or words (from + w) 0)
    ∙ count_same 64 _ _ (λ b k. ap₂ (λ (s t : Bool). s and non t) (sym (holds-bit words at w b k)) (sym (holds-bit words from w b k))))
    ∙ count_words 8 (λ e. holds words at e and non (holds words from e))

-- what is numbered is so however it is said
pub numbered_same : {Q R : ℕ → ℕ → Type 0} {n : ℕ} → ((i e : ℕ) → Q i e ↔ R i e) → Numbered Q n → Numbered R n
numbered_same same A =
    record {
      piece = A.piece;
      element = A.element;
      each_is = λ k l. (same _ _).0 (A.each_is k l);
      all_have = λ i e h. A.all_have i e ((same i e).1 h);
      only_one = A.only_one;
    }

-- no pair, and one pair
numbered_none : {Q : ℕ → ℕ → Type 0} → ((i e : ℕ) → Q i e → ⊥) → Numbered Q 0
numbered_none none =
    record {
      piece = λ k. 0;
      element = λ k. 0;
      each_is = λ k l. absurd (omega arith);
      all_have = λ i e h. absurd (none i e h);
      only_one = λ k l lk ll p q. absurd (omega arith);
    }

numbered_one : {Q : ℕ → ℕ → Type 0} (i e : ℕ) → Q i e → ((j f : ℕ) → Q j f → (i ≡ j) × (e ≡ f)) → Numbered Q 1
numbered_one i e here only =
    record {
      piece = λ k. i;
      element = λ k. e;
      each_is = λ k l. here;
      all_have = λ j f h. (0, omega arith, (only j f h).0, (only j f h).1);
      only_one = λ k l lk ll p q. omega arith;
    }

-- pairs of two sorts, none of both, numbered one sort after the other
module _ {Q R : ℕ → ℕ → Type 0} {n m : ℕ} (A : Numbered Q n) (B : Numbered R m) (apart : (i e : ℕ) → Q i e → R i e → ⊥) where
  abbrev chosen : (ℕ → ℕ) → (ℕ → ℕ) → ℕ → ℕ
  chosen f g k = pick (k <? n) (f k) (g (k - n))

  former : (f g : ℕ → ℕ) (k : ℕ) → k < n → chosen f g k ≡ f k
  former f g k l = pick_true _ _ _ (less! l)

  latter : (f g : ℕ → ℕ) (k : ℕ) → n ≤ k → chosen f g k ≡ g (k - n)
  latter f g k l = pick-false _ _ _ (fails (refuted (λ h. let q = less h in omega arith)))

  shifted : (f g : ℕ → ℕ) (k : ℕ) → chosen f g (n + k) ≡ g k
  shifted f g k = let back : n + k - n ≡ k = omega arith in latter f g (n + k) (omega arith) ∙ ap g back

  abbrev both_piece : ℕ → ℕ
  both_piece = chosen A.piece B.piece

  abbrev both_element : ℕ → ℕ
  both_element = chosen A.element B.element

  each : (k : ℕ) → k < n + m → Dec (k < n) → Q (both_piece k) (both_element k) ⊎ R (both_piece k) (both_element k)
  each k l (yes h) = rw (former A.piece B.piece k h, former A.element B.element k h) (inl (A.each_is k h))
  each k l (no h) =
      rw (latter A.piece B.piece k (omega arith), latter A.element B.element k (omega arith))
      (inr (B.each_is (k - n) (omega arith)))

  -- one of each sort is not the same
  meet : (k l : ℕ) → k < n → n ≤ l → l < n + m → both_piece k ≡ both_piece l → both_element k ≡ both_element l → ⊥
  meet k l lk le ll p q =
      let piece : A.piece k ≡ B.piece (l - n) = sym (former A.piece B.piece k lk) ∙ p ∙ latter A.piece B.piece l le in
      let element : A.element k ≡ B.element (l - n) = sym (former A.element B.element k lk) ∙ q ∙ latter A.element B.element l le in
      apart _ _ (rw (piece, element) at (A.each_is k lk)) (B.each_is (l - n) (omega arith))

  once : (k l : ℕ) → k < n + m → l < n + m → both_piece k ≡ both_piece l → both_element k ≡ both_element l → Dec (k < n) → Dec (l < n) → k ≡ l
  once k l lk ll p q (yes a) (yes b) =
      A.only_one k l a b
      (sym (former A.piece B.piece k a) ∙ p ∙ former A.piece B.piece l b)
      (sym (former A.element B.element k a) ∙ q ∙ former A.element B.element l b)
  once k l lk ll p q (yes a) (no b) = absurd (meet k l a (omega arith) ll p q)
  once k l lk ll p q (no a) (yes b) = absurd (meet l k b (omega arith) lk (sym p) (sym q))
  once k l lk ll p q (no a) (no b) =
      let same = B.only_one (k - n) (l - n) (omega arith) (omega arith)
      (sym (latter A.piece B.piece k (omega arith)) ∙ p ∙ latter A.piece B.piece l (omega arith))
      (sym (latter A.element B.element k (omega arith)) ∙ q ∙ latter A.element B.element l (omega arith)) in
      omega arith

  pub numbered_both : Numbered (λ i e. Q i e ⊎ R i e) (n + m)
  numbered_both =
      record {
        piece = both_piece;
        element = both_element;
        each_is = λ k l. each k l (dec_lt k n);
        all_have = λ i e h. elim h [
          | inl q ↦ let (k, l, p, s) = A.all_have i e q in (k, omega arith, former A.piece B.piece k l ∙ p, former A.element B.element k l ∙ s)
          | inr r ↦ let (k, l, p, s) = B.all_have i e r in (n + k, omega arith, shifted A.piece B.piece k ∙ p, shifted A.element B.element k ∙ s)
        ];
        only_one = λ k l lk ll p q. once k l lk ll p q (dec_lt k n) (dec_lt l n);
      }

-- one test
numbered_test : (i e : ℕ) (t : Bool) → Numbered (λ j f. (j ≡ i) × (f ≡ e) × Is t) (digit t)
numbered_test i e true = numbered_one i e (refl, refl, refl) (λ j f h. (sym h.0, sym h.1))
numbered_test i e false = numbered_none (λ j f h. false≢true h.2)

-- the elements of a piece
numbered_row : (i n : ℕ) (test : ℕ → Bool) → Numbered (λ j e. (j ≡ i) × (e < n) × Is (test e)) (count n test)
unfolding count
numbered_row i zero test = numbered_none (λ j e h. let l = h.1 in omega arith)
numbered_row i (suc n) test =
    numbered_same
    (λ j e. (
      λ h. elim h [ inl w ↦ (w.0, (let l = w.1 in omega arith), w.2) | inr w ↦ (w.0, (let l = w.1 in omega arith), rw w.1 w.2) ],
      λ w. elim (ℕ_discrete e n) [ yes is ↦ inr (w.0, is, rw is at w.2) | no z ↦ inl (w.0, (let l = w.1 in omega arith), w.2) ],
    ))
    (numbered_both (numbered_row i n test) (numbered_test i n (test n)) (λ j e w v. let l = w.1 in let s = v.1 in omega arith))

-- the elements of all the pieces
pub numbered_sum : (m n : ℕ) (test : ℕ → ℕ → Bool) → Numbered (λ i e. (i < m) × (e < n) × Is (test i e)) (sum m (λ i. count n (test i)))
unfolding sum
numbered_sum zero n test = numbered_none (λ i e h. let l = h.0 in omega arith)
numbered_sum (suc m) n test =
    numbered_same
    (λ i e. (
      λ h. elim h [ inl w ↦ ((let l = w.0 in omega arith), w.1, w.2) | inr w ↦ ((let l = w.0 in omega arith), w.1, rw w.0 w.2) ],
      λ w. elim (ℕ_discrete i m) [ yes is ↦ inr (is, w.1, rw is at w.2) | no z ↦ inl ((let l = w.0 in omega arith), w.1, w.2) ],
    ))
    (numbered_both (numbered_sum m n test) (numbered_row m n (test m)) (λ i e w v. let l = w.0 in let s = v.0 in omega arith))

-- numbers other than c, with c's place closed
module _ (c : ℕ) where
  lowered : ℕ → ℕ
  lowered x = pick (x <? c) x (x - 1)

  lowered_is : (x : ℕ) → ((x < c) × (lowered x ≡ x)) ⊎ ((c ≤ x) × (lowered x ≡ x - 1))
  unfolding lowered
  lowered_is x =
      elim (dec_lt x c) [
        | yes l ↦ inl (l, pick_true _ _ _ (less! l))
        | no l ↦ inr (omega arith, pick-false _ _ _ (fails (refuted (λ h. l (less h)))))
      ]

  lowered_less : (x n : ℕ) → x < n → c < n → (x ≡ c → ⊥) → lowered x < n - 1
  lowered_less x n lx lc other =
      elim (lowered_is x) [ inl w ↦ omega (arith, w.0, w.1) | inr w ↦ omega (arith, w.0, w.1, other) ]

  lowered_own : (x y : ℕ) → (x ≡ c → ⊥) → (y ≡ c → ⊥) → lowered x ≡ lowered y → x ≡ y
  lowered_own x y ox oy e =
      elim (lowered_is x) [
        | inl w ↦ elim (lowered_is y) [ inl v ↦ omega (arith, w.1, v.1) | inr v ↦ omega (arith, w.0, w.1, v.0, v.1, oy) ]
        | inr w ↦ elim (lowered_is y) [ inl v ↦ omega (arith, w.0, w.1, v.0, v.1, ox) | inr v ↦ omega (arith, w.0, w.1, v.0, v.1, ox, oy) ]
      ]

-- if each of m numbers has its own below n, they are at most n
few : (m n : ℕ) (f : ℕ → ℕ) → ((k : ℕ) → k < m → f k < n) → ((k l : ℕ) → k < m → l < m → f k ≡ f l → k ≡ l) → m ≤ n
few zero n f below own = omega arith
few (suc m) n f below own =
    let last = below m (omega arith) in
    let other : (k : ℕ) → k < m → f k ≡ f m → ⊥ = λ k h e. let is = own k m (omega arith) (omega arith) e in omega arith in
    let rest = few m (n - 1) (λ k. lowered (f m) (f k)) (λ k h. lowered_less (f m) (f k) n (below k (omega arith)) last (other k h))
    (λ k l h g e. own k l (omega arith) (omega arith) (lowered_own (f m) (f k) (f l) (other k h) (other l g) e)) in
    omega arith

-- the number in B of what has a number in A
module _ {Q : ℕ → ℕ → Type 0} {n m : ℕ} (A : Numbered Q n) (B : Numbered Q m) where
  other_number : (k : ℕ) → Dec (k < n) → ℕ
  other_number k (yes h) = (B.all_have _ _ (A.each_is k h)).0
  other_number k (no h) = 0

  other_is : (k : ℕ) (l : Dec (k < n)) → k < n →
      (other_number k l < m) × (B.piece (other_number k l) ≡ A.piece k) × (B.element (other_number k l) ≡ A.element k)
  unfolding other_number
  other_is k (yes h) l = let (x, below, p, q) = B.all_have _ _ (A.each_is k h) in (below, p, q)
  other_is k (no h) l = absurd (h l)

  numbered_few : n ≤ m
  numbered_few =
      few n m (λ k. other_number k (dec_lt k n)) (λ k h. (other_is k (dec_lt k n) h).0)
      (λ k l h g e.
      let (lk, p, q) = other_is k (dec_lt k n) h in
      let (ll, r, s) = other_is l (dec_lt l n) g in
      A.only_one k l h g (sym p ∙ ap B.piece e ∙ r) (sym q ∙ ap B.element e ∙ s))

-- what is numbered has one number
pub numbered_once : {Q : ℕ → ℕ → Type 0} {n m : ℕ} → Numbered Q n → Numbered Q m → n ≡ m
numbered_once A B = let a = numbered_few A B in let b = numbered_few B A in omega arith
