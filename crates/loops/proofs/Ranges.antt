-- Searches over the numbers of a range: what the closure says of a number by true is Yes, by false No. Assumes nothing.
use Prim.Native.Nat.{ℕ, ◌+◌, ◌-◌, ◌≤◌, ◌<◌}
use mathlib.Core.Path.{◌≡◌, refl, subst}
use mathlib.Core.List.{List}
use mathlib.Core.Bool.{Bool, true, false}
use native.Mathlib.Omega.{arith}
use denote.Param.Members.{Mut, Called}
use denote.Ref.{Bor}
use Rattle.std.specs.Prelude.{length, get_or, Option, Some, None, MatchOption}
use Rattle.std.specs.Bool.{MatchBool}
use Rattle.std.specs.Fn.{CalledAt}
use Rattle.std.specs.Iterator.{ChecksAny, FindsItem}
use Rattle.std.specs.List.{range_with_len, AllWithin, HoldsAt}
use Rattle.std.specs.declared.ops.Range.{Range}
use Rattle.std.proofs.iter.Yields.{nat_range_steps}
use Rattle.std.proofs.lemmas.Iterator.{YieldsList-from_range, cases_from_any, first_from_find}
use Rattle.std.proofs.lemmas.List.FromFn.{length-range_with_len, get_or-range_with_len}

module _ (a b : ℕ) where
  abbrev all : List ℕ
  all = range_with_len a (b - a)

  number : (k : ℕ) → k < length all → (get_or all k 0 ≡ a + k) × (a + k < b)
  number k lt = let few : k < b - a = omega (arith, length-range_with_len a (b - a)) in (get_or-range_with_len a (b - a) k 0 few, omega arith)

  -- what holds of a number of the list, and of all up to one, in words of the range
  one_of : (P : ℕ → Type 0) (k : ℕ) → k < length all → HoldsAt P all k → P (a + k)
  one_of P k lt h = subst P (number k lt).0 (h 0)

  before_in : (P : ℕ → Type 0) (k : ℕ) → k ≤ length all → AllWithin P all 0 k → (x : ℕ) → a ≤ x → x < a + k → P x
  before_in P k le h x l m =
      let at : a + (x - a) ≡ x = omega arith in
      subst P at (one_of P (x - a) (omega arith) (λ d. h (x - a) d (omega arith) (omega arith)))

  all_in : (P : ℕ → Type 0) → AllWithin P all 0 (length all) → (x : ℕ) → a ≤ x → x < b → P x
  all_in P h x l m = before_in P (length all) (omega arith) h x l (omega (arith, length-range_with_len a (b - a)))

  -- where the closure tells of each number of the range whether it is one
  module _ (Yes No : ℕ → Type 0) where
    abbrev yes : ℕ → Type 0
    yes x = a ≤ x → x < b → Yes x

    abbrev no : ℕ → Type 0
    no x = a ≤ x → x < b → No x

    module _ {F : Type 0} {s : Range ℕ} (u : Range ℕ) {f : F} (range : s ≡ record { start = a; end = b }) where
      pub any_in : {g : Mut F (ℕ × Unit {0}) Bool} (r : Bool) → ChecksAny nat_range_steps g s f r u
          → ((x : ℕ) (q : F) → Called g f (x, tt) true q → a ≤ x → x < b → Yes x)
          → ((x : ℕ) (q : F) → Called g f (x, tt) false q → (q ≡ f) × (a ≤ x → x < b → No x))
          → MatchBool r ((x : ℕ) × (a ≤ x) × (x < b) × Yes x) ((x : ℕ) → a ≤ x → x < b → No x)
      any_in r ran y n = go r (cases_from_any u f r yes no ran (YieldsList-from_range a b (b - a) range refl) y n)
        where
          go : (r : Bool) → MatchBool r ((k : ℕ) × (k < length all) × HoldsAt yes all k) (AllWithin no all 0 (length all))
              → MatchBool r ((x : ℕ) × (a ≤ x) × (x < b) × Yes x) ((x : ℕ) → a ≤ x → x < b → No x)
          go true (k, lt, h) = let in_range = (number k lt).1 in (a + k, omega arith, in_range, one_of yes k lt h (omega arith) in_range)
          go false h = λ x l m. all_in no h x l m l m

      pub find_in : {g : Mut F (Bor ℕ × Unit {0}) Bool} (r : Option ℕ) → FindsItem nat_range_steps g s f r u
          → ((x : ℕ) (q : F) → CalledAt g f x true q → a ≤ x → x < b → Yes x)
          → ((x : ℕ) (q : F) → CalledAt g f x false q → (q ≡ f) × (a ≤ x → x < b → No x))
          → MatchOption r ((x : ℕ) → a ≤ x → x < b → No x) (λ x. (a ≤ x) × (x < b) × Yes x × ((y : ℕ) → a ≤ y → y < x → No y))
      find_in r ran y n = go r (first_from_find u f r yes no ran (YieldsList-from_range a b (b - a) range refl) y n)
        where
          go : (r : Option ℕ) → MatchOption r (AllWithin no all 0 (length all))
              (λ x. yes x × (i : ℕ) × (i < length all) × HoldsAt (λ y. y ≡ x) all i × AllWithin no all 0 i)
              → MatchOption r ((x : ℕ) → a ≤ x → x < b → No x) (λ x. (a ≤ x) × (x < b) × Yes x × ((y : ℕ) → a ≤ y → y < x → No y))
          go None h = λ x l m. all_in no h x l m l m
          go (Some x) (y, i, lt, at, none) =
              let e : a + i ≡ x = one_of (λ y. y ≡ x) i lt at in
              let in_range = (number i lt).1 in
              (omega arith, omega arith, y (omega arith) (omega arith), λ z l m. before_in no i (omega arith) none z l (omega arith) l (omega arith))
