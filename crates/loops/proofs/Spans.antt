-- The statements of a loop stand together, from its FOR to the next, so that a pass over those alone decides. Assumes nothing.
use Prim.Native.Nat.{ℕ, zero, suc, ◌+◌, ◌/◌, ◌≤◌, ◌<◌}
use mathlib.Core.Path.{◌≡◌, refl, sym, ◌∙◌, subst}
use mathlib.Core.Logic.{inl, inr}
use mathlib.Core.Bool.{Bool, true, false}
use native.Mathlib.Omega.{arith}
use Rattle.std.specs.Prelude.{length, Option, Some, None, MatchOption}
use Rattle.std.specs.Bool.{MatchBool}
use Rattle.std.specs.Option.{unwrap_or}
use Rattle.std.proofs.lemmas.Bool.{cases_lt}
use Rattle.model.specs.Tests.{Is, any, pick}
use Rattle.model.specs.Bytes.{Bytes}
use Rattle.model.specs.Layout.{Plan, statement_count}
use Rattle.model.specs.Statements.{opens, loop, loop_before}
use Rattle.model.proofs.Tests.{falsum, pick_true, pick-false, among}
use Rattle.primitives.proofs.Searches.{none_of}
use Rattle.loops.specs.Parallel.{LoopSpan}

module _ (P : Plan) where
  -- a loop opens at a statement or before it
  pub loop_most : (s : ℕ) → loop P s ≤ s
  unfolding loop_before pick
  loop_most zero = go (opens P 0)
    where
      go : (b : Bool) → pick b 0 0 ≤ 0
      go true = omega arith
      go false = omega arith
  loop_most (suc s) = go (opens P (suc s)) (loop_most s)
    where
      go : (b : Bool) → loop P s ≤ s → pick b (suc s) (loop P s) ≤ suc s
      go true h = omega arith
      go false h = omega arith

  opened : (s : ℕ) → Is (opens P s) → loop P s ≡ s
  unfolding loop_before
  opened s o = pick_true (opens P s) s (loop_before P s) o

  kept : (s : ℕ) → opens P s ≡ false → loop P s ≡ loop_before P s
  unfolding loop_before
  kept s o = pick-false (opens P s) s (loop_before P s) o

  -- from a FOR on, loops open there or later
  before_least : (f s : ℕ) → Is (opens P f) → f < s → f ≤ loop_before P s
  before_least f zero o lt = absurd (omega arith)
  before_least f (suc s) o lt = go (opens P s) refl (before_least f s o)
    where
      go : (b : Bool) → opens P s ≡ b → (f < s → f ≤ loop_before P s) → f ≤ loop P s
      go true e h = rw (opened s e) (omega arith)
      go false e h =
          let other : ¬ (f ≡ s) = λ same. falsum (sym e ∙ rw same at o) in
          rw (kept s e) (h (omega arith))

  loop_least : (f s : ℕ) → Is (opens P f) → f ≤ s → f ≤ loop P s
  loop_least f s o le = before_least f (suc s) o (omega arith)

  -- no loop opens between FOR f and t
  abbrev pub NoneOpens : ℕ → ℕ → Type 0
  NoneOpens f t = (s : ℕ) → f < s → s < t → opens P s ≡ false

  -- so the statements from f on are of its loop
  own_loop : (f s t : ℕ) → Is (opens P f) → NoneOpens f t → f ≤ s → s < t → loop P s ≡ f
  own_loop f zero t o none le lt = let e : f ≡ 0 = omega arith in subst (λ x. loop P x ≡ f) e (opened f o)
  own_loop f (suc s) t o none le lt =
      elim (cases_lt f (suc s)) [
        | inl l ↦ kept (suc s) (none (suc s) l lt) ∙ own_loop f s t o none (omega arith) (omega arith)
        | inr g ↦ let e : f ≡ suc s = omega arith in subst (λ x. loop P x ≡ f) e (opened f o)
      ]

  -- the loop ends before the next FOR, or at the last statement
  pub span_to : (f t : ℕ) → Is (opens P f) → NoneOpens f t → f < t → t ≤ statement_count P → (t < statement_count P → Is (opens P t)) → LoopSpan P f t
  span_to f t o none lt bound next =
      record {
        bound = bound;
        own = λ s le l. own_loop f s t o none le l;
        only = λ s inside e. (omega (arith, loop_most s), before s inside e);
      }
    where
      before : (s : ℕ) → s < statement_count P → loop P s ≡ f → s < t
      before s inside e =
          let m : ¬ (t ≤ s) = λ le. absurd (omega (arith, loop_least t s (next (omega arith)) le)) in omega arith

-- over the plans with these statements
module _ (statements : Bytes) where
  abbrev count : ℕ
  count = length statements / 4

  -- whether statement t opens a loop
  abbrev pub Told : Bool → ℕ → Type 0
  Told b t = (P : Plan) → P.statements ≡ statements → opens P t ≡ b

  -- the first after f that does, and where the loop that f opens ends
  abbrev pub NextFor : ℕ → Option ℕ → Type 0
  NextFor f r = MatchOption r ((t : ℕ) → f + 1 ≤ t → t < count → Told false t)
      (λ t. (f + 1 ≤ t) × (t < count) × Told true t × ((s : ℕ) → f + 1 ≤ s → s < t → Told false s))

  pub span_found : (f : ℕ) → f < count → (r : Option ℕ) → NextFor f r
      → (unwrap_or r count ≤ count) × ((P : Plan) → P.statements ≡ statements → Is (opens P f) → LoopSpan P f (unwrap_or r count))
  span_found f inside None none = (
    omega arith,
    λ P section o. span_to P f count o (λ s l m. none s (omega arith) m P section) inside (rw section (omega arith)) (λ l. absurd (omega (arith, rw section at l))),
  )
  span_found f inside (Some t) (le, lt, here, none) = (
    omega arith,
    λ P section o. span_to P f t o (λ s l m. none s (omega arith) m P section) (omega arith) (rw section (omega arith)) (λ l. here P section),
  )

-- a search among the statements of the loop of FOR f decides of all statements, where none of other loops passes
pub span_decides : (P : Plan) {f end : ℕ} {test : ℕ → Bool} → LoopSpan P f end → ((s : ℕ) → (loop P s ≡ f → ⊥) → test s ≡ false) → (r : Bool)
    → MatchBool r ((s : ℕ) × (f ≤ s) × (s < end) × Is (test s)) ((s : ℕ) → f ≤ s → s < end → test s ≡ false) → r ≡ any (statement_count P) test
span_decides P {test = test} span others true (s, le, lt, h) = sym (among {f = test} (s, omega (arith, span.bound), h))
span_decides P {f} {end} {test} span others false none = sym (none_of (statement_count P) test at)
  where
    at : (s : ℕ) → s < statement_count P → test s ≡ false
    at s lt =
        elim (cases_lt s end) [
          | inl l ↦ elim (cases_lt s f) [ inl m ↦ others s (λ e. absurd (omega (arith, (span.only s lt e).0))) | inr m ↦ none s m l ]
          | inr m ↦ others s (λ e. absurd (omega (arith, (span.only s lt e).1)))
        ]
