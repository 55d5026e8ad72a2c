-- Checks in a row: what a pass, and a refusal, say of the single checks. Assumes nothing.
use Prim.Native.Nat.{ℕ, zero, suc, ◌+◌, ◌-◌, ◌≤◌, ◌<◌}
use mathlib.Core.Path.{◌≡◌, refl, sym}
use mathlib.Core.Logic.{◌⊎◌, inl, inr, ◌↔◌}
use mathlib.Core.Bool.{Bool, true, false}
use native.Mathlib.Numerals.{add-one}
use native.Mathlib.Omega.{arith}
use lib.Dec.{eqb}
use borrow.Author.Tests.{eqb-true, eqb-false}
use Rattle.std.specs.Prelude.{Ok, Err}
use Rattle.model.specs.Tests.{Is, non}
use Rattle.model.specs.Outcomes.{require, ◌then◌, scan, conclude, Outcome}
use Rattle.model.specs.declared.Refusal.{Refusal}
use Rattle.model.proofs.Tests.{fails, failing, refuted, left}

pub never {ℓ} : {A : Type ℓ} {r : Refusal} → ◌≡◌ {A = Outcome} (Err r) (Ok tt) → A
never h = let z : ◌≡◌ {A = ℕ} 0 1 = cc in absurd (omega arith)

-- a pass of two checks is a pass of both
pub then_pass : (a b : Outcome) → a then b ≡ Ok tt → (a ≡ Ok tt) × (b ≡ Ok tt)
unfolding ◌then◌
then_pass (Ok _) b h = (refl, h)
then_pass (Err r) b h = never h

pub passes_then : {a b : Outcome} → a ≡ Ok tt → b ≡ Ok tt → a then b ≡ Ok tt
unfolding ◌then◌
passes_then {a} {b} h k = rw (h, ◌then◌) k

-- a refusal of two checks is the first's, or the second's after a pass
pub then_refuse : (a b : Outcome) (r : Refusal) → a then b ≡ Err r → (a ≡ Err r) ⊎ ((a ≡ Ok tt) × (b ≡ Err r))
unfolding ◌then◌
then_refuse (Ok _) b r h = inr (refl, h)
then_refuse (Err q) b r h = inl h

pub then_cases : {C : Type 0} (a b : Outcome) (r : Refusal) → a then b ≡ Err r → (a ≡ Err r → C) → (a ≡ Ok tt → b ≡ Err r → C) → C
then_cases a b r h f g = elim (then_refuse a b r h) [ inl e ↦ f e | inr e ↦ g e.0 e.1 ]

pub then_assoc : (a b c : Outcome) → (a then b) then c ≡ a then (b then c)
unfolding ◌then◌
then_assoc (Ok _) b c = refl
then_assoc (Err r) b c = refl

-- a test that must pass
pub require_pass : (b : Bool) (r : Refusal) → require b r ≡ Ok tt → Is b
unfolding require
require_pass true r h = refl
require_pass false r h = never h

pub required : (b : Bool) (r : Refusal) → Is b → require b r ≡ Ok tt
unfolding require
required b r h = rw (h, require)

-- a test that fails is refused
pub require_fails : {b : Bool} {r : Refusal} → (Is b → ⊥) → require b r ≡ Err r
unfolding require
require_fails n = rw (fails (refuted n), require)

pub require_refuse : (b : Bool) (q r : Refusal) → require b q ≡ Err r → Is (non b) × (q ≡ r)
unfolding require
require_refuse true q r h = never (sym h)
require_refuse false q r h = (failing refl, cc)

-- a scan passes where the check of each record passes
pub scan_pass_from : (f : ℕ → Outcome) (k n : ℕ) → scan f k n ≡ Ok tt → (l : ℕ) → k ≤ l → l < k + n → f l ≡ Ok tt
unfolding scan
scan_pass_from f k zero h l a b = absurd (omega arith)
scan_pass_from f k (suc n) h l a b = go (eqb k l) refl (scan_pass_from f (suc k) n (then_pass (f k) _ h).1 l)
  where
    go : (t : Bool) → eqb k l ≡ t → (suc k ≤ l → l < suc k + n → f l ≡ Ok tt) → f l ≡ Ok tt
    go true e r = rw (← eqb-true k l e) (then_pass (f k) _ h).0
    go false e r = let ne = eqb-false k l e in r (omega arith) (omega arith)

pub scan_pass : (f : ℕ → Outcome) (n : ℕ) → scan f 0 n ≡ Ok tt → (l : ℕ) → l < n → f l ≡ Ok tt
scan_pass f n h l lt = scan_pass_from f 0 n h l (omega arith) (omega arith)

passes_scan_from : (f : ℕ → Outcome) (k n : ℕ) → ((l : ℕ) → k ≤ l → l < k + n → f l ≡ Ok tt) → scan f k n ≡ Ok tt
unfolding scan
passes_scan_from f k zero h = refl
passes_scan_from f k (suc n) h =
    passes_then (h k (omega arith) (omega arith)) (passes_scan_from f (suc k) n (λ l a b. h l (omega arith) (omega arith)))

pub passes_scan : (f : ℕ → Outcome) (n : ℕ) → ((l : ℕ) → l < n → f l ≡ Ok tt) → scan f 0 n ≡ Ok tt
passes_scan f n h = passes_scan_from f 0 n (λ l a b. h l (omega arith))

-- a scan, where each record's check agrees with a statement
pub scan_agrees :
    (f : ℕ → Outcome) (Q : ℕ → Type 0) (n : ℕ) → ((k : ℕ) → k < n → (f k ≡ Ok tt) ↔ Q k) →
    (scan f 0 n ≡ Ok tt) ↔ ((k : ℕ) → k < n → Q k)
scan_agrees f Q n e = (λ h k lt. (e k lt).0 (scan_pass f n h k lt), λ q. passes_scan f n (λ k lt. (e k lt).1 (q k lt)))

-- a refusal of a scan is that of the first record whose check does not pass
pub record RefusedAt (f : ℕ → Outcome) (k n : ℕ) (r : Refusal) : Type 0 where
  pub at : ℕ
  pub from : k ≤ at
  pub inside : at < k + n
  pub before : (l : ℕ) → k ≤ l → l < at → f l ≡ Ok tt
  pub refuses : f at ≡ Err r

scan_refuse_from : (f : ℕ → Outcome) (k n : ℕ) (r : Refusal) → scan f k n ≡ Err r → RefusedAt f k n r
unfolding scan
scan_refuse_from f k zero r h = never (sym h)
scan_refuse_from f k (suc n) r h = go (then_refuse (f k) _ r h) (scan_refuse_from f (suc k) n r)
  where
    go : (f k ≡ Err r) ⊎ ((f k ≡ Ok tt) × (scan f (suc k) n ≡ Err r)) → (scan f (suc k) n ≡ Err r → RefusedAt f (suc k) n r)
        → RefusedAt f k (suc n) r
    go (inl e) rest = record { at = k; from = omega arith; inside = omega arith; before = λ l a b. absurd (omega arith); refuses = e }
    go (inr e) rest =
        let w = rest e.1 in
        record {
          at = w.at;
          from = omega (arith, w.from);
          inside = omega (arith, w.inside);
          before = λ l a b. early w.at w.before l a b;
          refuses = w.refuses;
        }
      where
        early : (m : ℕ) → ((l : ℕ) → suc k ≤ l → l < m → f l ≡ Ok tt) → (l : ℕ) → k ≤ l → l < m → f l ≡ Ok tt
        early m h l a b = next (eqb k l) refl
          where
            next : (t : Bool) → eqb k l ≡ t → f l ≡ Ok tt
            next true q = rw (← eqb-true k l q) e.0
            next false q = let ne = eqb-false k l q in h l (omega arith) b

pub scan_refuse : (f : ℕ → Outcome) (n : ℕ) (r : Refusal) → scan f 0 n ≡ Err r → RefusedAt f 0 n r
scan_refuse f n r h = scan_refuse_from f 0 n r h

-- what is answered after the last check
pub conclude_ok : {A : Type 0} (o : Outcome) (a b : A) → conclude o a ≡ Ok b → (o ≡ Ok tt) × (a ≡ b)
unfolding conclude
conclude_ok (Ok _) a b h = (refl, cc)
conclude_ok (Err r) a b h = let z : ◌≡◌ {A = ℕ} 0 1 = cc in absurd (omega arith)

pub conclude_refused : {A : Type 0} (o : Outcome) (a : A) (r : Refusal) → conclude o a ≡ Err r → o ≡ Err r
unfolding conclude
conclude_refused (Ok _) a r h = let z : ◌≡◌ {A = ℕ} 0 1 = cc in absurd (omega arith)
conclude_refused (Err q) a r h = cc

pub conclude_pass : {A : Type 0} (o : Outcome) (a : A) → o ≡ Ok tt → conclude o a ≡ Ok a
unfolding conclude
conclude_pass o a h = rw (h, conclude)

-- a loop over records: what is left to scan is the whole scan's outcome
pub scan_start : (f : ℕ → Outcome) (n : ℕ) → scan f 0 (n - 0) ≡ scan f 0 n
scan_start f n = let z : n - 0 ≡ n = omega arith in rw z

module _ (f : ℕ → Outcome) (n k : ℕ) where
  pub scan_next : k < n → f k ≡ Ok tt → scan f k (n - k) ≡ scan f (k + 1) (n - (k + 1))
  unfolding scan ◌then◌
  scan_next h e = rw (left n k h, scan, e, ◌then◌, add-one k)

  pub scan_stop : {r : Refusal} → k < n → f k ≡ Err r → scan f k (n - k) ≡ Err r
  unfolding scan ◌then◌
  scan_stop h e = rw (left n k h, scan, e, ◌then◌)

  pub scan_end : n ≤ k → scan f k (n - k) ≡ Ok tt
  unfolding scan
  scan_end h = let z : n - k ≡ 0 = omega arith in rw z
