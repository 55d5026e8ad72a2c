-- Checks and the order of refusals: where a check refuses nothing up to a turn, its parts up to that turn pass. Assumes nothing.
use Prim.Native.Nat.{ℕ, zero, suc, ◌+◌, ◌≤◌, ◌<◌}
use mathlib.Core.Path.{◌≡◌, refl}
use mathlib.Core.Logic.{inl, inr}
use mathlib.Core.Bool.{Bool}
use native.Mathlib.Omega.{arith}
use Rattle.std.specs.Prelude.{Ok, Err}
use Rattle.model.specs.Tests.{Is}
use Rattle.model.specs.Answers.{refusal_report}
use Rattle.model.specs.Outcomes.{require, ◌then◌, scan, Outcome}
use Rattle.model.specs.RefusalOrder.{Turn, turn, Earlier, by_stage, by_item, by_check}
use Rattle.model.specs.declared.Refusal.{Refusal}
use Rattle.model.proofs.Tests.{latest}
use Rattle.model.proofs.Outcomes.{then_cases, require_pass, require_refuse, scan_refuse}

-- the turn of a refusal
abbrev pub turn_of : Refusal → Turn
turn_of r = turn (refusal_report r).number (refusal_report r).place

-- a turn is not before another of an earlier stage, of an earlier item, or of no later check
module _ {t u : Turn} where
  pub stage_passed : u.stage < t.stage → Earlier t u → ⊥
  stage_passed l (by_stage a) = omega arith
  stage_passed l (by_item e a) = omega arith
  stage_passed l (by_check e f a) = omega arith

  pub item_passed : u.stage ≡ t.stage → u.item < t.item → Earlier t u → ⊥
  item_passed q l (by_stage a) = omega arith
  item_passed q l (by_item e a) = omega arith
  item_passed q l (by_check e f a) = omega arith

  pub check_passed : u.stage ≡ t.stage → u.item ≡ t.item → u.check ≤ t.check → Earlier t u → ⊥
  check_passed q r l (by_stage a) = omega arith
  check_passed q r l (by_item e a) = omega arith
  check_passed q r l (by_check e f a) = omega arith

pub not_itself : {t : Turn} → Earlier t t → ⊥
not_itself = check_passed refl refl (omega arith)

-- a check refuses nothing up to turn t: its refusal, if any, comes later
abbrev pub ClearUpTo : Turn → Outcome → Type 0
ClearUpTo t o = (s : Refusal) → o ≡ Err s → Earlier t (turn_of s)

-- it passes where all that it refuses for comes no later
pub clear_passes : (t : Turn) (o : Outcome) → ClearUpTo t o → ((s : Refusal) → o ≡ Err s → Earlier t (turn_of s) → ⊥) → o ≡ Ok tt
clear_passes t (Ok _) h n = refl
clear_passes t (Err s) h n = absurd (n s refl (h s refl))

pub clear_test : {t : Turn} (b : Bool) (q : Refusal) → ClearUpTo t (require b q) → (Earlier t (turn_of q) → ⊥) → Is b
clear_test {t} b q h n =
    require_pass b q (clear_passes t (require b q) h (λ s e. rw (← (require_refuse b q s e).1) n))

-- two checks
pub clear_first : {t : Turn} (a b : Outcome) → ClearUpTo t (a then b) → ClearUpTo t a
unfolding ◌then◌
clear_first a b h s e = h s (rw (e, ◌then◌))

pub clear_next : {t : Turn} (a b : Outcome) → ClearUpTo t (a then b) → a ≡ Ok tt → ClearUpTo t b
unfolding ◌then◌
clear_next a b h p s e = h s (rw (p, ◌then◌) e)

-- a test, and after it a check
pub clear_both :
    {t : Turn} (b : Bool) (q : Refusal) (rest : Outcome) → ClearUpTo t (require b q then rest) → (Earlier t (turn_of q) → ⊥) →
    Is b × ClearUpTo t rest
unfolding require
clear_both b q rest h n =
    let y = clear_test b q (clear_first (require b q) rest h) n in
    (y, clear_next (require b q) rest h (rw (y, require)))

-- the records of a scan up to record j
pub record ReachedAt (t : Turn) (f : ℕ → Outcome) (j : ℕ) : Type 0 where
  pub before : (i : ℕ) → i < j → f i ≡ Ok tt
  pub here : ClearUpTo t (f j)

scan_first :
    (f : ℕ → Outcome) (k n j : ℕ) (s : Refusal) → ((i : ℕ) → k ≤ i → i < k + j → f i ≡ Ok tt) → j < n → f (k + j) ≡ Err s →
    scan f k n ≡ Err s
unfolding scan ◌then◌
scan_first f k zero j s b l e = absurd (omega arith)
scan_first f k (suc n) zero s b l e = let z : k + 0 ≡ k = omega arith in rw (scan, rw z at e, ◌then◌)
scan_first f k (suc n) (suc j) s b l e =
    let z : k + suc j ≡ suc k + j = omega arith in
    rw (scan, b k (omega arith) (omega arith), ◌then◌)
    (scan_first f (suc k) n j s (λ i a c. b i (omega arith) (omega arith)) (omega arith) (rw z at e))

module _ (t : Turn) (f : ℕ → Outcome) (n : ℕ) (h : ClearUpTo t (scan f 0 n)) where
  clear_record : (j : ℕ) → j < n → ((i : ℕ) → i < j → f i ≡ Ok tt) → ClearUpTo t (f j)
  clear_record j l b s e = h s (scan_first f 0 n j s (λ i a c. b i (omega arith)) l (let z : 0 + j ≡ j = omega arith in rw z e))

  -- what the records before j refuse for, each after those before it passed, comes no later than t
  pub clear_scan :
      (j : ℕ) → j < n →
      ((i : ℕ) → i < j → ((l : ℕ) → l < i → f l ≡ Ok tt) → (s : Refusal) → f i ≡ Err s → Earlier t (turn_of s) → ⊥) → ReachedAt t f j
  clear_scan j l late = let b = passed j (omega arith) late in record { before = b; here = clear_record j l b }
    where
      passed :
          (j : ℕ) → j ≤ n →
          ((i : ℕ) → i < j → ((l : ℕ) → l < i → f l ≡ Ok tt) → (s : Refusal) → f i ≡ Err s → Earlier t (turn_of s) → ⊥) →
          (i : ℕ) → i < j → f i ≡ Ok tt
      passed zero le late i li = absurd (omega arith)
      passed (suc m) le late i li =
          let b = passed m (omega arith) (λ k lk. late k (omega arith)) in
          elim (latest i m li) [
            | inl e ↦ rw e (clear_passes t (f m) (clear_record m (omega arith) b) (late m (omega arith) b))
            | inr lt ↦ b i lt
          ]

-- what a check refuses for stands at this stage and item
abbrev pub Placed : Outcome → ℕ → ℕ → Type 0
Placed o stage item = (s : Refusal) → o ≡ Err s → ((turn_of s).stage ≡ stage) × ((turn_of s).item ≡ item)

pub placed_require :
    (b : Bool) (q : Refusal) {stage item : ℕ} → ((turn_of q).stage ≡ stage) × ((turn_of q).item ≡ item) → Placed (require b q) stage item
placed_require b q w s e = rw (require_refuse b q s e).1 at w

pub placed_then : (a b : Outcome) {stage item : ℕ} → Placed a stage item → Placed b stage item → Placed (a then b) stage item
placed_then a b x y s e = then_cases a b s e (x s) (λ p f. y s f)

-- what a check refuses for stands at this stage
abbrev pub Staged : Outcome → ℕ → Type 0
Staged o stage = (s : Refusal) → o ≡ Err s → (turn_of s).stage ≡ stage

pub staged_require : (b : Bool) (q : Refusal) {stage : ℕ} → (turn_of q).stage ≡ stage → Staged (require b q) stage
staged_require b q w s e = rw (require_refuse b q s e).1 at w

pub staged_then : (a b : Outcome) {stage : ℕ} → Staged a stage → Staged b stage → Staged (a then b) stage
staged_then a b x y s e = then_cases a b s e (x s) (λ p. y s)

-- a scan of checks of one stage
pub scan_stage :
    (f : ℕ → Outcome) (n stage : ℕ) → ((i : ℕ) → i < n → (s : Refusal) → f i ≡ Err s → (turn_of s).stage ≡ stage) →
    (s : Refusal) → scan f 0 n ≡ Err s → (turn_of s).stage ≡ stage
scan_stage f n stage h s e = let w = scan_refuse f n s e in h w.at (omega (arith, w.inside)) s w.refuses

-- the records of a scan up to record j, where the items grow with the records
pub clear_items :
    (t : Turn) (f : ℕ → Outcome) (n stage j : ℕ) (item : ℕ → ℕ) → ClearUpTo t (scan f 0 n) → j < n → t.stage ≡ stage →
    ((i : ℕ) → i < n → Placed (f i) stage (item i)) → ((i : ℕ) (s : Refusal) → i < j → f i ≡ Err s → item i < t.item) → ReachedAt t f j
clear_items t f n stage j item h l at placed grows =
    clear_scan t f n h j l (λ i li b s e.
    let w = placed i (omega arith) s e in
    let g = grows i s li e in
    item_passed (omega (arith, w.0)) (omega (arith, w.1)))
