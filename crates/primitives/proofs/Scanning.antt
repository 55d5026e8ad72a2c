-- A loop over the records of a section: before record k, what is left to check decides the outcome. Assumes nothing.
use Prim.Native.Nat.{ℕ, zero, suc, ◌+◌, ◌-◌, ◌<◌, ◌≤◌}
use mathlib.Core.Path.{◌≡◌, refl, sym, ◌∙◌}
use native.Mathlib.Omega.{arith}
use Rattle.std.specs.Prelude.{Ok, Err}
use Rattle.model.specs.Outcomes.{scan, Outcome}
use Rattle.model.specs.declared.Refusal.{Refusal}
use Rattle.model.proofs.Outcomes.{scan_start, scan_next, scan_stop, scan_end}

pub record Scanning (check : ℕ → Outcome) (n k : ℕ) : Type 0 where
  pub few : k ≤ n
  pub left : scan check k (n - k) ≡ scan check 0 n

pub scanning_start : (check : ℕ → Outcome) (n : ℕ) → Scanning check n 0
scanning_start check n = record { few = omega arith; left = scan_start check n }

-- a loop that leaves by `?`: at the pass of record k, at its refusal, and after the last
module _ {check : ℕ → Outcome} {n k : ℕ} (past : Scanning check n k) where
  pub scan_passes : k < n → check k ≡ Ok tt → Scanning check n (k + 1)
  scan_passes lt pass = record { few = omega arith; left = sym (scan_next check n k lt pass) ∙ past.left }

  pub scan_refuses : {r : Refusal} → k < n → check k ≡ Err r → scan check 0 n ≡ Err r
  scan_refuses lt refused = sym past.left ∙ scan_stop check n k lt refused

  pub scan_ends : n ≤ k → scan check 0 n ≡ Ok tt
  scan_ends end = sym past.left ∙ scan_end check n k end

-- scans whose checks agree
pub scan_same : (f g : ℕ → Outcome) (k n : ℕ) → ((l : ℕ) → l < k + n → f l ≡ g l) → scan f k n ≡ scan g k n
unfolding scan
scan_same f g k zero e = refl
scan_same f g k (suc n) e = rw (e k (omega arith), scan_same f g (suc k) n (λ l lt. e l (omega arith)))

pub ruleset scanned = (scanning_start, scan_passes, scan_refuses, scan_ends)
