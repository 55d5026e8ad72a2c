-- A scan that meets its first refusal at a record, and the check of a map's entries. Assumes nothing.
use Rattle.std.proofs.Common.{ℕ, zero, suc, ◌+◌, ◌*◌, ◌/◌, ◌≤◌, ◌<◌, ◌≡◌, Bool, length, sym, ap, add-one, arith}
use Rattle.std.specs.Prelude.{Ok, Err}
use Rattle.model.specs.Tests.{◌=?◌}
use Rattle.model.specs.Bytes.{Bytes}
use Rattle.model.specs.Layout.{Plan, source, target, totality}
use Rattle.model.specs.DataSets.{DataSet, size, entry_fits, entries_check}
use Rattle.model.specs.Outcomes.{require, scan, Outcome}
use Rattle.model.specs.declared.Refusal.{Refusal}
use Rattle.model.specs.declared.Refusal.TheVariants.{InvalidEntry}
use Rattle.primitives.proofs.Scanning.{Scanning, scanning_start, scan_passes, scan_refuses, scan_same}
use Rattle.dataset.specs.Entries.{entry_fitting, entries_from, EntriesOf}

module _ (f : ℕ → Outcome) (n i : ℕ) (inside : i < n) (before : (k : ℕ) → k < i → f k ≡ Ok tt) where
  reached : (k : ℕ) → k ≤ i → Scanning f n k
  reached zero h = scanning_start f n
  reached (suc k) h = rw (← add-one k) (scan_passes (reached k (omega arith)) (omega arith) (before k h))

  pub scan_met : {r : Refusal} → f i ≡ Err r → Err r ≡ scan f 0 n
  scan_met refused = sym (scan_refuses (reached i (omega arith)) inside refused)

-- where the check of each entry is the map's, so is the check of all
pub entries_checked : {P : Plan} {D : DataSet} {entries : Bytes} (limit : ℕ) (partial : Bool) (m : ℕ) → EntriesOf P D m entries
    → limit ≡ size D (target P m) → partial ≡ (totality P m =? 0) → entries_from entries limit partial m ≡ entries_check P D m
unfolding entries_check entry_fits
entries_checked {P} {D} {entries} limit partial m of l t =
    let long : length entries / 2 ≡ size D (source P m) = omega (arith, of.long) in
    rw (long, l, t) (scan_same _ _ 0 _ (λ k lt. ap (λ x. require (entry_fitting (size D (target P m)) (totality P m =? 0) x) (InvalidEntry (m * 512 + k))) (of.entry_at k (omega arith))))
