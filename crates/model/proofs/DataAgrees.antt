-- A data set fits exactly where its checks pass, and a refusal of it holds as the table says. Assumes nothing.
use Prim.Native.Nat.{ℕ, ◌+◌, ◌-◌, ◌*◌, ◌≤◌, ◌<◌}
use mathlib.Core.Path.{◌≡◌, refl, sym, ◌∙◌}
use mathlib.Core.Logic.{◌⊎◌, inl, inr, ◌↔◌}
use native.Mathlib.Omega.{arith}
use Rattle.std.specs.Prelude.{Ok, Err}
use Rattle.model.specs.Tests.{Is, ◌and◌, non, pick, ◌=?◌, ◌<?◌, ◌≤?◌}
use Rattle.model.specs.Bytes.{Bytes}
use Rattle.model.specs.Outcomes.{require, scan, Outcome}
use Rattle.model.specs.Partitions.{PairwiseDisjoint, Covering}
use Rattle.model.specs.Layout.{Plan, map_count, supplied_count, source, target, totality, supplied_region}
use Rattle.model.specs.DataSets.{DataSet, data_of, NONE, pieces, size, entry, low, past, maps_to, entry_fits, entries_check, piece_bytes, supplied_bit, supplied, supplied_disjoint, supplied_complete, pad_bits_clear, declarations_hold, well_framed, data_check}
use Rattle.model.specs.PlainData.{WellFramed, PointsTo, EntryFits, DeclarationsHold, Fits}
use Rattle.model.specs.Answers.{refusal_report}
use Rattle.model.specs.GivenWhen.{DataGivenWhen, invalid_data, invalid_entry, invalid_partition}
use Rattle.model.specs.declared.Refusal.{Refusal}
use Rattle.model.specs.declared.Refusal.TheVariants.{InvalidPartition}
use Rattle.model.proofs.Tests.{lacks, refuted, both, pair, implied, implies, same, same!, less, less!, most, most!, which, which!, some_of, among, every_at, every_of, pick_true, pick-false, fails, split}
use Rattle.model.proofs.Outcomes.{then_pass, passes_then, then_cases, require_pass, required, require_refuse, scan_pass, passes_scan, scan_refuse}
use Rattle.model.proofs.Accepted.{begins_inside}

module _ (P : Plan) (d : Bytes) where
  frame_plainly : Is (well_framed P d) → WellFramed P d
  unfolding well_framed
  frame_plainly h =
      let h1 = both h in
      let h2 = both h1.1 in
      let h3 = both h2.1 in
      let h4 = both h3.1 in
      let h5 = both h4.1 in
      let h6 = both h5.1 in
      let h7 = both h6.1 in
      let h8 = both h7.1 in
      let h9 = both h8.1 in
      let h10 = both h9.1 in
      record {
        some_byte = most h1.0;
        edition = same h2.0;
        sections_end = λ n lt. most (both (every_at 4 _ h3.0 n lt)).1;
        nothing_after = same h4.0;
        one_piece_count = same h5.0;
        piece_count_lem = (most h6.0, most h7.0);
        size_each = same h8.0;
        sizes = λ r lt. most (every_at _ _ h9.0 r lt);
        entry_each = same h10.0;
        member_bytes_lem = same h10.1;
      }

  test_frame : WellFramed P d → Is (well_framed P d)
  unfolding well_framed
  test_frame f =
      pair (most! f.some_byte) (pair (same! f.edition)
      (pair (every_of 4 _ (λ n lt. pair (most! (begins_inside d n (f.sections_end n lt))) (most! (f.sections_end n lt)))) (pair (same! f.nothing_after)
      (pair (same! f.one_piece_count) (pair (most! f.piece_count_lem.0) (pair (most! f.piece_count_lem.1)
      (pair (same! f.size_each) (pair (every_of _ _ (λ r lt. most! (f.sizes r lt)))
      (pair (same! f.entry_each) (same! f.member_bytes_lem))))))))))

  pub frame_fits : Is (well_framed P d) ↔ WellFramed P d
  frame_fits = (frame_plainly, test_frame)

module _ (P : Plan) (D : DataSet) where
  -- a map to sets, and the entry of an element
  pub points_to : (m k e : ℕ) → Is (maps_to P D m k e) ↔ PointsTo P D m k e
  unfolding maps_to low past
  points_to m k e = (λ h. go (split (entry P D m k =? NONE)) h, back)
    where
      go : Is (entry P D m k =? NONE) ⊎ Is (non (entry P D m k =? NONE)) →
          Is (k <? size D (source P m) and entry P D m k ≤? e and e <? pick (entry P D m k =? NONE) (entry P D m k) (entry P D m k + 1)) →
          PointsTo P D m k e
      go (inl n) h =
          let above = most (both (both h).1).0 in
          let under = less (rw (pick_true (entry P D m k =? NONE) (entry P D m k) (entry P D m k + 1) n) at (both (both h).1).1) in
          absurd (omega arith)
      go (inr n) h =
          let above = most (both (both h).1).0 in
          let under = less (rw (pick-false (entry P D m k =? NONE) (entry P D m k) (entry P D m k + 1) (fails n)) at (both (both h).1).1) in
          let is : entry P D m k ≡ e = omega arith in
          record { from = less (both h).0; entry_is = is; some = λ q. lacks n (same! (is ∙ q)) }

      back : PointsTo P D m k e →
          Is (k <? size D (source P m) and entry P D m k ≤? e and e <? pick (entry P D m k =? NONE) (entry P D m k) (entry P D m k + 1))
      back w =
          let is = w.entry_is in
          let other : Is (non (entry P D m k =? NONE)) = refuted (λ q. w.some (sym is ∙ same q)) in
          let under : Is (e <? entry P D m k + 1) = less! (omega arith) in
          pair (less! w.from) (pair (most! (omega arith)) (rw (pick-false (entry P D m k =? NONE) (entry P D m k) (entry P D m k + 1) (fails other)) under))

  pub entry_fits_lem : (m k : ℕ) → Is (entry_fits P D m k) ↔ EntryFits P D m k
  unfolding entry_fits
  entry_fits_lem m k = (λ h. go (split (entry P D m k =? NONE)) h, back)
    where
      go : Is (entry P D m k =? NONE) ⊎ Is (non (entry P D m k =? NONE)) →
          Is (pick (entry P D m k =? NONE) (totality P m =? 0) (entry P D m k <? size D (target P m))) → EntryFits P D m k
      go (inl e) h = inl (same e, same (sym (pick_true _ _ _ e) ∙ h))
      go (inr e) h = inr ((λ q. lacks e (same! q)), less (sym (pick-false _ _ _ (fails e)) ∙ h))

      back : EntryFits P D m k → Is (pick (entry P D m k =? NONE) (totality P m =? 0) (entry P D m k <? size D (target P m)))
      back (inl w) = pick_true _ _ _ (same! w.0) ∙ same! w.1
      back (inr w) = pick-false _ _ _ (fails (refuted (λ q. w.0 (same q)))) ∙ less! w.1

  -- disjoint by a shared element
  disjoint_sets : (k : ℕ) → Is (supplied_disjoint P D k) ↔ PairwiseDisjoint (supplied P D k)
  unfolding supplied_disjoint supplied
  disjoint_sets k = (
    λ h i j e a b.
        let p : ¬ (i < j) = λ lt. shared h j i e b a lt in
        let q : ¬ (j < i) = λ lt. shared h i j e a b lt in
        omega arith,
    λ dis. every_of _ _ (λ e le. every_of _ _ (λ i li. every_of _ _ (λ j lj. refuted (λ t.
        let lj' : j < pieces D = omega arith in
        let eq = dis i j e (pair (less! li) (pair (less! le) (both t).0)) (pair (less! lj') (pair (less! le) (both t).1)) in
        omega arith)))),
  )
    where
      shared : Is (supplied_disjoint P D k) → (i j e : ℕ) → Is (supplied P D k i e) → Is (supplied P D k j e) → j < i → ⊥
      shared h i j e a b lt =
          lacks (every_at _ _ (every_at _ _ (every_at _ _ h e (less (both (both a).1).0)) i (less (both a).0)) j lt)
          (pair (both (both a).1).1 (both (both b).1).1)

  -- complete by no missing element
  complete_sets : (k : ℕ) → Is (supplied_complete P D k) ↔ Covering (pieces D) (size D (supplied_region P k)) (supplied P D k)
  unfolding supplied_complete supplied
  complete_sets k = (
    λ h e le. let w = some_of (every_at _ _ h e le) in (w.0, w.1, pair (less! w.1) (pair (less! le) w.2)),
    λ c. every_of _ _ (λ e le. let w = c e le in among (w.0, w.1, (both (both w.2).1).1)),
  )

  pad_bits : (k : ℕ) → Is (pad_bits_clear P D k) ↔
      ((i e : ℕ) → i < pieces D → size D (supplied_region P k) ≤ e → e < 8 * piece_bytes P D k → Is (supplied_bit P D k i e) → ⊥)
  unfolding pad_bits_clear
  pad_bits k = (
    λ h i e li le lt b.
        let t = every_at _ _ (every_at _ _ h i li) (e - size D (supplied_region P k)) (omega arith) in
        let z : size D (supplied_region P k) + (e - size D (supplied_region P k)) ≡ e = omega arith in
        lacks (rw z at t) b,
    λ h. every_of _ _ (λ i li. every_of _ _ (λ b lb. refuted (h i (size D (supplied_region P k) + b) li (omega arith) (omega arith)))),
  )

  pub supplied_right : (k : ℕ) → Is (declarations_hold P D k) ↔ DeclarationsHold P D k
  unfolding declarations_hold
  supplied_right k = (
    λ h.
        record {
          disjoint = λ t. (disjoint_sets k).0 (implied (both h).0 (which! t));
          complete = λ t. (complete_sets k).0 (implied (both (both h).1).0 (which! t));
          pad_bits = (pad_bits k).0 (both (both h).1).1;
        },
    λ s.
        pair (implies (λ t. (disjoint_sets k).1 (s.disjoint (which t))))
        (pair (implies (λ t. (complete_sets k).1 (s.complete (which t)))) ((pad_bits k).1 s.pad_bits)),
  )

-- the checks of the entries, and of the supplied partitions
abbrev entries_checked : Plan → Bytes → Outcome
entries_checked P d = scan (entries_check P (data_of d)) 0 (map_count P)

abbrev partitions_checked : Plan → Bytes → Outcome
partitions_checked P d = scan (λ k. require (declarations_hold P (data_of d) k) (InvalidPartition k)) 0 (supplied_count P)

-- a data set draws none of 12 to 14 exactly where it fits; which of entries and partitions comes first does not matter here
fits_plainly : (P : Plan) (d : Bytes) → data_check P d ≡ Ok tt → Fits P d
unfolding data_check entries_check
fits_plainly P d h =
    let (framed, h) = then_pass _ _ h in
    let (earlier, later) = then_pass _ _ h in
    let entries : entries_checked P d ≡ Ok tt = search in
    let partitions : partitions_checked P d ≡ Ok tt = search in
    record {
      frame = (frame_fits P d).0 (require_pass _ _ framed);
      entries = λ m k lm lk. (entry_fits_lem P (data_of d) m k).0 (require_pass _ _ (scan_pass _ _ (scan_pass _ _ entries m lm) k lk));
      supplied = λ k lk. (supplied_right P (data_of d) k).0 (require_pass _ _ (scan_pass _ _ partitions k lk));
    }

passes_data : (P : Plan) (d : Bytes) → Fits P d → data_check P d ≡ Ok tt
unfolding data_check entries_check
passes_data P d f =
    let entries : entries_checked P d ≡ Ok tt =
    passes_scan _ _ (λ m lm. passes_scan _ _ (λ k lk. required _ _ ((entry_fits_lem P (data_of d) m k).1 (f.entries m k lm lk)))) in
    let partitions : partitions_checked P d ≡ Ok tt =
    passes_scan _ _ (λ k lk. required _ _ ((supplied_right P (data_of d) k).1 (f.supplied k lk))) in
    passes_then (required _ _ ((frame_fits P d).1 f.frame)) (passes_then (search) (search))

pub data_fits : (P : Plan) (d : Bytes) → (data_check P d ≡ Ok tt) ↔ Fits P d
data_fits P d = (fits_plainly P d, passes_data P d)

-- where a data set is refused, the table's "given when" holds at the place
module _ (P : Plan) (d : Bytes) (r : Refusal) where
  abbrev pub DataGiven : Type 0
  DataGiven = DataGivenWhen P d (refusal_report r).number (refusal_report r).place

  entries_refuse : entries_checked P d ≡ Err r → DataGiven
  unfolding entries_check
  entries_refuse e =
      let w = scan_refuse _ _ r e in
      let v = scan_refuse _ _ r w.refuses in
      let f = require_refuse _ _ r v.refuses in
      rw (← f.1) (invalid_entry {m = w.at} {k = v.at} refl (omega arith) (omega (arith, w.inside)) (omega (arith, v.inside)) (λ s.
      lacks f.0 ((entry_fits_lem P (data_of d) w.at v.at).1 s)))

  partitions_refuse : partitions_checked P d ≡ Err r → DataGiven
  partitions_refuse e =
      let w = scan_refuse _ _ r e in
      let f = require_refuse _ _ r w.refuses in
      rw (← f.1) (invalid_partition refl (omega (arith, w.inside)) (λ s. lacks f.0 ((supplied_right P (data_of d) w.at).1 s)))

  pub data_refuses : data_check P d ≡ Err r → DataGiven
  unfolding data_check
  data_refuses h =
      then_cases _ _ r h
      (λ e. let f = require_refuse _ _ r e in rw (← f.1) (invalid_data refl refl (λ w. lacks f.0 ((frame_fits P d).1 w))))
      (λ framed h.
      let entries = entries_refuse in
      let partitions = partitions_refuse in
      then_cases _ _ r h (search) (λ passed. search))
