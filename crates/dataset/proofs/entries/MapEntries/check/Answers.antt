-- Where all entries fit, each one's check passes; else the first that does not is met. Assumes nothing.
use Rattle.std.proofs.Common.{◌≡◌, ◌<◌, ◌/◌, length, Bool, true, false, not, rules, sym, ap, ◌∙◌, arith}
use borrow.Author.Tests.{tests}
use Rattle.model.specs.Outcomes.{require}
use Rattle.model.proofs.Tests.{every_at}
use Rattle.model.proofs.Outcomes.{required, passes_scan}
use Rattle.dataset.specs.Entries.{entry_fitting}
use Rattle.dataset.proofs.Chunks.{cut_in_two, all_give, first_gives}
use Rattle.dataset.proofs.Scans.{scan_met}
use Rattle.dataset.proofs.entries.MapEntries.check.Goals as goal

turned : (b : Bool) {c : Bool} → not b ≡ c → b ≡ not c
turned true e = ap not e
turned false e = ap not e

pub returns-then-all_fit : goal.returns-then-all_fit
returns-then-all_fit c =
    let fit = sym c.all_fit.ensures ∙ c.if-all_fit.true in
    sym (passes_scan _ _ (λ k lt. required _ _ (every_at _ _ fit k lt)))

pub returns-in-Some : goal.returns-in-Some
unfolding require
returns-in-Some c =
    let run = c.in-Some.ensures.runs in
    let e = c.args.self.now in
    let cut = cut_in_two c.chunks_exact-entries.ensures.runs c.chunks_exact-entries.ensures.size c.chunks_exact-entries.ensures.rest run.0 run.1 in
    let first = first_gives run.0 e.bytes.now cut _ _ (λ k. not (entry_fitting e.limit e.is_partial k)) (λ x b q k. search (rules, tests)) _ run.2.1 in
    let inside : c.in-Some.element < length e.bytes.now / 2 = omega (arith, run.2.0, cut.0) in
    scan_met _ _ c.in-Some.element inside (λ k lt. required _ _ (turned _ (first.1 k lt))) (rw (turned _ first.0))

pub returns-in-None : goal.returns-in-None
returns-in-None c =
    let run = c.in-None.ensures.runs in
    let e = c.args.self.now in
    let cut = cut_in_two c.chunks_exact-entries.ensures.runs c.chunks_exact-entries.ensures.size c.chunks_exact-entries.ensures.rest run.0 run.1 in
    let all = all_give run.0 e.bytes.now cut _ _ (λ k. not (entry_fitting e.limit e.is_partial k)) (λ x b q k. search (rules, tests)) run.2.0 run.2.1 in
    sym (passes_scan _ _ (λ k lt. required _ _ (turned _ (all k lt))))
