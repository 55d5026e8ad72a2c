-- Each chunk is a size. Assumes nothing.
use Rattle.std.proofs.Common.{nat_le, rules}
use borrow.Author.Tests.{tests, leb-true, le-leb}
use Rattle.dataset.proofs.Chunks.{cut_in_two, all_tested}
use Rattle.dataset.proofs.reading.sizes_fit.Goals as goal

pub returns : goal.returns
returns c =
    let run = c.all.ensures.runs in
    let cut = cut_in_two c.chunks_exact.ensures.runs c.chunks_exact.ensures.size c.chunks_exact.ensures.rest run.0 run.1 in
    let all = all_tested run.0 c.args.sizes.now cut _ _ (λ v. nat_le v 512) (λ x b q k. search (rules, tests)) _ run.2 in
    (λ h k lt. leb-true _ _ (all.0 h k lt), λ h. all.1 (λ k lt. le-leb _ _ (h k lt)))
