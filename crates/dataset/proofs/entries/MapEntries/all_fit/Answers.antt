-- The fold over the chunks is the test of each entry. Assumes nothing.
use Rattle.std.proofs.Common.{rules, ◌∙◌}
use borrow.Author.Tests.{tests}
use Rattle.dataset.specs.Entries.{entry_fitting}
use Rattle.dataset.proofs.Chunks.{cut_in_two, folded}
use Rattle.dataset.proofs.entries.MapEntries.all_fit.Goals as goal

pub returns : goal.returns
returns c =
    let run = c.fold.ensures.runs in
    let e = c.args.self.now in
    let cut = cut_in_two c.chunks_exact.ensures.runs c.chunks_exact.ensures.size c.chunks_exact.ensures.rest run.0 run.1 in
    run.3 _ (λ x y r q k. search (rules, tests)) ∙ folded run.0 e.bytes.now cut (entry_fitting e.limit e.is_partial) run.2
