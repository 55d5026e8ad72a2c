-- Each column of the range is tested. Assumes nothing.
use Rattle.std.proofs.Common.{◌≡◌, ◌+◌, ◌/◌, refl, rules, ◌∙◌, arith}
use borrow.Author.Tests.{tests}
use Rattle.std.proofs.lemmas.Iterator.{YieldsList-from_range}
use Rattle.std.proofs.lemmas.Iterator.Search.{all_from_yields_List}
use Rattle.dataset.specs.Columns.{column_at}
use Rattle.dataset.proofs.Ranges.{listed_every}
use Rattle.dataset.proofs.supplied.SuppliedPieces.keep_flags.Goals as goal

pub returns : goal.returns
returns c =
    let s = c.args.self.now in
    let test = column_at s.members.now s.size s.pieces s.is_disjoint s.is_complete in
    let n = c.div_ceil.result in
    let columns : (s.size + 63) / 64 ≡ n = omega (arith, c.div_ceil.ensures) in
    rw columns
    (all_from_yields_List test _ _ _ c.all.ensures.ran (YieldsList-from_range 0 n n refl (omega arith)) (λ x b q k. search (rules, tests))
    ∙ listed_every test n)
