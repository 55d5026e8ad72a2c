-- The number is that of an answer that keeps the promise of `check`. Assumes nothing.
use borrow.Author.Rules.{rules}
use Rattle.mavisglen.proofs.Exported.{exported_check}
use Rattle.mavisglen.proofs.mavisglen_check.Goals as goal

pub returns : goal.returns
returns c = search (rules, exported_check)
