-- The number is that of an answer that keeps the promise of `charge`. Assumes nothing.
use borrow.Author.Rules.{rules}
use Rattle.mavisglen.proofs.Exported.{exported_charge}
use Rattle.mavisglen.proofs.mavisglen_charge.Goals as goal

pub returns : goal.returns
returns c = search (rules, exported_charge)
