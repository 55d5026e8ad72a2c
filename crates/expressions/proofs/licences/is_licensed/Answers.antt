-- Lemma 3, by its number. Assumes nothing.
use borrow.Author.Rules.{rules}
use Rattle.model.specs.Lemmas.{licence, licences}
use Rattle.expressions.proofs.licences.is_licensed.Goals as goal

pub returns-in-3 : goal.returns-in-3
unfolding licence licences
returns-in-3 c P is premises from to = rw c.in-3.is (search rules)
