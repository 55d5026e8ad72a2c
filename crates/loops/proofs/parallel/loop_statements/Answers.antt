-- By the search for the next statement that opens a loop. Assumes nothing.
use Prim.Native.Nat.{◌+◌, ◌/◌}
use mathlib.Core.Path.{refl}
use mathlib.Core.Bool.{true, false}
use lib.ListN.{length}
use Rattle.model.specs.Statements.{opens}
use borrow.Author.Rules.{rules}
use Rattle.loops.proofs.Ranges.{find_in}
use Rattle.loops.proofs.Spans.{Told, NextFor, span_found}
use Rattle.loops.proofs.parallel.loop_statements.Goals as goal
use Rattle.loops.proofs.parallel.loop_statements.Goals.{After-find}

found : (c : After-find) → NextFor c.args.statements.now c.args.f c.find.result
unfolding opens
found c =
    let s = c.args.statements.now in
    find_in (c.args.f + 1) (length s / 4) (Told s true) (Told s false) _ refl c.find.result c.find.ensures.ran
    (λ x q k l m P section. search rules)
    (λ x q k. (search rules, λ l m P section. search rules))

pub returns : goal.returns
returns c =
    let span = span_found c.args.statements.now c.args.f c.requires.inside _ (found (goal.at.returns c).After-find) in
    (refl, rw c.unwrap_or-end.ensures span.0, rw c.unwrap_or-end.ensures span.1)
