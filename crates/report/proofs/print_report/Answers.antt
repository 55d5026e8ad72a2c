-- The answer's line, and then the symbols'. Assumes nothing.
use Prim.Native.Nat.{ℕ}
use mathlib.Core.Path.{◌≡◌}
use mathlib.Core.List.{List}
use lib.ListN.{length}
use borrow.Author.Rules.{rules}
use Rattle.std.specs.declared.option.Option.{Option}
use Rattle.std.specs.Io.KnownBytes.{Appends}
use Rattle.std.proofs.lemmas.Result.{on_ok_weaker}
use Rattle.model.specs.Outcomes.{Answer}
use Rattle.model.specs.Bytes.{Bytes}
use Rattle.model.specs.Evaluation.{MOST_WORDS}
use Rattle.model.specs.Promises.{EvaluationPromise}
use Rattle.model.specs.Answers.{report}
use Rattle.model.specs.declared.Report.{Report}
use Rattle.listing.specs.Text.{answer_text}
use Rattle.listing.proofs.Written.{then_written}
use Rattle.report.specs.Printed.{symbols_text, report_text, Printed}
use Rattle.report.proofs.print_report.Goals as goal

printed : (p d : Bytes) (before between after : Option (List ℕ)) (a : Answer) (r : Report) (old new : List ℕ) → length old ≡ MOST_WORDS → EvaluationPromise p d old new a → r ≡ report a
    → Appends before between (answer_text (report a)) → Appends between after (symbols_text p d new r.symbols) → Printed p d before after
unfolding report_text
printed p d before between after a r old new enough promised is first rest =
    record { answer = a; lent = old; words = new; enough = enough; promised = promised; shown = then_written before between after _ _ first (rw is at rest) }

pub returns : goal.returns
returns g c =
    on_ok_weaker c.print_symbols.result
    (λ rest. printed _ _ _ _ _ _ _ _ _ (search rules) c.evaluate-answer.ensures c.from-report.ensures c.in_ok-print_answer.ensures rest)
    c.print_symbols.ensures
