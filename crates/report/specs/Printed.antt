-- What the report prints: the line of the answer, and the lines of the pieces of each symbol's node.
use Rattle.std.specs.Prelude.{◌≡◌, ℕ, zero, suc, List, [], ◌++◌, length}
use Rattle.std.specs.declared.option.Option.{Option}
use Rattle.std.specs.Io.KnownBytes.{Appends}
use Rattle.model.specs.Outcomes.{Answer}
use Rattle.model.specs.Bytes.{Bytes}
use Rattle.model.specs.Layout.{plan_of, assigned}
use Rattle.model.specs.DataSets.{data_of, pieces}
use Rattle.model.specs.Evaluation.{MOST_WORDS}
use Rattle.model.specs.Promises.{EvaluationPromise}
use Rattle.model.specs.Answers.{report}
use Rattle.listing.specs.Text.{Text, answer_text, node_text}

-- the lines of the first n symbols, whose members stand in the words
unfoldable pub symbols_text : Bytes → Bytes → List ℕ → ℕ → Text
symbols_text p d words zero = []
symbols_text p d words (suc n) = symbols_text p d words n ++ node_text n (assigned (plan_of p) n) (pieces (data_of d)) words

-- the whole report
unfoldable pub report_text : Bytes → Bytes → List ℕ → Answer → Text
report_text p d words answer = answer_text (report answer) ++ symbols_text p d words (report answer).symbols

-- a writer got the report of an answer that is promised, with the words that it leaves
pub record Printed (p d : Bytes) (before after : Option (List ℕ)) : Type 0 where
  pub answer : Answer
  pub lent : List ℕ
  pub words : List ℕ
  pub enough : length lent ≡ MOST_WORDS
  pub promised : EvaluationPromise p d lent words answer
  pub shown : Appends before after (report_text p d words answer)
