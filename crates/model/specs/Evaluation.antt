-- "Evaluation": what evaluating answers, and the final words.
use Rattle.std.specs.Prelude.{ℕ, ◌*◌, ◌/◌, ◌%◌, List, Ok, Err}
use Rattle.model.specs.Tests.{◌≤?◌}
use Rattle.model.specs.Bytes.{Bytes}
use Rattle.model.specs.Outcomes.{require, ◌then◌, conclude, Outcome, Answer}
use Rattle.model.specs.Layout.{Plan, plan_of, node_count}
use Rattle.model.specs.Verdict.{plan_check, accepted}
use Rattle.model.specs.DataSets.{DataSet, data_of, pieces, data_check}
use Rattle.model.specs.Membership.{member}
use Rattle.model.specs.Words.{word, store}
use Rattle.model.specs.declared.Refusal.TheVariants.{OutputTooSmall}

-- "nodes × N × 8"
abbrev pub words_needed : Plan → DataSet → ℕ
words_needed P D = node_count P * pieces D * 8

-- plan and data set without the output, "checks first"
unfoldable pub inputs_check : Bytes → Bytes → Outcome
inputs_check p d = plan_check p then data_check (plan_of p) d

-- words enough for every plan and data set: 48 nodes of 16 pieces of 8 words
abbrev pub MOST_WORDS : ℕ
MOST_WORDS = 6144

-- Narrow: "fewer words lent than nodes × N × 8"
abbrev pub output_check : Plan → DataSet → ℕ → Outcome
output_check P D lent = require (words_needed P D ≤? lent) (OutputTooSmall (words_needed P D))

-- "evaluating takes the bytes of both, checks first, and gives 1 to 15"
unfoldable pub evaluation_check : Bytes → Bytes → ℕ → Outcome
evaluation_check p d lent = inputs_check p d then output_check (plan_of p) (data_of d) lent

-- what evaluating a plan over a data set answers, where so many words are lent
unfoldable pub evaluation : Bytes → Bytes → ℕ → Answer
evaluation p d lent = conclude (evaluation_check p d lent) (accepted (plan_of p))

-- "Node j, piece i starts at word (j × N + i) × 8": word w of all the nodes' pieces
unfoldable pub node_word : Plan → DataSet → ℕ → ℕ
node_word P D w = word (member P D (w / 8 / pieces D) (w / 8 % pieces D)) (w % 8)

-- the words after an acceptance: "Later words of the slice keep what they held"
unfoldable pub filled_words : Plan → DataSet → List ℕ → List ℕ
filled_words P D old = store old 0 (words_needed P D) (node_word P D)

-- "Refusal carries .. output words untouched"
abbrev pub words_after : Bytes → Bytes → List ℕ → Answer → List ℕ
words_after p d old (Ok _) = filled_words (plan_of p) (data_of d) old
words_after p d old (Err r) = old
