-- The text of a report, as ASCII: the line of an answer, and the lines of the pieces.
use Rattle.std.specs.Prelude.{ℕ, zero, suc, ◌+◌, ◌*◌, List, [], ◌∷◌, ◌++◌, codes}
use Rattle.std.specs.Fmt.{decimal}
use Rattle.model.specs.Tests.{◌=?◌, pick}
use Rattle.model.specs.Words.{holds}
use Rattle.model.specs.declared.Report.{Report}
use Rattle.model.specs.declared.WrittenReport.{WrittenReport}
use Rattle.model.specs.declared.ChargeReport.{ChargeReport}

abbrev pub Text : Type 0
Text = List ℕ

-- no line has more bytes: two numbers of 64 bits, and 512 members of three digits, each after a space
abbrev pub longest : ℕ
longest = 2112

-- "each after a space"
unfoldable pub spaced : ℕ → Text
spaced n = 32 ∷ decimal n

-- a word and three numbers
unfoldable pub numbers_text : Text → ℕ → ℕ → ℕ → Text
numbers_text word first second third = word ++ spaced first ++ spaced second ++ spaced third ++ (10 ∷ [])

-- "accepted", then "symbols, nodes, steps"; "A refusal prints only", then the word, number and place
abbrev pub accepted_text : ℕ → ℕ → ℕ → Text
accepted_text = numbers_text (codes "accepted")

unfoldable pub refused_text : ℕ → ℕ → Text
refused_text number place = codes "refused" ++ spaced number ++ spaced place ++ (10 ∷ [])

unfoldable pub answer_text : Report → Text
answer_text t = pick (t.number =? 0) (accepted_text t.symbols t.nodes t.steps) (refused_text t.number t.place)

-- "members ascending": those below n of the set whose words stand from `at` on
unfoldable pub member_text : List ℕ → ℕ → ℕ → Text
member_text words at e = pick (holds words at e) (spaced e) []

unfoldable pub members_text : List ℕ → ℕ → ℕ → Text
members_text words at zero = []
members_text words at (suc n) = members_text words at n ++ member_text words at n

-- "Then symbol, piece, colon, members": the line of a piece whose words stand from `at` on
unfoldable pub piece_text : ℕ → ℕ → List ℕ → ℕ → Text
piece_text number piece words at = decimal number ++ spaced piece ++ (58 ∷ []) ++ members_text words at 512 ++ (10 ∷ [])

-- the lines of the first n of a node's pieces, each with a number in front; a piece has 8 words
unfoldable pub pieces_text : ℕ → ℕ → ℕ → List ℕ → ℕ → Text
pieces_text number node pieces words zero = []
pieces_text number node pieces words (suc n) = pieces_text number node pieces words n ++ piece_text number n words ((node * pieces + n) * 8)

-- the lines of all of them
abbrev pub node_text : ℕ → ℕ → ℕ → List ℕ → Text
node_text number node pieces words = pieces_text number node pieces words pieces

-- "explained", then the chain's length; a refusal as above
unfoldable pub explained_text : ℕ → Text
explained_text n = codes "explained" ++ spaced n ++ (10 ∷ [])

unfoldable pub explanation_text : WrittenReport → Text
explanation_text t = pick (t.number =? 0) (explained_text t.length) (refused_text t.number t.place)

-- the line of a chain's pair: its node, its element
unfoldable pub pair_text : ℕ → ℕ → Text
pair_text node element = decimal node ++ spaced element ++ (10 ∷ [])

-- "charged", then count, cents and remainder; a refusal as above
abbrev pub charged_text : ℕ → ℕ → ℕ → Text
charged_text = numbers_text (codes "charged")

unfoldable pub charge_text : ChargeReport → Text
charge_text t = pick (t.number =? 0) (charged_text t.count t.cents t.remainder) (refused_text t.number t.place)
