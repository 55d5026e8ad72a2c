-- An accepted plan over a fitting data set, with its final words, by computation. Assumes nothing.
use Prim.Native.Nat.{ℕ, ◌+◌, ◌-◌, ◌*◌, ◌/◌, ◌%◌, ◌≤◌, ◌<◌, min}
use mathlib.Core.Path.{◌≡◌, refl, ◌∙◌}
use mathlib.Core.Logic.{inl, inr}
use mathlib.Core.Bool.{false}
use mathlib.Core.List.{List, [], ◌∷◌, ◌++◌}
use native.Mathlib.Omega.{arith}
use lib.ListN.{replicate}
use Rattle.std.specs.Prelude.{Ok}
use Rattle.model.specs.Tests.{◌and◌, ◌or◌, ◌=?◌, ◌<?◌, ◌≤?◌, any, pick}
use Rattle.model.specs.Bytes.{Bytes, boundary, body}
use Rattle.model.specs.Encoding.{framed_bytes}
use Rattle.model.specs.Recursion.{below, levels, course}
use Rattle.model.specs.Partitions.{union, intersection, image, contiguous, equal_start}
use Rattle.model.specs.Layout.{Plan, plan_of, node_count}
use Rattle.model.specs.Nodes.{node_kind_of, node_kind_at, node_region_by, node_region_step, node_region}
use Rattle.model.specs.DataSets.{DataSet, data_of, pieces, size, entry_start, entry, low, past, maps_to, piece_bytes, member_start, supplied_bit, supplied}
use Rattle.model.specs.Membership.{equal, node_sets_by, node_sets, member}
use Rattle.model.specs.Words.{from_bits, word, store}
use Rattle.model.specs.Evaluation.{evaluation, node_word, filled_words}
use Rattle.model.specs.AcceptedPlans.{Facts}
use Rattle.model.proofs.Tests.{split, fails}
use Rattle.model.proofs.Words.{number_cut, store_same}
use Rattle.model.proofs.Accepted.{plan_accepted}
use Rattle.model.proofs.Fitting.{Fit, fit}
use Rattle.model.proofs.NodeSets.{node_within}
use Rattle.model.proofs.Demand3.{Evaluated, evaluated}
use Rattle.model.proofs.FiledPlans.{plan}
use Rattle.model.proofs.Computing.{definitions}

-- Two loops over regions 0 and 2 of three, with two maps and two supplied partitions, the second declared complete: FOR 0; LOAD map 0, from
-- field 1; READ through it; COPY of the loop variable; WRITE through that; FOR 2; CALL map 1, which is partial; REDUCE through it.
abbrev pub example_plan : Bytes
example_plan =
    plan
    (2 ∷ 1 ∷ 1 ∷ [])
    (0 ∷ 1 ∷ 1 ∷ 2 ∷ 0 ∷ 0 ∷ [])
    (1 ∷ 0 ∷ 0 ∷ 2 ∷ [])
    (0 ∷ 0 ∷ 0 ∷ 0 ∷ 1 ∷ 0 ∷ 0 ∷ 1 ∷ 4 ∷ 1 ∷ 0 ∷ 0 ∷ 3 ∷ 0 ∷ 0 ∷ 0 ∷ 5 ∷ 2 ∷ 0 ∷ 0 ∷ 0 ∷ 2 ∷ 0 ∷ 0 ∷ 2 ∷ 1 ∷ 0 ∷ 0 ∷ 6 ∷ 1 ∷ 1 ∷ 1 ∷ [])
    (0 ∷ 1 ∷ 0 ∷ 0 ∷ 1 ∷ 0 ∷ 0 ∷ 0 ∷ 2 ∷ 0 ∷ 1 ∷ 0 ∷ 3 ∷ 0 ∷ 2 ∷ 0 ∷ 5 ∷ 0 ∷ 0 ∷ 0 ∷ 0 ∷ 0 ∷ 0 ∷ 0 ∷ 1 ∷ 2 ∷ 0 ∷ 0 ∷ 5 ∷ 6 ∷ 1 ∷ 0 ∷ [])
    (0 ∷ 2 ∷ 4 ∷ 3 ∷ 6 ∷ 7 ∷ [])
    (4 ∷ 0 ∷ 0 ∷ 0 ∷ 0 ∷ 7 ∷ 0 ∷ 2 ∷ 0 ∷ 0 ∷ 5 ∷ 0 ∷ 0 ∷ 0 ∷ 0 ∷ 10 ∷ 0 ∷ 3 ∷ 2 ∷ 1 ∷ 5 ∷ 4 ∷ 4 ∷ 0 ∷ 0 ∷ 2 ∷ 6 ∷ 0 ∷ 0 ∷ 0 ∷ 1 ∷ 6 ∷ 0 ∷ 0 ∷ 0 ∷ 5 ∷ 7 ∷ 7 ∷ 0 ∷ 0 ∷ [])

-- Three pieces; sizes 4, 264 and 5; the entries of map 0 are 5, 260, 9 and 256 + e, of map 1 they are 2, none, 0, 3 and 1; the supplied
-- pieces of region 1 are {0}, {263} and {9}, of region 0 {0, 1}, {1, 2} and {3}.
abbrev pub example_data : ℕ → Bytes
example_data e =
    framed_bytes 1
    ((3 ∷ [])
    ∷ (0 ∷ 4 ∷ 1 ∷ 8 ∷ 0 ∷ 5 ∷ [])
    ∷ (0 ∷ 5 ∷ 1 ∷ 4 ∷ 0 ∷ 9 ∷ 1 ∷ e ∷ 0 ∷ 2 ∷ 255 ∷ 255 ∷ 0 ∷ 0 ∷ 0 ∷ 3 ∷ 0 ∷ 1 ∷ [])
    ∷ (128 ∷ replicate 32 0
    ++ replicate 32 0 ++ 1 ∷ []
    ++ 0 ∷ 64 ∷ replicate 31 0
    ++ 192 ∷ 96 ∷ 16 ∷ [])
    ∷ [])

-- the words of a piece: those of elements 0 to 63, and of elements 256 to 319
abbrev piece : ℕ → ℕ → List ℕ
piece low high = low ∷ 0 ∷ 0 ∷ 0 ∷ high ∷ 0 ∷ 0 ∷ 0 ∷ []

-- the three pieces of each node: supplied 1, equal 0, their union, the intersection of that with supplied 1, the image of supplied 1,
-- supplied 0, equal 2, its image
abbrev pub example_words : List ℕ
example_words =
    piece 3 0 ++ piece 6 0 ++ piece 8 0
    ++ piece 3 0 ++ piece 4 0 ++ piece 8 0
    ++ piece 3 0 ++ piece 6 0 ++ piece 8 0
    ++ piece 3 0 ++ piece 6 0 ++ piece 8 0
    ++ piece 32 16 ++ piece 512 16 ++ piece 0 128
    ++ piece 1 0 ++ piece 0 128 ++ piece 512 0
    ++ piece 3 0 ++ piece 12 0 ++ piece 16 0
    ++ piece 4 0 ++ piece 9 0 ++ piece 2 0

-- the plan is accepted over the data set
pub example_accepted : evaluation example_plan (example_data 7) 192 ≡ Ok (record { symbols = 6; nodes = 8; steps = 8 })
unfolding definitions
example_accepted = refl

pub example_checked : Evaluated example_plan (example_data 7) 192 (record { symbols = 6; nodes = 8; steps = 8 })
example_checked = evaluated example_plan (example_data 7) 192 _ example_accepted

pub example_facts : Facts (plan_of example_plan)
example_facts = (plan_accepted example_plan example_checked.plan_passes).records

-- a word of a node's piece has no more bits than there are elements left
module _ (P : Plan) (D : DataSet) where
  abbrev bits_left : ℕ → ℕ
  bits_left w = min 64 (size D (node_region P (w / 8 / pieces D)) - w % 8 * 64)

  abbrev short_word : ℕ → ℕ
  short_word w = from_bits (bits_left w) (λ b. member P D (w / 8 / pieces D) (w / 8 % pieces D) (w % 8 * 64 + b))

  short_word_lem : Facts P → Fit P D → (w : ℕ) → w / 8 / pieces D < node_count P → node_word P D w ≡ short_word w
  unfolding node_word word
  short_word_lem F fits w lt = number_cut (bits_left w) 64 _ none (omega arith)
    where
      none : (b : ℕ) → bits_left w ≤ b → b < 64 → member P D (w / 8 / pieces D) (w / 8 % pieces D) (w % 8 * 64 + b) ≡ false
      none b l h =
          elim (split (member P D (w / 8 / pieces D) (w / 8 % pieces D) (w % 8 * 64 + b))) [
            | inl m ↦ absurd (omega (arith, (node_within P D F fits (w / 8 / pieces D) lt (w / 8 % pieces D) (w % 8 * 64 + b) m).1))
            | inr n ↦ fails n
          ]

-- and these are its words
pub example_words_lem : filled_words (plan_of example_plan) (data_of (example_data 7)) (replicate 192 0) ≡ example_words
unfolding
    boundary body ◌and◌ ◌or◌ ◌=?◌ ◌<?◌ ◌≤?◌ any pick below levels course
    node_kind_of node_kind_at node_region_by node_region_step node_region union intersection image contiguous equal_start
    size entry_start entry low past maps_to piece_bytes member_start supplied_bit supplied equal node_sets_by node_sets member
    filled_words from_bits store
example_words_lem =
    store_same (replicate 192 0) 0 192 _ _
    (λ w lt. short_word_lem (plan_of example_plan) (data_of (example_data 7)) example_facts (fit (plan_of example_plan) (example_data 7) example_checked.data_passes) w (omega arith))
    ∙ refl
