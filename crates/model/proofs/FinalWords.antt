-- What words written set by set hold, and so the final words: each belongs to one node, piece and eighth, and stores the members there;
-- nothing else is written. Assumes nothing.
use Prim.Native.Nat.{ℕ, ◌+◌, ◌*◌, ◌/◌, ◌%◌, ◌≤◌, ◌<◌}
use mathlib.Core.Path.{◌≡◌, sym, ap, ◌∙◌}
use mathlib.Core.Bool.{Bool}
use mathlib.Core.List.{List}
use native.Mathlib.Nat.{mul-le-mul_right, suc-mul}
use native.Mathlib.Omega.{arith}
use lib.Arith.{digits_div, digits_mod}
use lib.ListN.{length, get_or, drop}
use Rattle.model.specs.Layout.{Plan, node_count}
use Rattle.model.specs.DataSets.{DataSet, pieces}
use Rattle.model.specs.Membership.{member}
use Rattle.model.specs.Words.{bit, holds, word, store}
use Rattle.model.specs.Evaluation.{words_needed, node_word, filled_words}
use Rattle.model.proofs.Words.{store_length, store_inside, store_behind, word_element, holds_at}

-- the eight words of a set stand inside those of all m rows
pub piece_inside : (N m j i : ℕ) → j < m → i < N → (j * N + i) * 8 + 8 ≤ m * N * 8
piece_inside N m j i h l = omega (arith, mul-le-mul_right N h, suc-mul j N)

-- sets written row by row, so many to a row, eight words each
module _ (sets : ℕ → ℕ → ℕ → Bool) (count : ℕ) where
  abbrev pub row_word : ℕ → ℕ
  row_word w = word (sets (w / 8 / count) (w / 8 % count)) (w % 8)

  -- word w of row j, set i
  pub row_word_lem : (j i w : ℕ) → i < count → w < 8 → row_word ((j * count + i) * 8 + w) ≡ word (sets j i) w
  row_word_lem j i w l h =
      let here : ((j * count + i) * 8 + w) / 8 ≡ j * count + i = omega arith in
      same (ap (λ (x : ℕ). x / count) here ∙ digits_div j l) (ap (λ (x : ℕ). x % count) here ∙ digits_mod j l) (omega arith)
    where
      same : {a b c k u v : ℕ} → a ≡ b → c ≡ k → u ≡ v → word (sets a c) u ≡ word (sets b k) v
      same p q r = rw (p, q, r)

  -- the elements of row j, set i, and nothing else, are in its words, once the first m rows are written
  pub rows_hold : (old : List ℕ) (m : ℕ) → m * count * 8 ≤ length old → (j i e : ℕ) → j < m → i < count → e < 512
      → holds (store old 0 (m * count * 8) row_word) ((j * count + i) * 8) e ≡ sets j i e
  rows_hold old m fit j i e h l k =
      let inside : (j * count + i) * 8 + e / 64 < m * count * 8 = omega (arith, piece_inside count m j i h l) in
      let from : 0 + ((j * count + i) * 8 + e / 64) ≡ (j * count + i) * 8 + e / 64 = omega arith in
      holds_at (store old 0 (m * count * 8) row_word) ((j * count + i) * 8) e
      ∙ ap (λ (x : ℕ). bit (get_or (store old 0 (m * count * 8) row_word) x 0) (e % 64)) (sym from)
      ∙ ap (λ (x : ℕ). bit x (e % 64))
      (store_inside old 0 (m * count * 8) row_word ((j * count + i) * 8 + e / 64) (omega arith) inside
      ∙ row_word_lem j i (e / 64) l (omega arith))
      ∙ word_element (sets j i) e

-- the final words
module _ (P : Plan) (D : DataSet) (old : List ℕ) where
  pub filled_length : length (filled_words P D old) ≡ length old
  unfolding filled_words
  filled_length = store_length old 0 (words_needed P D) (node_word P D)

  -- "Later words of the slice keep what they held"
  pub filled_later : drop (words_needed P D) (filled_words P D old) ≡ drop (words_needed P D) old
  unfolding filled_words
  filled_later = store_behind old 0 (words_needed P D) (words_needed P D) (node_word P D) (omega arith)

  -- the members of node j, piece i, and nothing else, are in its words
  pub filled_holds : words_needed P D ≤ length old → (j i e : ℕ) → j < node_count P → i < pieces D → e < 512
      → holds (filled_words P D old) ((j * pieces D + i) * 8) e ≡ member P D j i e
  unfolding filled_words node_word
  filled_holds = rows_hold (member P D) (pieces D) old (node_count P)
