-- One piece of the first nodes: the span of it, and what its words hold. Assumes nothing.
use Prim.Native.Nat.{ℕ, ◌+◌, ◌*◌, ◌/◌, ◌%◌, ◌≤◌, ◌<◌}
use mathlib.Core.Path.{◌≡◌, sym, ap, ap₂, ◌∙◌}
use mathlib.Core.List.{List}
use native.Mathlib.Omega.{arith}
use lib.ListN.{length}
use Rattle.model.specs.Layout.{Plan}
use Rattle.model.specs.DataSets.{DataSet, pieces}
use Rattle.model.specs.Membership.{member}
use Rattle.model.specs.Words.{holds, word}
use Rattle.model.proofs.Words.{store_length, store_same}
use Rattle.model.proofs.FinalWords.{rows_hold}
use Rattle.subregions.specs.declared.Span.{Span}
use Rattle.subregions.specs.Fill.{SpanFits, span_word, span_filled}
use Rattle.subregions.proofs.AllNodes.{all_filled}
use Rattle.subregions.proofs.NeededNodes.{ALL, all_needed, all_operands}
use Rattle.evaluate.specs.Inputs.{plan_given, data_given}
use Rattle.evaluate.specs.Words.{PieceReady, piece_filled}
use Rattle.evaluate.specs.declared.inputs.Inputs.{Inputs}

-- one piece of so many nodes
abbrev pub one : ℕ → ℕ → ℕ → Span
one nodes piece N = record { nodes = nodes; needed = ALL; pieces = N; first = piece; count = 1 }

pub one_fits : {inputs : Inputs} {node piece N lent : ℕ} → PieceReady inputs node piece lent → N ≡ pieces (data_given inputs) →
    SpanFits (plan_given inputs) (data_given inputs) (one (node + 1) piece N) lent
one_fits {inputs} ready counted =
    let listed = ready.node_listed in
    let piece_listed = ready.piece_listed in
    let enough = ready.enough in
    record {
      nodes_listed = omega arith;
      operands_needed = all_operands inputs.reading.facts (omega arith) (omega (arith, inputs.reading.sections.limits.few_nodes));
      pieces_are = counted;
      pieces_listed = omega arith;
      enough = omega arith;
    }

module _ (P : Plan) (D : DataSet) (piece nodes : ℕ) (old : List ℕ) where
  pub one_filled : nodes ≤ 64 → (N : ℕ) → span_filled P D (one nodes piece N) old ≡ piece_filled P D piece nodes old
  unfolding span_word piece_filled
  one_filled few N =
      let all : nodes * 1 * 8 ≡ nodes * 8 = omega arith in
      all_filled P D (one nodes piece N) old (λ k l. all_needed k (omega arith))
      ∙ rw all (store_same old 0 _ _ _ (λ w h.
      let node : w / 8 / 1 ≡ w / 8 = omega arith in
      let here : piece + w / 8 % 1 ≡ piece = omega arith in
      ap₂ (λ (j i : ℕ). word (member P D j i) (w % 8)) node here))

  pub piece_room : length (piece_filled P D piece nodes old) ≡ length old
  unfolding piece_filled
  piece_room = store_length old 0 (nodes * 8) _

  -- the members of the piece of node j, and nothing else
  pub piece-holds : nodes ≤ 64 → nodes * 8 ≤ length old → (j e : ℕ) → j < nodes → e < 512 → holds (piece_filled P D piece nodes old) (j * 8) e ≡ member P D j piece e
  unfolding span_word
  piece-holds few fit j e h k =
      let place : j * 8 ≡ (j * 1 + 0) * 8 = omega arith in
      let here : piece + 0 ≡ piece = omega arith in
      ap₂ (λ (words : List ℕ) (at : ℕ). holds words at e)
      (sym (one_filled few 1) ∙ all_filled P D (one nodes piece 1) old (λ k l. all_needed k (omega arith))) place
      ∙ rows_hold (λ j i. member P D j (piece + i)) 1 old nodes (omega arith) j 0 e h (omega arith) k
      ∙ ap (λ (i : ℕ). member P D j i e) here
