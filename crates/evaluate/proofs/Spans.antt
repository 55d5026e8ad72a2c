-- What the fills of a span ask for; the span of all nodes and pieces, whose words are the final words; and that of some nodes. Assumes nothing.
use Prim.Native.Nat.{ℕ, ◌+◌, ◌/◌, ◌%◌, ◌≤◌}
use mathlib.Core.Path.{◌≡◌, ap, ◌∙◌}
use mathlib.Core.List.{List}
use native.Mathlib.Omega.{arith}
use lib.ListN.{length}
use Rattle.model.specs.Layout.{Plan, node_count}
use Rattle.model.specs.DataSets.{DataSet, pieces}
use Rattle.model.specs.Membership.{member}
use Rattle.model.specs.Words.{word}
use Rattle.model.specs.Evaluation.{node_word, words_needed, filled_words}
use Rattle.model.proofs.Words.{store_same}
use Rattle.model.proofs.Fitting.{Fit, fit}
use Rattle.subregions.specs.declared.Span.{Span}
use Rattle.subregions.specs.Fill.{SpanFits, span_word, span_filled}
use Rattle.subregions.specs.Needed.{NeededFor}
use Rattle.subregions.proofs.AllNodes.{passed_hold, passed_length, all_filled}
use Rattle.subregions.proofs.NeededNodes.{ALL, all_needed, all_operands}
use Rattle.evaluate.specs.Inputs.{plan_given, data_given}
use Rattle.evaluate.specs.Words.{WantedReady, WantedFilled}
use Rattle.evaluate.specs.declared.inputs.Inputs.{Inputs}

module _ (inputs : Inputs) where
  -- the data set fits
  pub inputs_fit : Fit (plan_given inputs) (data_given inputs)
  inputs_fit = fit (plan_given inputs) inputs.«data».now inputs.fits

  pub pieces_are : inputs.layout.pieces ≡ pieces (data_given inputs)
  pieces_are = ap pieces inputs.placed.parts

-- so many nodes, those that are needed, and all pieces
abbrev pub whole : ℕ → ℕ → ℕ → Span
whole nodes needed N = record { nodes = nodes; needed = needed; pieces = N; first = 0; count = N }

module _ (inputs : Inputs) where
  pub whole_fits : {lent nodes N : ℕ} → words_needed (plan_given inputs) (data_given inputs) ≤ lent → nodes ≡ node_count (plan_given inputs) → N ≡ pieces (data_given inputs) →
      SpanFits (plan_given inputs) (data_given inputs) (whole nodes ALL N) lent
  whole_fits enough listed counted =
      record {
        nodes_listed = omega arith;
        operands_needed = all_operands inputs.reading.facts (omega arith) (omega (arith, inputs.reading.sections.limits.few_nodes));
        pieces_are = counted;
        pieces_listed = omega arith;
        enough = rw (listed, counted) enough;
      }

pub whole_filled : (P : Plan) (D : DataSet) (old : List ℕ) {nodes N : ℕ} → nodes ≤ 64 → nodes ≡ node_count P → N ≡ pieces D
    → span_filled P D (whole nodes ALL N) old ≡ filled_words P D old
unfolding span_word filled_words node_word
whole_filled P D old few listed counted =
    all_filled P D (whole _ ALL _) old (λ k l. all_needed k (omega arith))
    ∙ rw (listed, counted) (store_same old 0 _ _ _ (λ w h. let from : 0 + w / 8 % pieces D ≡ w / 8 % pieces D = omega arith in ap (λ (i : ℕ). word (member P D (w / 8 / pieces D) i) (w % 8)) from))

-- the wanted nodes and what they are made of
module _ {inputs : Inputs} {nodes wanted needed N lent : ℕ} (ready : WantedReady inputs nodes lent)
    (made : NeededFor (plan_given inputs) nodes wanted needed) (counted : N ≡ pieces (data_given inputs)) where
  pub wanted_fits : SpanFits (plan_given inputs) (data_given inputs) (whole nodes needed N) lent
  wanted_fits =
      record {
        nodes_listed = ready.nodes_listed;
        operands_needed = made.operands_needed;
        pieces_are = counted;
        pieces_listed = omega arith;
        enough = rw counted ready.enough;
      }

  pub wanted_filled : (old : List ℕ) → length old ≡ lent → {new : List ℕ} → new ≡ span_filled (plan_given inputs) (data_given inputs) (whole nodes needed N) old
      → WantedFilled (plan_given inputs) (data_given inputs) nodes wanted lent new
  unfolding span_filled
  wanted_filled old is filled =
      let facts = inputs.reading.facts in
      let fitted = inputs_fit inputs in
      let fits = rw (← is) at wanted_fits in
      record {
        room = ap length filled ∙ passed_length _ _ facts fitted (whole nodes needed N) old fits nodes ∙ is;
        held = λ j i e lj h li le.
            let from : 0 + i ≡ i = omega arith in
            rw (filled, ← counted)
            (passed_hold _ _ facts fitted (whole nodes needed N) old fits nodes (omega arith) j i e lj (made.wanted_needed j h) (rw (← counted) at li) le
            ∙ ap (λ (x : ℕ). member (plan_given inputs) (data_given inputs) j x e) from);
      }
