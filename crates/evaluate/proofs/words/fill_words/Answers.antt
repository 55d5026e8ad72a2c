-- All nodes and pieces, in a span whose words are the final words. Assumes nothing.
use mathlib.Core.Path.{◌∙◌}
use native.Mathlib.Omega.{arith}
use Rattle.evaluate.proofs.Spans.{pieces_are, whole_fits, whole_filled}
use Rattle.evaluate.proofs.words.fill_words.Goals as goal

pub fill_span-requires : goal.fill_span-requires
fill_span-requires c = let inputs = c.args.inputs.now in whole_fits inputs c.requires c.node_count.ensures.0 (pieces_are inputs)

pub returns : goal.returns
returns c =
    let inputs = c.args.inputs.now in
    let listed = c.node_count.ensures.0 in
    c.fill_span.ensures ∙ whole_filled _ _ _ (omega (arith, listed, inputs.reading.sections.limits.few_nodes)) listed (pieces_are inputs)
