-- One piece, in a span of it. Assumes nothing.
use mathlib.Core.Path.{◌∙◌}
use native.Mathlib.Omega.{arith}
use Rattle.evaluate.proofs.Spans.{pieces_are}
use Rattle.evaluate.proofs.OnePiece.{one_fits, one_filled}
use Rattle.evaluate.proofs.words.fill_piece.Goals as goal

pub fill_span-requires : goal.fill_span-requires
fill_span-requires c = one_fits c.requires (pieces_are c.args.inputs.now)

pub returns : goal.returns
returns c =
    c.fill_span.ensures ∙ one_filled _ _ _ _ _ (omega (arith, c.requires.node_listed, c.args.inputs.now.reading.sections.limits.few_nodes)) _
