-- The wanted nodes and what they are made of, in a span of all pieces. Assumes nothing.
use mathlib.Core.Path.{refl}
use Rattle.evaluate.proofs.Spans.{pieces_are, wanted_filled}
use Rattle.evaluate.proofs.words.fill_wanted.Goals as goal

pub returns : goal.returns
returns c =
    let inputs = c.args.inputs.now in
    wanted_filled c.requires
    (c.needed_nodes.ensures _ (record { facts = inputs.reading.facts; nodes_are = refl; listed = c.requires.nodes_listed }))
    (pieces_are inputs) _ refl c.fill_span.ensures
