-- The words of the two nodes, and the ones in them (Fetched). Assumes nothing.
use mathlib.Core.Path.{◌∙◌}
use native.Mathlib.Omega.{arith}
use Rattle.model.proofs.Transfers.{fetched_few}
use Rattle.evaluate.proofs.Spans.{inputs_fit, pieces_are}
use Rattle.transfer.proofs.Fetched.{both_exist, ones_counted}
use Rattle.transfer.proofs.fetching.count_in.Goals as goal

pub returns : goal.returns
returns c =
    let inputs = c.args.inputs.now in
    let is = c.lacking_pieces.ensures ∙ ones_counted c.requires c.one_bit.ensures c.one_bit-2.ensures c.fill_wanted.ensures (pieces_are inputs) in
    let nodes = both_exist c.requires c.one_bit.ensures c.one_bit-2.ensures c.fill_wanted.ensures (pieces_are inputs) in
    (is, omega (arith, is, fetched_few _ _ inputs.reading.facts (inputs_fit inputs) _ nodes))
