-- Stage by stage. Assumes nothing.
use mathlib.Core.Path.{sym, ◌∙◌}
use native.Mathlib.Omega.{arith}
use lib.ListN.{length-replicate}
use Rattle.provenance.specs.Chain.{ChainOf}
use Rattle.evaluate.specs.Inputs.{plan_given, data_given}
use Rattle.primitives.proofs.Stages.{handed_on}
use Rattle.provenance.proofs.Questions.{piece_ready, few_elements, membership_refused, room_refused, answered}
use Rattle.provenance.proofs.question.answer_with.Goals as goal
use Rattle.provenance.proofs.question.answer_with.Goals.{After-as_slice-chain}

pub fill_piece-requires : goal.fill_piece-requires
fill_piece-requires g c = rw length-replicate (piece_ready c.requires.0 (omega arith))

pub has-member-requires : goal.has-member-requires
has-member-requires g c = (omega arith, few_elements c.requires.0)

pub returns-in_err-require : goal.returns-in_err-require
returns-in_err-require g c =
    rw (handed_on _ c.from_residual.ensures.1)
    (membership_refused _ _ _ _ _ c.requires.0.exists (rw c.has-member.ensures at (sym c.require.ensures ∙ c.in_err-require.was)))

-- the slice that is written has the chain
traced : (g : _) (c : After-as_slice-chain g) → ChainOf (plan_given c.args.inputs.now) (data_given c.args.inputs.now) c.args.question c.as_slice-chain.result.now
traced g c = rw c.as_slice-chain.ensures.value c.trace-pairs.ensures

pub returns-in_err-require-2 : goal.returns-in_err-require-2
returns-in_err-require-2 g c =
    rw (handed_on _ c.from_residual-in_err-require-2.ensures.1)
    (room_refused _ _ _ _ _ c.requires.0.exists (rw c.has-member.ensures at (sym c.require.ensures ∙ c.in_ok-require.was)) _ (traced g (goal.at.returns-in_err-require-2 g c).After-as_slice-chain)
    (rw c.have_room.ensures at (sym c.require-2.ensures ∙ c.in_err-require-2.was)))

pub returns : goal.returns
returns g c =
    answered _ _ _ _ _ c.requires.0.exists (rw c.has-member.ensures at (sym c.require.ensures ∙ c.in_ok-require.was)) _ (traced g (goal.at.returns g c).After-as_slice-chain)
    (rw c.have_room.ensures at (sym c.require-2.ensures ∙ c.in_ok-require-2.was)) c.write_chain.ensures
