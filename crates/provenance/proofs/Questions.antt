-- The stages of a question's answer in a row: each refusal, and what is known after it. Assumes nothing.
use Prim.Native.Nat.{ℕ, ◌+◌, ◌≤◌, ◌<◌}
use mathlib.Core.Path.{◌≡◌, refl, sym, ap, ◌∙◌}
use mathlib.Core.Bool.{Bool}
use mathlib.Core.List.{List}
use native.Mathlib.Omega.{arith}
use lib.ListN.{length}
use Rattle.std.specs.Prelude.{Ok, Err}
use Rattle.model.specs.Tests.{Is, ◌and◌, ◌≤?◌}
use Rattle.model.specs.Outcomes.{require, ◌then◌, conclude, Outcome}
use Rattle.model.specs.Layout.{Plan, node_count}
use Rattle.model.specs.Nodes.{node_region}
use Rattle.model.specs.DataSets.{DataSet, pieces, size}
use Rattle.model.specs.Membership.{member}
use Rattle.model.specs.Words.{list_after}
use Rattle.model.specs.Provenance.{question_check, chain_room_check}
use Rattle.model.specs.declared.Refusal.{Refusal}
use Rattle.model.specs.declared.Refusal.TheVariants.{NotFound, OutputTooSmall}
use Rattle.model.specs.declared.Question.{Question}
use Rattle.model.proofs.Tests.{both, less, most}
use Rattle.model.proofs.Words.{store_same}
use Rattle.model.proofs.Outcomes.{then_assoc, then_pass, require_pass}
use Rattle.model.proofs.Fitting.{fit}
use Rattle.model.proofs.NodeSets.{region_small}
use Rattle.primitives.proofs.Stages.{then_ok, then_err}
use Rattle.evaluate.specs.declared.inputs.Inputs.{Inputs}
use Rattle.evaluate.specs.Inputs.{plan_given, data_given}
use Rattle.evaluate.specs.Words.{PieceReady, piece_filled}
use Rattle.evaluate.proofs.OnePiece.{piece-holds, piece_room}
use Rattle.provenance.specs.declared.chain.Link.{Link}
use Rattle.provenance.specs.Piece.{PieceHeld}
use Rattle.provenance.specs.Chain.{ChainOf, ChainRoom, ChainWritten}
use Rattle.provenance.specs.Question.{existence_check, ExistingReady, Answered}

-- what exists once the checks of it passed
pub record Exists (P : Plan) (D : DataSet) (q : Question) : Type 0 where
  pub node_listed : q.node < node_count P
  pub piece_listed : q.piece < pieces D
  pub element_inside : q.element < size D (node_region P q.node)

pub exists : (P : Plan) (D : DataSet) (q : Question) → existence_check P D q ≡ Ok tt → Exists P D q
exists P D q h =
    let (node, h) = then_pass _ _ h in
    let (piece, h) = then_pass _ _ h in
    record { node_listed = less (require_pass _ _ node); piece_listed = less (require_pass _ _ piece); element_inside = less (require_pass _ _ h) }

-- what exists has its piece in the words
module _ {inputs : Inputs} {q : Question} {lent : ℕ} (ready : ExistingReady inputs q lent) where
  there : Exists (plan_given inputs) (data_given inputs) q
  there = exists _ _ q ready.exists

  pub piece_ready : {piece : ℕ} → piece ≤ q.piece → PieceReady inputs q.node piece lent
  piece_ready near = record { node_listed = there.node_listed; piece_listed = omega (arith, there.piece_listed); enough = ready.room }

  pub few_elements : q.element < 512
  few_elements =
      omega (arith, there.element_inside, region_small _ _ inputs.reading.facts (fit _ _ inputs.fits) q.node there.node_listed)

  pub piece_held : (old : List ℕ) {words : List ℕ} → length old ≡ lent → words ≡ piece_filled (plan_given inputs) (data_given inputs) q.piece (q.node + 1) old → PieceHeld inputs q words
  piece_held old all is =
      let few = inputs.reading.sections.limits.few_nodes in
      let listed = there.node_listed in
      let room = ready.room in
      record {
        node_listed = listed;
        room = omega (arith, ap length is, piece_room (plan_given inputs) (data_given inputs) q.piece (q.node + 1) old);
        held = λ j e lj le. rw is (piece-holds (plan_given inputs) (data_given inputs) q.piece (q.node + 1) old (omega arith) (omega arith) j e (omega arith) le);
      }

-- what the test of both slices says
pub room_there : (chain : List Link) (nodes elements : ℕ) {test : Bool} → test ≡ (length chain ≤? nodes and length chain ≤? elements) → Is test → ChainRoom chain nodes elements
room_there chain nodes elements is h = let (first, second) = both (sym is ∙ h) in record { nodes_room = most first; elements_room = most second }

-- the stages of an answer
module _ (P : Plan) (D : DataSet) (q : Question) (old_nodes old_elements : List ℕ) where
  abbrev whole : Outcome
  whole = question_check P D q then chain_room_check P D q (length old_nodes) (length old_elements)

  abbrev membership_check : Outcome
  membership_check = require (member P D q.node q.piece q.element) (NotFound 4)

  in_stages : whole ≡ (existence_check P D q then membership_check then chain_room_check P D q (length old_nodes) (length old_elements))
  unfolding question_check
  in_stages = simp then_assoc

  -- a refusal changes neither slice
  refused : {r : Refusal} → whole ≡ Err r → Answered P D q old_nodes old_nodes old_elements old_elements (Err r)
  unfolding conclude list_after
  refused h = record { answer = rw h; nodes_are = refl; elements_are = refl }

  pub existence_refused : {r : Refusal} → existence_check P D q ≡ Err r → Answered P D q old_nodes old_nodes old_elements old_elements (Err r)
  existence_refused h = refused (in_stages ∙ then_err _ h)

  module _ (there : existence_check P D q ≡ Ok tt) where
    pub membership_refused : {r : Refusal} → membership_check ≡ Err r → Answered P D q old_nodes old_nodes old_elements old_elements (Err r)
    membership_refused h = refused (in_stages ∙ then_ok _ there ∙ then_err _ h)

    module _ (holds : membership_check ≡ Ok tt) (chain : List Link) (traced : ChainOf P D q chain) where
      -- the test of both slices
      abbrev room : Bool
      room = length chain ≤? length old_nodes and length chain ≤? length old_elements

      room_is : whole ≡ require room (OutputTooSmall (length chain))
      unfolding chain_room_check
      room_is = in_stages ∙ then_ok _ there ∙ then_ok _ holds ∙ rw traced.length_is

      pub room_refused : {r : Refusal} → require room (OutputTooSmall (length chain)) ≡ Err r → Answered P D q old_nodes old_nodes old_elements old_elements (Err r)
      room_refused h = refused (room_is ∙ h)

      pub answered : require room (OutputTooSmall (length chain)) ≡ Ok tt → {new_nodes new_elements : List ℕ} → ChainWritten chain old_nodes new_nodes old_elements new_elements
          → Answered P D q old_nodes new_nodes old_elements new_elements (Ok (length chain))
      unfolding conclude list_after
      answered enough written =
          record {
            answer = rw (room_is, enough) (ap (λ (n : ℕ). Ok n) traced.length_is);
            nodes_are = written.nodes_are ∙ store_same old_nodes 0 (length chain) _ _ traced.node_at;
            elements_are = written.elements_are ∙ store_same old_elements 0 (length chain) _ _ traced.element_at;
          }

-- what the proof of `answer_with` cites
pub ruleset questions = (piece_held, room_there, require_pass)
