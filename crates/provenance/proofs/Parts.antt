-- A node's set and a map's entries, as parts of the words and of the data set. Assumes nothing.
use Prim.Native.Nat.{ℕ, ◌+◌, ◌*◌, ◌/◌, ◌≤◌}
use mathlib.Core.Path.{◌≡◌, subst}
use mathlib.Core.List.{List}
use native.Mathlib.Omega.{arith}
use Rattle.std.specs.List.{slice_range}
use Rattle.model.specs.DataSets.{DataSet}
use Rattle.model.specs.Words.{holds}
use Rattle.evaluate.specs.declared.inputs.Inputs.{Inputs}
use Rattle.evaluate.specs.Inputs.{plan_given, data_given}
use Rattle.provenance.specs.declared.piece.Piece.{Piece}
use Rattle.dataset.specs.Layout.{set_of}
use Rattle.dataset.specs.Entries.{EntriesOf}
use Rattle.dataset.proofs.Starts.{in_part, part_long}
use Rattle.provenance.specs.Members.{SetOf}

-- a node's words are its set
pub node_set : (piece : Piece) (node : ℕ) → node ≤ piece.question.node → SetOf piece node (slice_range piece.words.now (node * 8) (node * 8 + 8))
unfolding holds
node_set piece node near =
    let room = piece.held.room in
    record {
      eight = omega (arith, part_long piece.words.now (node * 8) (node * 8 + 8));
      held = λ e le.
          let word : 0 + e / 64 ≡ e / 64 = omega arith in
          rw (word, in_part piece.words.now (node * 8) (node * 8 + 8) (e / 64) 0 (omega arith)) (piece.held.held node e near le);
    }

-- the entries that the inputs' layout has are the data set's
module _ (inputs : Inputs) where
  pub entries_given : {map : ℕ} {entries : List ℕ} → EntriesOf (plan_given inputs) (set_of inputs.layout) map entries → EntriesOf (plan_given inputs) (data_given inputs) map entries
  entries_given {map} {entries} of = subst (λ (D : DataSet). EntriesOf (plan_given inputs) D map entries) inputs.placed.parts of
