-- The bytes of the pieces before are united. Assumes nothing.
use Rattle.std.proofs.Common.{◌≡◌, ◌+◌, ◌/◌}
use Rattle.dataset.specs.Columns.{united, repeated, piece_word}
use Rattle.dataset.proofs.supplied.SuppliedPieces.read_column.Given as goal

abbrev pub invariant-loop-piece : goal.invariant-loop-piece
invariant-loop-piece l = (l.seen ≡ united (piece_word l.self.members.now ((l.self.size + 7) / 8) l.column) l.piece)
    × (l.repeated ≡ repeated (piece_word l.self.members.now ((l.self.size + 7) / 8) l.column) l.piece)
