-- Where the sections of a plan or a data set end.
use Rattle.std.specs.Prelude.{ℕ, suc, ◌≤◌, ◌≡◌, get_or, length, replicate}
use Rattle.model.specs.Bytes.{Bytes, boundary}
use Rattle.model.specs.Words.{store}
use Rattle.primitives.specs.declared.sections.Frame.{Frame}

-- the frame of the first n sections: the place after none of them, after one, .., after all n; then 0
abbrev pub frame_of : ℕ → Bytes → Frame
frame_of n s = record { boundaries = store (replicate 9 0) 0 (suc n) (boundary s) }

-- the first n sections lie within the bytes, and the frame has their places
pub record Delimits (n : ℕ) (s : Bytes) (frame : Frame) : Type 0 where
  pub few : n ≤ 8
  pub places : (k : ℕ) → k ≤ n → get_or frame.boundaries k 0 ≡ boundary s k
  pub inside : (k : ℕ) → k ≤ n → boundary s k ≤ length s
