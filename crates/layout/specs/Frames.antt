-- The frame of a plan: its edition and its sections, read one after the other.
use Rattle.std.specs.Prelude.{ℕ, ◌+◌, ◌/◌, ◌%◌, ◌^◌, ◌<◌, ◌≤◌, ◌≡◌, length, is_ok, IsTrue}
use Rattle.model.specs.Tests.{◌and◌, ◌=?◌, ◌≤?◌}
use Rattle.model.specs.Bytes.{Bytes, byte, boundary}
use Rattle.model.specs.Outcomes.{require, ◌then◌, Outcome}
use Rattle.model.specs.Layout as Layout
use Rattle.model.specs.Layout.{SECTIONS, shape_of, section_check}
use Rattle.model.specs.declared.Refusal.TheVariants.{Truncated, InvalidLength}
use Rattle.layout.specs.declared.shapes.Shape.{Shape}

-- a row of the table of sections
abbrev pub row : Layout.Shape → Shape
row shape = record { width = shape.width; fewest = shape.fewest; most = shape.most }

pub record Shaped (section : ℕ) (shape : Shape) : Type 0 where
  pub listed : shape ≡ row (shape_of section)
  pub wide : 0 < shape.width

-- a section's length, and where it stands
pub record Placed (bytes at size section : ℕ) : Type 0 where
  pub listed : section < SECTIONS
  pub inside : at ≤ bytes
  pub short : size < 65536
  pub room : bytes < 2 ^ 63

-- the check of a section, from the number of bytes, the place of its length and the length
unfoldable pub length_check : ℕ → ℕ → ℕ → ℕ → Outcome
length_check bytes at size section =
    require (at + 2 ≤? bytes and at + 2 + size ≤? bytes) (Truncated (section + 1))
    then require
    (size % (shape_of section).width =? 0
    and (shape_of section).fewest ≤? size / (shape_of section).width
    and size / (shape_of section).width ≤? (shape_of section).most)
    (InvalidLength (section + 1))

-- a plan of edition 1 whose first sections, as many as were read, passed; and the place after them
pub record Progress (p : Bytes) (read at : ℕ) : Type 0 where
  pub some : 1 ≤ length p
  pub edition : byte p 0 ≡ 1
  pub few : read ≤ SECTIONS
  pub passed : (n : ℕ) → n < read → IsTrue (is_ok (section_check p n))
  pub placed : at ≡ boundary p read
  pub inside : at ≤ length p
