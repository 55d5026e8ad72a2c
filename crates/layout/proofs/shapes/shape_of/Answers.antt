-- Each of the seven rows is the definition's, and no record is empty. Assumes nothing.
-- the rows of the definition, as the code has them
use Prim.Native.Nat.{ℕ, ◌<◌}
use mathlib.Core.Path.{◌≡◌, refl}
use mathlib.Core.List.{map}
use native.Mathlib.Omega.{arith}
use lib.Dec.{lit<}
use lib.ListN.{get_or}
use Rattle.model.specs.Layout.{shapes, shape_of}
use Rattle.model.proofs.Tests.{at_each}
use Rattle.layout.specs.Frames.{row, Shaped}
use Rattle.layout.specs.declared.shapes.Shape.{Shape}
use Rattle.layout.proofs.shapes.shape_of.Goals as goal

abbrev at : ℕ → Shape
at section = get_or (map row shapes) section (record { width = 0; fewest = 0; most = 0 })

shaped : {section : ℕ} {shape : Shape} → shape ≡ row (shape_of section) → 0 < (shape_of section).width → Shaped section shape
shaped e w = record { listed = e; wide = rw e w }

pub returns : goal.returns
unfolding shape_of shapes
returns c =
    let section = c.args.section in
    shaped
    (at_each (λ k. at k ≡ row (shape_of k)) 0 7 (refl, (refl, (refl, (refl, (refl, (refl, (refl, tt))))))) section (omega arith) (omega arith))
    (at_each (λ k. 0 < (shape_of k).width) 0 7 (lit< tt, (lit< tt, (lit< tt, (lit< tt, (lit< tt, (lit< tt, (lit< tt, tt))))))) section (omega arith) (omega arith))
