-- The loop makes the word from its highest place down: that is how a number of bits is defined. Assumes nothing.
use Prim.Native.Nat.{◌+◌, ◌*◌}
use mathlib.Core.Path.{◌≡◌}
use Rattle.bitsets.specs.Elements.{through}
use Rattle.subregions.proofs.Maps.{upper}
use Rattle.subregions.proofs.operators.preimage_word.Given as goal

abbrev pub invariant-loop-pair : goal.invariant-loop-pair
invariant-loop-pair l = l.result ≡ upper (through l.table l.set) l.w (64 * l.w + 2 * l.pair)
