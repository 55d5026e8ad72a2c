-- Word by word: the entries of a word's members are added to those of the words before. Assumes nothing.
use Prim.Native.Nat.{ℕ, ◌+◌, ◌*◌}
use mathlib.Core.Path.{◌≡◌, sym, ap, ◌∙◌}
use Rattle.model.proofs.Tests.{both}
use native.Mathlib.Omega.{arith}
use lib.ListN.{take}
use Rattle.std.proofs.Common.{rules}
use Rattle.model.specs.Words.{holds}
use Rattle.bitsets.specs.Elements.{masked, entries_of}
use Rattle.subregions.proofs.Maps.{entries_none, entries_word}
use Rattle.subregions.proofs.Piece.{set_none, set_same, set_piece, masked-bit}
use Rattle.subregions.proofs.operators.image_piece.Goals as goal

pub loop-k-init : goal.loop-k-init
loop-k-init c = (omega arith, set_none _ (λ e. entries_none _ _ e))

pub add_entries-requires : goal.add_entries-requires
unfolding masked
add_entries-requires c =
    let w = c.loop-k.k in
    record {
      inside = λ b h t.
          let there = c.requires.inside (w * 64 + b) (omega arith) (both (sym (masked-bit c.args.operand.now c.args.masks.now c.args.at w b h) ∙ t)).0 in
          omega (arith, there);
    }

pub loop-k-preserved : goal.loop-k-preserved
loop-k-preserved c =
    let l = c.loop-k in (
      omega (arith, c.loop-k-test.true),
      set_same _ _ _ (c.add_entries.ensures _ l.invariant.1) (λ e h. entries_word _ _ l.k _ (masked-bit _ _ _ l.k) e),
    )

pub returns : goal.returns
returns c =
    let l = c.loop-k in
    let a = c.args in
    let all : l.k ≡ 8 = omega (arith, l.invariant.0, c.loop-k-test.false) in
    let first : c.unwrap.result.now ≡ take 8 l.set = search rules in
    set_piece _ _ _ first (set_same _ _ _ l.invariant.1
    (λ e h. ap (λ (n : ℕ). entries_of (64 * n) a.entries.now 0 (masked a.masks.now (holds a.operand.now a.at)) e) all))
