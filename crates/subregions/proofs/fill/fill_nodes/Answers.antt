-- The loop has the members of each needed node passed in its words. Assumes nothing.
use Prim.Native.Nat.{ℕ, ◌+◌}
use mathlib.Core.Path.{◌≡◌, refl, sym, ap, ◌∙◌}
use mathlib.Core.List.{List}
use native.Mathlib.Omega.{arith}
use lib.ListN.{length}
use Rattle.model.specs.Bytes.{Bytes}
use Rattle.model.specs.Layout.{Plan}
use Rattle.model.specs.DataSets.{data_of}
use Rattle.model.proofs.Fitting.{fit}
use Rattle.subregions.specs.Fill.{node_filled, filled_up_to, span_filled, FillSources}
use Rattle.subregions.proofs.AllNodes.{node_sources, size_sources, passed_length, node_next, node_skipped}
use Rattle.subregions.proofs.fill.fill_nodes.Goals as goal
use Rattle.subregions.proofs.fill.fill_nodes.Goals.{Joined-has_bit, then-has_bit, else-has_bit}

-- one node more is passed, filled or not
next : (c : Joined-has_bit) →
    (let a = c.args in
    (P : Plan) (d : Bytes) → FillSources P d a.sources.now a.span (length a.words.now) → c.if-has_bit.words ≡ filled_up_to P (data_of d) a.span a.words.now (c.loop-j.j + 1))
next c P d S =
    let l = c.loop-j in
    let t = c.loop-j-test.true in
    elim c.if-has_bit.branch [
      | then-has_bit w ↦
          w.words-is ∙ w.fill_node.ensures P d (node_sources S (c.node_sizes-node_sizes.ensures P d (size_sources S)) l.invariant.0 t)
          ∙ ap (λ (list : List ℕ). node_filled P (data_of d) c.args.span list l.j) (l.invariant.1 P d S)
          ∙ node_next P (data_of d) S.facts (fit P d S.fits) _ _ S.span_fits l.j t (sym c.has_bit.ensures ∙ w.if-has_bit.true)
      | else-has_bit w ↦
          w.words-is ∙ l.invariant.1 P d S
          ∙ sym (node_skipped P (data_of d) S.facts (fit P d S.fits) _ _ S.span_fits l.j (sym c.has_bit.ensures ∙ w.if-has_bit.false))
    ]

pub loop-j-init : goal.loop-j-init
unfolding filled_up_to
loop-j-init c = (refl, λ P d S. refl)

pub loop-j-preserved : goal.loop-j-preserved
loop-j-preserved c =
    let h = c.requires.sources in (
      ap length (next c _ _ h) ∙ passed_length _ _ h.facts (fit _ _ h.fits) _ _ h.span_fits _,
      next c,
    )

pub returns : goal.returns
unfolding span_filled
returns c =
    let l = c.loop-j in
    let end : l.j ≡ c.args.span.nodes = omega (arith, c.loop-j-test.false, l.invariant.0) in
    λ P d S. l.invariant.1 P d S ∙ ap (filled_up_to P (data_of d) c.args.span c.args.words.now) end
