-- The private part of an image, lemma 21's x: a piece of it holds the elements of the image to which no element outside the operand's
-- piece leads. Assumes nothing.
use Prim.Native.Nat.{ℕ, ◌<◌}
use mathlib.Core.Logic.{◌↔◌}
use Rattle.model.specs.Tests.{Is}
use Rattle.model.specs.Partitions.{PairwiseDisjoint}
use Rattle.model.specs.Layout.{Plan, node_count, node_a}
use Rattle.model.specs.Lemmas.{is_private_part, private_map}
use Rattle.model.specs.DataSets.{DataSet}
use Rattle.model.specs.Membership.{member}
use Rattle.model.specs.AcceptedPlans.{Facts}
use Rattle.model.proofs.Partitions.{private_exactly, private_disjoint}
use Rattle.model.proofs.Fitting.{Fit}
use Rattle.model.proofs.PrivateNodes.{operand, map, sources, private_node}

module _ (P : Plan) (D : DataSet) (F : Facts P) (x : ℕ) (listed : x < node_count P) (is : Is (is_private_part P x)) where
  module _ (fit : Fit P D) where
    -- piece i holds the elements of F's piece i to which only elements of P's piece i lead
    pub private_members :
        (i e : ℕ) →
        Is (member P D x i e) ↔
        (Is (member P D (node_a P x) i e) × ((k : ℕ) → k < sources P D x → Is (map P D x k e) → Is (operand P D x i k)))
    private_members i e =
        let n = private_node P D F x listed is in
        rw (n.holds, n.image_holds) (private_exactly _ _ _ (fit.targets (private_map P x) n.map_listed) _ i e)

    pub private_pieces_disjoint : PairwiseDisjoint (operand P D x) → PairwiseDisjoint (member P D x)
    private_pieces_disjoint d =
        let n = private_node P D F x listed is in
        rw n.holds (private_disjoint _ _ _ (fit.targets (private_map P x) n.map_listed) _ d)
