-- What a step's conclusion says of the sets of its nodes, and when a lemma is sound. Assumes nothing.
use Prim.Native.Nat.{ℕ, ◌<◌}
use mathlib.Core.Path.{◌≡◌, refl}
use Rattle.model.specs.Tests.{Is}
use Rattle.model.specs.Partitions.{Contained, PairwiseDisjoint, Covering}
use Rattle.model.specs.Layout.{Plan, node_count, step_lemma, step_x, step_y}
use Rattle.model.specs.Nodes.{node_region}
use Rattle.model.specs.Lemmas.{lemma_row, is_subset, is_disjoint, is_complete, concludes_subset, concludes_disjoint, concludes_complete, licence}
use Rattle.model.specs.DataSets.{DataSet, pieces, size}
use Rattle.model.specs.Membership.{member}
use Rattle.model.specs.declared.Conclusion.{Conclusion}
use Rattle.model.specs.declared.Conclusion.TheVariants.{Subset, Disjoint, Complete}
use Rattle.model.proofs.Tests.{falsum, both, same}

is_subset_lem : (c : Conclusion) → Is (is_subset c) → c ≡ Subset
unfolding is_subset
is_subset_lem Subset h = refl
is_subset_lem Disjoint h = falsum h
is_subset_lem Complete h = falsum h

is_disjoint_lem : (c : Conclusion) → Is (is_disjoint c) → c ≡ Disjoint
unfolding is_disjoint
is_disjoint_lem Subset h = falsum h
is_disjoint_lem Disjoint h = refl
is_disjoint_lem Complete h = falsum h

is_complete_lem : (c : Conclusion) → Is (is_complete c) → c ≡ Complete
unfolding is_complete
is_complete_lem Subset h = falsum h
is_complete_lem Disjoint h = falsum h
is_complete_lem Complete h = refl

-- what a conclusion says of the nodes' sets
module _ (P : Plan) (D : DataSet) where
  pub record SubsetHolds (x y : ℕ) : Type 0 where
    pub y_listed : y < node_count P
    pub one_region : node_region P x ≡ node_region P y
    pub subset : Contained (member P D x) (member P D y)

  abbrev pub DisjointHolds : ℕ → Type 0
  DisjointHolds x = PairwiseDisjoint (member P D x)

  abbrev pub CompleteHolds : ℕ → Type 0
  CompleteHolds x = Covering (pieces D) (size D (node_region P x)) (member P D x)

  abbrev pub Holds : Conclusion → ℕ → ℕ → Type 0
  Holds Subset x y = SubsetHolds x y
  Holds Disjoint x y = DisjointHolds x
  Holds Complete x y = CompleteHolds x

  -- what step t concludes is true
  abbrev pub StepTrue : ℕ → Type 0
  StepTrue t = Holds (lemma_row (step_lemma P t)).conclusion (step_x P t) (step_y P t)

  pub subset_of : (t x y : ℕ) → Is (concludes_subset P t x y) → StepTrue t → SubsetHolds x y
  unfolding concludes_subset
  subset_of t x y h holds = rw (is_subset_lem _ (both h).0, same (both (both h).1).0, same (both (both h).1).1) at holds

  pub disjoint_of : (t x : ℕ) → Is (concludes_disjoint P t x) → StepTrue t → DisjointHolds x
  unfolding concludes_disjoint
  disjoint_of t x h holds = rw (is_disjoint_lem _ (both h).0, same (both h).1) at holds

  pub complete_of : (t x : ℕ) → Is (concludes_complete P t x) → StepTrue t → CompleteHolds x
  unfolding concludes_complete
  complete_of t x h holds = rw (is_complete_lem _ (both h).0, same (both h).1) at holds

  -- what a step by lemma l may lean on: the numbers that the lemma's row uses are nodes and true steps
  pub record Given (l x y p q : ℕ) : Type 0 where
    pub x_listed : Is (lemma_row l).x → x < node_count P
    pub y_listed : Is (lemma_row l).y → y < node_count P
    pub p_true : Is (lemma_row l).p → StepTrue p
    pub q_true : Is (lemma_row l).q → StepTrue q

  -- lemma l is sound: what it concludes by its licence is true
  abbrev pub Sound : ℕ → Type 0
  Sound l = (x y p q : ℕ) → Given l x y p q → Is (licence P l x y p q) → Holds (lemma_row l).conclusion x y
