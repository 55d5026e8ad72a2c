-- Lemma 21 by examples: the private part of a small mesh; and plans that break one requirement of the lemma, each refused for that step
-- alone, where over a data set that fits two pieces of x share an element. By computation. Assumes nothing.
use Prim.Native.Nat.{ℕ}
use mathlib.Core.Path.{◌≡◌, refl}
use mathlib.Core.List.{List, [], ◌∷◌, ◌++◌}
use native.Mathlib.Omega.{arith}
use Rattle.std.specs.Prelude.{Ok}
use Rattle.model.specs.Tests.{Is}
use Rattle.model.specs.Bytes.{Bytes}
use Rattle.model.specs.Answers.{report, refusal}
use Rattle.model.specs.Encoding.{framed_bytes}
use Rattle.model.specs.Layout.{plan_of}
use Rattle.model.specs.Verdict.{verdict}
use Rattle.model.specs.DataSets.{data_of, data_check}
use Rattle.model.specs.Membership.{member}
use Rattle.model.specs.Partitions.{PairwiseDisjoint}
use Rattle.model.proofs.Computing.{definitions}
use Rattle.model.proofs.FiledPlans.{plan}
use Rattle.model.proofs.FiledTable.{listed, accepts, answer}

-- a record of section 5
abbrev node : ℕ → ℕ → ℕ → Bytes
node kind a b = kind ∷ a ∷ b ∷ 0 ∷ []

abbrev equal : Bytes
equal = node 1 0 0

abbrev supplied : Bytes
supplied = node 0 0 0

abbrev difference : ℕ → ℕ → Bytes
difference = node 4

abbrev image : ℕ → ℕ → Bytes
image = node 5

abbrev preimage : ℕ → ℕ → Bytes
preimage = node 6

-- a plan of one region, two maps from it to itself and one supplied partition, of which nothing is declared; its steps conclude DISJ of node d,
-- which is equal, and DISJ of node x by lemma 21
abbrev filing : Bytes → ℕ → ℕ → Bytes
filing nodes d x = plan (1 ∷ []) (0 ∷ 0 ∷ 0 ∷ 0 ∷ 0 ∷ 0 ∷ []) (0 ∷ 0 ∷ []) [] nodes [] (1 ∷ d ∷ 0 ∷ 0 ∷ 0 ∷ 21 ∷ x ∷ 0 ∷ 0 ∷ 0 ∷ [])

-- two pieces of four elements. Map 0 leads 0, 1, 2, 3 to 0, 1, 1, 2, map 1 leads nowhere; the supplied partition has all elements in both pieces
abbrev pub mesh : Bytes
mesh =
    framed_bytes 1
    ((2 ∷ [])
    ∷ (0 ∷ 4 ∷ [])
    ∷ (0 ∷ 0 ∷ 0 ∷ 1 ∷ 0 ∷ 1 ∷ 0 ∷ 2 ∷ 255 ∷ 255 ∷ 255 ∷ 255 ∷ 255 ∷ 255 ∷ 255 ∷ 255 ∷ [])
    ∷ (240 ∷ 240 ∷ [])
    ∷ [])

-- the elements of a node's pieces over the mesh
abbrev members : Bytes → ℕ → List (List ℕ)
members p j = listed (member (plan_of p) (data_of mesh) j) 4 0 2

-- nodes 0 to 5: P, F, G, G minus P, its image, and F without that
abbrev pub private_filing : Bytes
private_filing = filing (equal ++ image 0 0 ++ preimage 1 0 ++ difference 2 0 ++ image 3 0 ++ difference 1 4) 0 5

-- the image's pieces share element 1; 0 and 2 are private
pub private_example :
    (answer (report (verdict private_filing)) ≡ accepts 0 6 2) × (data_check (plan_of private_filing) mesh ≡ Ok tt)
    × (members private_filing 1 ≡ (0 ∷ 1 ∷ []) ∷ (1 ∷ 2 ∷ []) ∷ []) × (members private_filing 5 ≡ (0 ∷ []) ∷ (2 ∷ []) ∷ [])
unfolding definitions
private_example = (refl, refl, refl, refl)

-- the plan is refused for its step by lemma 21, and over the mesh, which fits, the first two pieces of x hold element 1
pub record Overlapping (p : Bytes) (x : ℕ) : Type 0 where
  pub refused : report (verdict p) ≡ refusal 10 1
  pub fits : data_check (plan_of p) mesh ≡ Ok tt
  pub first_holds : Is (member (plan_of p) (data_of mesh) x 0 1)
  pub second_holds : Is (member (plan_of p) (data_of mesh) x 1 1)

pub not_disjoint : {p : Bytes} {x : ℕ} → Overlapping p x → PairwiseDisjoint (member (plan_of p) (data_of mesh) x) → ⊥
not_disjoint o d = omega (arith, d 0 1 1 o.first_holds o.second_holds)

-- P minus G in place of G minus P; G under another map; F itself
abbrev pub turned_round : Bytes
turned_round = filing (equal ++ image 0 0 ++ preimage 1 0 ++ difference 0 2 ++ image 3 0 ++ difference 1 4) 0 5

abbrev pub under_two_maps : Bytes
under_two_maps = filing (equal ++ image 0 0 ++ preimage 1 1 ++ difference 2 0 ++ image 3 0 ++ difference 1 4) 0 5

abbrev pub image_itself : Bytes
image_itself = filing (equal ++ image 0 0) 0 1

-- P is supplied, and the premise is DISJ of node 6
abbrev pub another_premise : Bytes
another_premise = filing (supplied ++ image 0 0 ++ preimage 1 0 ++ difference 2 0 ++ image 3 0 ++ difference 1 4 ++ equal) 6 5

pub overlapping : Overlapping turned_round 5 × Overlapping under_two_maps 5 × Overlapping image_itself 1 × Overlapping another_premise 5
unfolding definitions
overlapping = (
  record { refused = refl; fits = refl; first_holds = refl; second_holds = refl },
  record { refused = refl; fits = refl; first_holds = refl; second_holds = refl },
  record { refused = refl; fits = refl; first_holds = refl; second_holds = refl },
  record { refused = refl; fits = refl; first_holds = refl; second_holds = refl },
)

-- nor would DISJ of G minus P do: no piece of it holds an element in the last of these
pub rest_empty : members another_premise 3 ≡ [] ∷ [] ∷ []
unfolding definitions
rest_empty = refl
