-- The law behind each lemma, of all partitions and all maps to sets: no plan here. Only the laws of 14 and 18 ask for a map with at most
-- one target to an element, only that of 20 for one with at least one, and only that of 21 for one whose targets are the n elements it has.
-- Assumes nothing.
use Prim.Native.Nat.{ℕ, zero, suc, ◌≤◌, ◌<◌}
use mathlib.Core.Path.{◌≡◌, refl}
use mathlib.Core.Logic.{inl, inr, ◌↔◌}
use mathlib.Core.Bool.{Bool, true, false}
use native.Mathlib.Nat.{le_refl, le_trans, mod-lt, div-add-mod'}
use native.Mathlib.Decide.{le_ind}
use native.Mathlib.Omega.{arith}
use lib.Dec.{ltb}
use borrow.Author.Tests.{ltb-true, ltb-false}
use Rattle.model.specs.Tests.{Is}
use Rattle.model.specs.Partitions.{Partition, Map, union, intersection, difference, image, preimage, contiguous, equal_start, Contained, PairwiseDisjoint, Covering}
use Rattle.model.proofs.Tests.{both, pair, either, one, lacks, refuted, split, less, less!, most, most!, some_of, among}

-- at most one target to an element
abbrev pub SingleValued : Map → Type 0
SingleValued f = (k d e : ℕ) → Is (f k d) → Is (f k e) → d ≡ e

-- at least one target, below n, to each of m elements
abbrev pub Total : ℕ → ℕ → Map → Type 0
Total m n f = (k : ℕ) → k < m → (e : ℕ) × (e < n) × Is (f k e)

-- a partition has N pieces of n elements: 001's PART
abbrev pub Within : ℕ → ℕ → Partition → Type 0
Within N n A = (i e : ℕ) → Is (A i e) → (i < N) × (e < n)

-- lemma 5
pub subset_refl : (A : Partition) → Contained A A
subset_refl A i e h = h

-- lemma 6
pub subset_trans : {A B C : Partition} → Contained A B → Contained B C → Contained A C
subset_trans p q i e h = q i e (p i e h)

-- lemma 15
pub subset_disjoint : {A B : Partition} → PairwiseDisjoint B → Contained A B → PairwiseDisjoint A
subset_disjoint d p i j e h k = d i j e (p i e h) (p j e k)

-- lemma 19
pub superset_complete : {A B : Partition} {N n : ℕ} → Covering N n A → Contained A B → Covering N n B
superset_complete c p e lt = let r = c e lt in (r.0, r.1, p r.0 e r.2)

pub subset_within : {A B : Partition} {N n : ℕ} → Within N n B → Contained A B → Within N n A
subset_within w p i e h = w i e (p i e h)

module _ (A B : Partition) where
  -- lemma 7
  pub union_contains_left : Contained A (union A B)
  unfolding union
  union_contains_left i e h = one (inl h)

  pub union_contains_right : Contained B (union A B)
  unfolding union
  union_contains_right i e h = one (inr h)

  -- lemma 9
  pub intersection_subset_left : Contained (intersection A B) A
  unfolding intersection
  intersection_subset_left i e h = (both h).0

  pub intersection_subset_right : Contained (intersection A B) B
  unfolding intersection
  intersection_subset_right i e h = (both h).1

  -- lemma 11
  pub difference_subset : Contained (difference A B) A
  unfolding difference
  difference_subset i e h = (both h).0

  -- lemma 16
  pub intersection_disjoint_left : PairwiseDisjoint A → PairwiseDisjoint (intersection A B)
  intersection_disjoint_left d = subset_disjoint d intersection_subset_left

  pub intersection_disjoint_right : PairwiseDisjoint B → PairwiseDisjoint (intersection A B)
  intersection_disjoint_right d = subset_disjoint d intersection_subset_right

  -- lemma 17
  pub difference_disjoint : PairwiseDisjoint A → PairwiseDisjoint (difference A B)
  difference_disjoint d = subset_disjoint d difference_subset

-- lemma 8
pub union_least : {A B C : Partition} → Contained A C → Contained B C → Contained (union A B) C
unfolding union
union_least p q i e h = elim (either h) [ inl a ↦ p i e a | inr b ↦ q i e b ]

pub union_within : {A B : Partition} {N n : ℕ} → Within N n A → Within N n B → Within N n (union A B)
unfolding union
union_within v w i e h = elim (either h) [ inl a ↦ v i e a | inr b ↦ w i e b ]

-- lemma 10
pub intersection_greatest : {A B C : Partition} → Contained C A → Contained C B → Contained C (intersection A B)
unfolding intersection
intersection_greatest p q i e h = pair (p i e h) (q i e h)

-- what is in an image, and in a preimage; n is the number of elements of the map's source, and of its target
module _ (n : ℕ) (f : Map) (A : Partition) where
  pub in_image : {i k e : ℕ} → k < n → Is (A i k) → Is (f k e) → Is (image n f A i e)
  unfolding image
  in_image {i} {k} {e} lt h g = among (k, lt, pair h g)

  pub of_image : {i e : ℕ} → Is (image n f A i e) → (k : ℕ) × (k < n) × Is (A i k) × Is (f k e)
  unfolding image
  of_image h = let r = some_of h in (r.0, r.1, (both r.2).0, (both r.2).1)

  pub in_preimage : {i k e : ℕ} → e < n → Is (f k e) → Is (A i e) → Is (preimage n f A i k)
  unfolding preimage
  in_preimage {i} {k} {e} lt g h = among (e, lt, pair g h)

  pub of_preimage : {i k : ℕ} → Is (preimage n f A i k) → (e : ℕ) × (e < n) × Is (f k e) × Is (A i e)
  unfolding preimage
  of_preimage h = let r = some_of h in (r.0, r.1, (both r.2).0, (both r.2).1)

module _ (n : ℕ) (f : Map) where
  -- lemma 12
  pub image_monotone : {A B : Partition} → Contained A B → Contained (image n f A) (image n f B)
  image_monotone {A} {B} p i e h = let r = of_image n f A h in in_image n f B r.1 (p i r.0 r.2) r.3

  -- lemma 13
  pub preimage_monotone : {A B : Partition} → Contained A B → Contained (preimage n f A) (preimage n f B)
  preimage_monotone {A} {B} p i k h = let r = of_preimage n f A h in in_preimage n f B r.1 r.2 (p i r.0 r.3)

  -- lemma 18
  pub preimage_disjoint : {A : Partition} → SingleValued f → PairwiseDisjoint A → PairwiseDisjoint (preimage n f A)
  preimage_disjoint {A} s d i j k h g =
      let r = of_preimage n f A h in
      let t = of_preimage n f A g in
      d i j t.0 (rw (s k r.0 t.0 r.2 t.2) at r.3) t.3

-- a map f of m elements to n elements
module _ (m n : ℕ) (f : Map) where
  -- lemma 14
  pub image_of_preimage : {A : Partition} (B : Partition) → SingleValued f → Contained A (preimage n f B) → Contained (image m f A) B
  image_of_preimage {A} B s p i e h =
      let r = of_image m f A h in
      let t = of_preimage n f B (p i r.0 r.2) in
      rw (s r.0 e t.0 r.3 t.2) t.3

  -- lemma 20
  pub preimage_complete : {A : Partition} {N : ℕ} → Total m n f → Covering N n A → Covering N m (preimage n f A)
  preimage_complete {A} total c k lt =
      let t = total k lt in
      let r = c t.0 t.1 in
      (r.0, r.1, in_preimage n f A t.1 t.2 r.2)

  -- the private part of the image of A: F minus the image of (G minus A), where F is that image and G the preimage of F
  abbrev pub private_part : Partition → Partition
  private_part A = difference (image m f A) (image m f (difference (preimage n f (image m f A)) A))

  module _ (targets : (k e : ℕ) → Is (f k e) → e < n) (A : Partition) where
    -- it holds the elements of the image to which no element outside the piece leads
    pub private_exactly :
        (i e : ℕ) → Is (private_part A i e) ↔ (Is (image m f A i e) × ((k : ℕ) → k < m → Is (f k e) → Is (A i k)))
    unfolding difference
    private_exactly i e = (λ h. ((both h).0, alone h), λ w. pair w.0 (refuted (unshared w)))
      where
        rest : Partition
        rest = difference (preimage n f (image m f A)) A

        alone : Is (private_part A i e) → (k : ℕ) → k < m → Is (f k e) → Is (A i k)
        alone h k lt g =
            elim (split (A i k)) [
              | inl inside ↦ inside
              | inr outside ↦
                  absurd (lacks (both h).1 (in_image m f rest lt (pair (in_preimage n f (image m f A) (targets k e g) g (both h).0) outside) g))
            ]

        unshared : Is (image m f A i e) × ((k : ℕ) → k < m → Is (f k e) → Is (A i k)) → Is (image m f rest i e) → ⊥
        unshared w h = let r = of_image m f rest h in lacks (both r.2).1 (w.1 r.0 r.1 r.3)

    -- lemma 21
    pub private_disjoint : PairwiseDisjoint A → PairwiseDisjoint (private_part A)
    private_disjoint d i j e h g =
        let r = of_image m f A ((private_exactly j e).0 g).0 in
        d i j r.0 (((private_exactly i e).0 h).1 r.0 r.1 r.3) r.2

  pub image_within : {A : Partition} {N : ℕ} → ((k e : ℕ) → Is (f k e) → e < n) → Within N m A → Within N n (image m f A)
  image_within {A} targets w i e h = let r = of_image m f A h in ((w i r.0 r.2).0, targets r.0 e r.3)

  pub preimage_within : {A : Partition} {N : ℕ} → ((k e : ℕ) → Is (f k e) → k < m) → Within N n A → Within N m (preimage n f A)
  preimage_within {A} sources w i k h = let r = of_preimage n f A h in ((w i r.0 r.3).0, sources k r.0 r.2)

-- starts of N contiguous pieces of n elements
pub record Starts (N n : ℕ) (start : ℕ → ℕ) : Type 0 where
  pub first : start 0 ≡ 0
  pub last : start N ≡ n
  pub grows : (i : ℕ) → i < N → start i ≤ start (suc i)

module _ {N n : ℕ} {start : ℕ → ℕ} (s : Starts N n start) where
  starts_grow : (i j : ℕ) → i ≤ j → j ≤ N → start i ≤ start j
  starts_grow i =
      le_ind (λ m. m ≤ N → start i ≤ start m) (λ _. le_refl (start i)) (λ m _ ih l. le_trans (ih (omega arith)) (s.grows m l))

  -- lemma 1
  pub contiguous_disjoint : PairwiseDisjoint (contiguous N start)
  unfolding contiguous
  contiguous_disjoint i j e h g =
      let p : ¬ (i < j) = ordered i j h g in
      let q : ¬ (j < i) = ordered j i g h in
      omega arith
    where
      ordered : (i j : ℕ) → Is (contiguous N start i e) → Is (contiguous N start j e) → i < j → ⊥
      ordered i j h g lt =
          omega
          (arith, starts_grow (suc i) j lt (omega (arith, less (both g).0)), less (both (both h).1).1, most (both (both g).1).0)

  -- lemma 2: below the start of piece k each element is in a piece before k
  covered : (k : ℕ) → k ≤ N → (e : ℕ) → e < start k → (i : ℕ) × (i < N) × Is (contiguous N start i e)
  unfolding contiguous
  covered zero le e lt = absurd (omega (arith, s.first))
  covered (suc k) le e lt = go (ltb e (start k)) refl (covered k (omega arith) e)
    where
      Found : Type 0
      Found = (i : ℕ) × (i < N) × Is (contiguous N start i e)

      go : (b : Bool) → ltb e (start k) ≡ b → (e < start k → Found) → Found
      go true t r = r (ltb-true e (start k) t)
      go false t r = (k, le, pair (less! le) (pair (most! (ltb-false e (start k) t)) (less! lt)))

  pub contiguous_complete : Covering N n (contiguous N start)
  contiguous_complete e lt = covered N (le_refl N) e (rw s.last lt)

  pub contiguous_within : Within N n (contiguous N start)
  unfolding contiguous
  contiguous_within i e h =
      let lt = less (both h).0 in
      (lt, omega (arith, less (both (both h).1).1, starts_grow (suc i) N lt (le_refl N), s.last))

pub equal_starts : (N n : ℕ) → 0 < N → Starts N n (equal_start N n)
unfolding equal_start
equal_starts N n pos =
    record { first = omega arith; last = omega (arith, div-add-mod' n N, mod-lt n pos); grows = λ i lt. omega arith }
