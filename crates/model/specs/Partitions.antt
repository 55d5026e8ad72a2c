-- Partitions, maps to sets, and the operators of source document 001 over them. No bytes here.
use Rattle.std.specs.Prelude.{ℕ, suc, ◌+◌, ◌*◌, ◌/◌, ◌%◌, ◌<◌, min, ◌≡◌, Bool, false}
use Rattle.model.specs.Tests.{Is, ◌and◌, ◌or◌, non, any, ◌<?◌, ◌≤?◌}

-- piece and element: whether the piece holds the element
abbrev pub Partition : Type 0
Partition = ℕ → ℕ → Bool

-- source and target element: whether the source element leads to the target element
abbrev pub Map : Type 0
Map = ℕ → ℕ → Bool

-- no piece holds an element
abbrev pub empty : Partition
empty i e = false

-- "The others act piece by piece": union, intersection, difference (a minus b)
unfoldable pub union : Partition → Partition → Partition
union A B i e = A i e or B i e

unfoldable pub intersection : Partition → Partition → Partition
intersection A B i e = A i e and B i e

unfoldable pub difference : Partition → Partition → Partition
difference A B i e = A i e and non (B i e)

-- "Image in piece i: the entries .. of the elements of a[i]"; the source has n elements
unfoldable pub image : ℕ → Map → Partition → Partition
image n f A i e = any n (λ k. A i k and f k e)

-- "Preimage: the source elements whose entry .. is in a[i]"; the target has n elements
unfoldable pub preimage : ℕ → Map → Partition → Partition
preimage n f A i k = any n (λ e. f k e and A i e)

-- contiguous pieces: piece i is from start i up to, not including, start (i + 1)
unfoldable pub contiguous : ℕ → (ℕ → ℕ) → Partition
contiguous N start i e = i <? N and start i ≤? e and e <? start (suc i)

-- "q = n div N, r = n mod N; contiguous pieces, the first r of q + 1 elements, the rest of q"
unfoldable pub equal_start : ℕ → ℕ → ℕ → ℕ
equal_start N n i = n / N * i + min i (n % N)

-- SUB: "piece by piece contained"
abbrev pub Contained : Partition → Partition → Type 0
Contained A B = (i e : ℕ) → Is (A i e) → Is (B i e)

-- DISJ: "different pieces share nothing"
abbrev pub PairwiseDisjoint : Partition → Type 0
PairwiseDisjoint A = (i j e : ℕ) → Is (A i e) → Is (A j e) → i ≡ j

-- COMP: "its pieces together are the region", of N pieces and n elements
abbrev pub Covering : ℕ → ℕ → Partition → Type 0
Covering N n A = (e : ℕ) → e < n → (i : ℕ) × (i < N) × Is (A i e)
