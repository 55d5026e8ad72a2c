-- The classes of a loop's accesses, as bits of a byte for each region and field. Assumes nothing.
use Prim.Native.Nat.{ℕ, zero, suc, ◌+◌, ◌*◌, ◌%◌, ◌^◌, ◌≤◌, ◌<◌}
use mathlib.Core.Path.{◌≡◌, refl, sym, ap, ◌∙◌}
use mathlib.Core.List.{List}
use mathlib.Core.Bool.{Bool, true, false, not, ◌||◌}
use native.Mathlib.Omega.{arith}
use lib.Bits.{bit_and, bit_or}
use lib.ListN.{length, get_or, set, length-set}
use lib.Seq.{get_or-set_same}
use lib.Dec.{eqb}
use Rattle.model.specs.Tests.{Is, ◌and◌, ◌or◌, non, ◌=?◌, ◌≤?◌, every, pick}
use Rattle.model.specs.Words.{bit}
use Rattle.model.specs.Statements.{is_access}
use Rattle.model.specs.Parallel.{is_read, is_write, is_reduce}
use Rattle.model.specs.declared.Access.{Access}
use Rattle.model.specs.declared.Access.TheVariants.{Nothing, Reads, Writes, Reduces}
use Rattle.model.proofs.Tests.{both, pair, lacks, refuted, same, same!, most!, same_truth, every_at, every_of}
use Rattle.primitives.proofs.Bits.{refute, or-false}
use Rattle.loops.specs.declared.parallel.LoopAccess.{LoopAccess}
use Rattle.loops.specs.Parallel.{target_number, class, class_by, clash, compatible, entered, admitted}

-- the rule of a byte, as the checker asks it
abbrev pub compatible_byte : ℕ → Bool
compatible_byte classes =
    eqb (bit_and classes 250) 0 || eqb (bit_and classes 252) 0
    || (eqb classes 16 || eqb classes 32 || eqb classes 64 || eqb classes 128)

alike : Bool → Bool → Bool
alike true b = b
alike false b = not b

alike_same : (a b : Bool) → Is (alike a b) → a ≡ b
unfolding alike
alike_same true true h = refl
alike_same true false h = sym h
alike_same false true h = h
alike_same false false h = refl

all_bytes : Is (every 256 (λ classes. alike (compatible_byte classes) (compatible classes)))
unfolding alike every compatible clash bit ◌and◌ ◌or◌ non ◌=?◌ ◌≤?◌
all_bytes = refl

-- the rule of a byte is that of the pairs of its bits: computed for each byte
pub byte_rule : (classes : ℕ) → classes < 256 → compatible_byte classes ≡ compatible classes
byte_rule classes small = alike_same _ _ (every_at 256 (λ c. alike (compatible_byte c) (compatible c)) all_bytes classes small)

-- the pairs of a byte's bits
pub compatible_of : (classes : ℕ) → ((i j : ℕ) → Is (bit classes i) → Is (bit classes j) → Is (clash i j) → ⊥) → Is (compatible classes)
unfolding compatible
compatible_of classes h =
    every_of 8 _ (λ i lt. every_of 8 _ (λ j m. refuted (λ b. h i j (both b).0 (both (both b).1).0 (both (both b).1).1)))

pub apart_of : (classes : ℕ) {i j : ℕ} → Is (compatible classes) → i < 8 → j < 8 → Is (bit classes i) → Is (bit classes j) → Is (clash i j) → ⊥
unfolding compatible
apart_of classes h lt m a b c = lacks (every_at 8 _ (every_at 8 _ h _ lt) _ m) (pair a (pair b c))

-- the bit of a reduction through a pointer, by its operator
pub operator_bit : (o : ℕ) → o < 4 → (16 * 2 ^ o) % 256 ≡ 2 ^ (4 + o)
operator_bit zero h = refl
operator_bit (suc zero) h = refl
operator_bit (suc (suc zero)) h = refl
operator_bit (suc (suc (suc zero))) h = refl
operator_bit (suc (suc (suc (suc o)))) h = absurd (omega arith)

pub class_few : (a : LoopAccess) → class a < 8
unfolding class class_by pick
class_few a = by a.access a.centered
  where
    by : (access : Access) (z : Bool) → class_by access z a.operator < 8
    by Nothing z = omega arith
    by Reads true = omega arith
    by Reads false = omega arith
    by Writes true = omega arith
    by Writes false = omega arith
    by Reduces true = omega arith
    by Reduces false = omega arith

-- a reduction through a pointer shares with no other class
clash_reduction : (i j : ℕ) → 4 ≤ i → clash i j ≡ non (i =? j)
unfolding clash ◌and◌ ◌or◌
clash_reduction i j h =
    let write : (i =? 3) ≡ false = refute (λ e. let q = same e in omega arith) in
    let read : (i =? 1) ≡ false = refute (λ e. let q = same e in omega arith) in
    rw (most! h, write, read) (or-false _)

other_class : {i j : ℕ} → 4 ≤ i → j < 4 → (i =? j) ≡ false
other_class h k = refute (λ e. let q = same e in omega arith)

-- a write or a reduction, by its class
writes_or_reduces : (b : Access) (z : Bool) (p : ℕ) → (is_write b or is_reduce b) ≡ (2 ≤? class_by b z p)
unfolding is_write is_reduce class_by pick ◌or◌ ◌≤?◌
writes_or_reduces Nothing z p = refl
writes_or_reduces Reads true p = refl
writes_or_reduces Reads false p = refl
writes_or_reduces Writes true p = refl
writes_or_reduces Writes false p = refl
writes_or_reduces Reduces true p = refl
writes_or_reduces Reduces false p = sym (most! {a = 2} {b = 4 + p % 4} (omega arith))

-- a reduction through a pointer by the same operator, by its class
same_reduction : (b : Access) (z : Bool) (o p : ℕ) → o < 4 → (Is (is_reduce b) → p < 4)
    → (is_reduce b and non z and o =? p) ≡ (4 + o % 4 =? class_by b z p)
unfolding is_reduce class_by pick ◌and◌ non
same_reduction Reduces false o p h k =
    let few = k refl in same_truth (λ e. let q = same e in same! (omega arith)) (λ e. let q = same e in same! (omega arith))
same_reduction Nothing z o p h k = sym (other_class (omega arith) (omega arith))
same_reduction Reads true o p h k = sym (other_class (omega arith) (omega arith))
same_reduction Reads false o p h k = sym (other_class (omega arith) (omega arith))
same_reduction Writes true o p h k = sym (other_class (omega arith) (omega arith))
same_reduction Writes false o p h k = sym (other_class (omega arith) (omega arith))
same_reduction Reduces true o p h k = sym (other_class (omega arith) (omega arith))

-- what two accesses of one region and field may not be is said by their classes
pub clash_is : (a b : Access) (c d : Bool) (o p : ℕ) → (Is (is_reduce a) → o < 4) → (Is (is_reduce b) → p < 4)
    → (is_write a and non c
    or is_reduce a and non c and non (is_reduce b and non d and o =? p) or is_read a and non c and (is_write b or is_reduce b))
    ≡ clash (class_by a c o) (class_by b d p)
unfolding is_read is_write is_reduce clash class_by pick ◌and◌ ◌or◌ non ◌=?◌ ◌≤?◌
clash_is Nothing b c d o p h k = refl
clash_is Reads b true d o p h k = refl
clash_is Reads b false d o p h k = writes_or_reduces b d p
clash_is Writes b true d o p h k = refl
clash_is Writes b false d o p h k = refl
clash_is Reduces b true d o p h k = refl
clash_is Reduces b false d o p h k =
    or-false _ ∙ ap non (same_reduction b d o p (h refl) k) ∙ sym (clash_reduction (4 + o % 4) (class_by b d p) (omega arith))

pub entered-length : (a : LoopAccess) (seen : List ℕ) → length (entered a seen) ≡ length seen
unfolding entered pick
entered-length a seen = go (is_access a.access) _
  where
    go : (b : Bool) (v : ℕ) → length (pick b (set seen (target_number a) v) seen) ≡ length seen
    go true v = length-set seen _ v
    go false v = refl

-- what is no access is not entered, and nothing is asked of it
pub not_entered : (a : LoopAccess) (seen : List ℕ) → is_access a.access ≡ false → entered a seen ≡ seen
unfolding entered pick
not_entered a seen e = rw e

pub not_asked : (a : LoopAccess) (seen : List ℕ) → is_access a.access ≡ false → admitted a seen ≡ true
unfolding admitted ◌or◌ non
not_asked a seen e = rw e

-- an access is entered: what is stored, and what is asked of it
module _ (a : LoopAccess) (seen : List ℕ) {target classes : ℕ} (access : Is (is_access a.access)) (t : target ≡ target_number a)
    (c : classes ≡ 2 ^ class a) where
  abbrev stored : List ℕ
  stored = set seen target (bit_or (get_or seen target 0) classes)

  pub entered_is : stored ≡ entered a seen
  unfolding entered pick
  entered_is = rw (access, c, t)

  pub admitted_is : target < length seen → {fits : Bool} → fits ≡ compatible (bit_or (get_or seen target 0) classes) → fits ≡ admitted a stored
  unfolding admitted ◌or◌ non
  admitted_is room f = rw (f, access, ← t, get_or-set_same {A = ℕ} seen target (bit_or (get_or seen target 0) classes) 0 room)
