-- The kinds of statement against their bytes: a view that tells the kind of every byte, and what each kind does, as equations and
-- orders of the byte. Assumes nothing.
use Prim.Native.Nat.{ℕ, zero, suc, ◌≤◌}
use mathlib.Core.Path.{◌≡◌, refl, sym, subst, ◌∙◌}
use mathlib.Core.Logic.{◌⊎◌, inl, inr, ⊎_elim, ◌↔◌}
use mathlib.Core.Bool.{Bool, true, false}
use native.Mathlib.Omega.{arith}
use Rattle.model.specs.Tests.{Is}
use Rattle.model.specs.Layout.{Plan, statement_kind}
use Rattle.model.specs.Statements.{kind_of, opens_loop, defines_variable, access_of, is_access, kind, opens, defines, accesses, field_by, access_field}
use Rattle.model.specs.Parallel.{is_read, is_write, is_reduce, reads, writes, reduces}
use Rattle.model.specs.LoopRelations.{Defining, AccessField, of_load, of_read, of_write, of_reduce}
use Rattle.model.specs.declared.StatementKind.{StatementKind}
use Rattle.model.specs.declared.StatementKind.TheVariants.{For, Load, Call, Copy, Read, Write, Reduce, Unknown}
use Rattle.model.proofs.Tests.{falsum, fails, refuted}

-- the byte k is of the kind K
pub data KindView (k : ℕ) (K : StatementKind) : Type 0 where
  is_for : k ≡ 0 → K ≡ For → KindView k K
  is_load : k ≡ 1 → K ≡ Load → KindView k K
  is_call : k ≡ 2 → K ≡ Call → KindView k K
  is_copy : k ≡ 3 → K ≡ Copy → KindView k K
  is_read_lem : k ≡ 4 → K ≡ Read → KindView k K
  is_write_lem : k ≡ 5 → K ≡ Write → KindView k K
  is_reduce_lem : k ≡ 6 → K ≡ Reduce → KindView k K
  is_unknown : 7 ≤ k → K ≡ Unknown → KindView k K

byte_view : (k : ℕ) → KindView k (kind_of k)
unfolding kind_of
byte_view zero = is_for refl refl
byte_view (suc zero) = is_load refl refl
byte_view (suc (suc zero)) = is_call refl refl
byte_view (suc (suc (suc zero))) = is_copy refl refl
byte_view (suc (suc (suc (suc zero)))) = is_read_lem refl refl
byte_view (suc (suc (suc (suc (suc zero))))) = is_write_lem refl refl
byte_view (suc (suc (suc (suc (suc (suc zero)))))) = is_reduce_lem refl refl
byte_view (suc (suc (suc (suc (suc (suc (suc k))))))) = is_unknown (omega arith) refl

pub kind_view : (P : Plan) (s : ℕ) → KindView (statement_kind P s) (kind P s)
unfolding kind
kind_view P s = byte_view (statement_kind P s)

-- LOAD or CALL: the statement follows a map
abbrev pub FollowsMap : Plan → ℕ → Type 0
FollowsMap P s = (statement_kind P s ≡ 1) ⊎ (statement_kind P s ≡ 2)

-- "LOAD, READ, WRITE and REDUCE are accesses"
abbrev pub Accessing : Plan → ℕ → Type 0
Accessing P s = (statement_kind P s ≡ 1) ⊎ ((4 ≤ statement_kind P s) × (statement_kind P s ≤ 6))

-- a test and a statement that agree
so : {Q : Type 0} → Q → Is true ↔ Q
so q = (λ h. q, λ r. refl)

not_so : {Q : Type 0} → (Q → ⊥) → Is false ↔ Q
not_so n = (λ h. falsum h, λ q. absurd (n q))

-- a test of the kind agrees with a statement of the byte where it does so at each kind
by_kind : (test : StatementKind → Bool) (Q : ℕ → Type 0)
    → Is (test For) ↔ Q 0 → Is (test Load) ↔ Q 1 → Is (test Call) ↔ Q 2 → Is (test Copy) ↔ Q 3
    → Is (test Read) ↔ Q 4 → Is (test Write) ↔ Q 5 → Is (test Reduce) ↔ Q 6
    → ((k : ℕ) → 7 ≤ k → Is (test Unknown) ↔ Q k)
    → {k : ℕ} {K : StatementKind} → KindView k K → Is (test K) ↔ Q k
by_kind test Q a b c d e f g h (is_for i j) = rw (i, j) a
by_kind test Q a b c d e f g h (is_load i j) = rw (i, j) b
by_kind test Q a b c d e f g h (is_call i j) = rw (i, j) c
by_kind test Q a b c d e f g h (is_copy i j) = rw (i, j) d
by_kind test Q a b c d e f g h (is_read_lem i j) = rw (i, j) e
by_kind test Q a b c d e f g h (is_write_lem i j) = rw (i, j) f
by_kind test Q a b c d e f g h (is_reduce_lem i j) = rw (i, j) g
by_kind test Q a b c d e f g h {k} (is_unknown i j) = rw j (h k i)

module _ (P : Plan) (s : ℕ) where
  -- "Kind 0 FOR"
  pub opens_is : Is (opens P s) ↔ (statement_kind P s ≡ 0)
  unfolding opens opens_loop
  opens_is =
      by_kind opens_loop (λ k. k ≡ 0)
      (so refl) (not_so (omega arith)) (not_so (omega arith)) (not_so (omega arith))
      (not_so (omega arith)) (not_so (omega arith)) (not_so (omega arith)) (λ k l. not_so (omega arith))
      (kind_view P s)

  -- "Kinds 1 to 3 define"
  pub defines_is : Is (defines P s) ↔ Defining P s
  unfolding defines defines_variable
  defines_is =
      by_kind defines_variable (λ k. (1 ≤ k) × (k ≤ 3))
      (not_so (omega arith)) (so (omega arith)) (so (omega arith)) (so (omega arith))
      (not_so (omega arith)) (not_so (omega arith)) (not_so (omega arith)) (λ k l. not_so (omega arith))
      (kind_view P s)

  -- "LOAD is also a read", beside READ
  pub reads_is : Is (reads P s) ↔ (statement_kind P s ≡ 1) ⊎ (statement_kind P s ≡ 4)
  unfolding reads access_of is_read
  reads_is =
      by_kind (λ K. is_read (access_of K)) (λ k. (k ≡ 1) ⊎ (k ≡ 4))
      (not_so (⊎_elim (omega arith) (omega arith))) (so (inl refl)) (not_so (⊎_elim (omega arith) (omega arith)))
      (not_so (⊎_elim (omega arith) (omega arith))) (so (inr refl)) (not_so (⊎_elim (omega arith) (omega arith)))
      (not_so (⊎_elim (omega arith) (omega arith))) (λ k l. not_so (⊎_elim (omega arith) (omega arith)))
      (kind_view P s)

  pub writes_is : Is (writes P s) ↔ (statement_kind P s ≡ 5)
  unfolding writes access_of is_write
  writes_is =
      by_kind (λ K. is_write (access_of K)) (λ k. k ≡ 5)
      (not_so (omega arith)) (not_so (omega arith)) (not_so (omega arith)) (not_so (omega arith))
      (not_so (omega arith)) (so refl) (not_so (omega arith)) (λ k l. not_so (omega arith))
      (kind_view P s)

  pub reduces_is : Is (reduces P s) ↔ (statement_kind P s ≡ 6)
  unfolding reduces access_of is_reduce
  reduces_is =
      by_kind (λ K. is_reduce (access_of K)) (λ k. k ≡ 6)
      (not_so (omega arith)) (not_so (omega arith)) (not_so (omega arith)) (not_so (omega arith))
      (not_so (omega arith)) (not_so (omega arith)) (so refl) (λ k l. not_so (omega arith))
      (kind_view P s)

  pub accesses_is : Is (accesses P s) ↔ Accessing P s
  unfolding accesses access_of is_access
  accesses_is =
      by_kind (λ K. is_access (access_of K)) (λ k. (k ≡ 1) ⊎ ((4 ≤ k) × (k ≤ 6)))
      (not_so (⊎_elim (omega arith) (omega arith))) (so (inl refl)) (not_so (⊎_elim (omega arith) (omega arith)))
      (not_so (⊎_elim (omega arith) (omega arith))) (so (inr (omega arith))) (so (inr (omega arith))) (so (inr (omega arith)))
      (λ k l. not_so (⊎_elim (omega arith) (omega arith)))
      (kind_view P s)

  -- an access opens no loop
  pub access_no_for : Accessing P s → statement_kind P s ≡ 0 → ⊥
  access_no_for (inl e) z = omega arith
  access_no_for (inr e) z = omega arith

  pub access_opens_none : Is (accesses P s) → opens P s ≡ false
  access_opens_none h = fails (refuted (λ o. access_no_for (accesses_is.0 h) (opens_is.0 o)))

  -- the field of an access, as a relation
  names_field : Accessing P s → AccessField P s (access_field P s)
  unfolding access_field field_by
  names_field a = by (kind_view P s)
    where
      never : (k : ℕ) → statement_kind P s ≡ k → (k ≡ 1 → ⊥) → ((4 ≤ k) × (k ≤ 6) → ⊥) → ⊥
      never k i one others = ⊎_elim (λ e. one (sym i ∙ e)) (λ l. others (rw i at l)) a

      by : {K : StatementKind} → KindView (statement_kind P s) K → AccessField P s (field_by P K s)
      by (is_load i j) = of_load i (rw j)
      by (is_read_lem i j) = of_read i (rw j)
      by (is_write_lem i j) = of_write i (rw j)
      by (is_reduce_lem i j) = of_reduce i (rw j)
      by (is_for i j) = absurd (never _ i (omega arith) (omega arith))
      by (is_call i j) = absurd (never _ i (omega arith) (omega arith))
      by (is_copy i j) = absurd (never _ i (omega arith) (omega arith))
      by (is_unknown i j) = absurd (never _ refl (omega arith) (omega arith))

  field_named : {g : ℕ} → AccessField P s g → access_field P s ≡ g
  unfolding access_field field_by kind kind_of
  field_named (of_load i e) = rw (i, e)
  field_named (of_read i e) = rw (i, e)
  field_named (of_write i e) = rw (i, e)
  field_named (of_reduce i e) = rw (i, e)

  pub field_is : {g : ℕ} → Accessing P s → (access_field P s ≡ g) ↔ AccessField P s g
  field_is a = (λ h. subst (AccessField P s) h (names_field a), field_named)
