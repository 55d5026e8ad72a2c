-- A pass over a loop: what was seen are the classes of its accesses so far, and the loop is parallelizable exactly when each
-- access is admitted among them. Assumes nothing.
use Prim.Native.Nat.{ℕ, ◌+◌, ◌^◌, ◌≤◌, ◌<◌}
use mathlib.Core.Path.{◌≡◌, refl, sym, ap, ◌∙◌}
use mathlib.Core.Logic.{◌⊎◌, inl, inr}
use mathlib.Core.List.{List}
use mathlib.Core.Bool.{Bool, false}
use native.Mathlib.Decide.{ℕ_discrete}
use native.Mathlib.Numerals.{add-one}
use native.Mathlib.Omega.{arith}
use lib.ListN.{length, get_or, set, replicate}
use lib.Seq.{get_or-set_same, get_or-set_other}
use lib.Bits.{bit_or}
use Rattle.model.specs.Tests.{Is, ◌and◌, ◌or◌, non, ◌=?◌, ◌≤?◌, any, every, pick}
use Rattle.model.specs.Words.{bit}
use Rattle.model.specs.Layout.{Plan, statement_count, statement_c}
use Rattle.model.specs.Statements.{kind, access_of, accesses, loop, operand_definition, centered}
use Rattle.model.specs.Parallel.{reads, writes, reduces, uncentered, access_of_loop, same_target, conflicts, parallelizable}
use Rattle.model.proofs.Tests.{falsum, both, either, pair, one, lacks, refuted, fails, same, same!, same_truth, split, implied, implies, some_of, among, every_at, every_of}
use Rattle.model.proofs.Words.{bit_zero}
use Rattle.primitives.proofs.Bits.{refute, and_false, or-false, bit-bit_or, bit_power}
use Rattle.primitives.proofs.Filling.{zeros}
use Rattle.primitives.proofs.Searches.{none_of}
use Rattle.loops.specs.Parallel.{access_at, AccessLimits, LoopSpan, target_number, class, clash, compatible, entered, admitted}
use Rattle.loops.proofs.Classes.{class_few, clash_is, compatible_of, apart_of, entered-length}
use Rattle.loops.proofs.Spans.{loop_most}

module _ (P : Plan) where
  -- the number of the region and field of access s, and its class
  abbrev target_at : ℕ → ℕ
  target_at s = target_number (access_at P s)

  abbrev class_at : ℕ → ℕ
  class_at s = class (access_at P s)

  -- accesses of a plan within its limits
  module _ {s t : ℕ} (S : AccessLimits P s) (T : AccessLimits P t) where
    same_target_lem : same_target P s t ≡ (target_at s =? target_at t)
    unfolding same_target target_number access_at
    same_target_lem =
        same_truth
        (λ h. let r = same (both h).0 in let g = same (both h).1 in same! (rw (r, g)))
        (λ h. let e = same h in
        pair (same! (omega (arith, S.region_few, S.field_few, T.region_few, T.field_few)))
        (same! (omega (arith, S.region_few, S.field_few, T.region_few, T.field_few))))

    -- what the rule forbids is a clash of classes
    clash_at : (writes P s and uncentered P s
        or reduces P s and uncentered P s and non (reduces P t and uncentered P t and statement_c P s =? statement_c P t)
        or reads P s and uncentered P s and (writes P t or reduces P t))
        ≡ clash (class_at s) (class_at t)
    unfolding reads writes reduces uncentered access_at class
    clash_at =
        clash_is (access_of (kind P s)) (access_of (kind P t)) (centered P (operand_definition P s)) (centered P (operand_definition P t))
        (statement_c P s) (statement_c P t) S.operator_few T.operator_few

    write_clashes : Is (writes P s and uncentered P s) → Is (clash (class_at s) (class_at t))
    write_clashes w = sym clash_at ∙ one (inl w)

    conflict_clashes : Is (conflicts P s t) → (target_at s ≡ target_at t) × Is (clash (class_at s) (class_at t))
    unfolding conflicts
    conflict_clashes c = (same (sym same_target_lem ∙ (both c).0), sym clash_at ∙ one (inr (both c).1))

    clashes : target_at s ≡ target_at t → Is (clash (class_at s) (class_at t)) → Is (writes P s and uncentered P s) ⊎ Is (conflicts P s t)
    unfolding conflicts
    clashes e c = elim (either (clash_at ∙ c)) [ inl w ↦ inl w | inr h ↦ inr (pair (same_target_lem ∙ same! e) h) ]

  module _ (f : ℕ) where
    -- access t of the loop is of target x and class i
    abbrev of_class : ℕ → ℕ → ℕ → Bool
    of_class x i t = access_of_loop P f t and target_at t =? x and class_at t =? i

    parts : (x i t : ℕ) → Is (of_class x i t) → Is (access_of_loop P f t) × (target_at t ≡ x) × (class_at t ≡ i)
    parts x i t h = ((both h).0, same (both (both h).1).0, same (both (both h).1).1)

    -- what is held of the statements before s
    pub record Seen (s : ℕ) (seen : List ℕ) : Type 0 where
      pub room : length seen ≡ 128
      pub classes : (x i : ℕ) → bit (get_or seen x 0) i ≡ any s (of_class x i)
      pub compatible_all : (x : ℕ) → Is (compatible (get_or seen x 0))

    not_yet : (t : ℕ) → t < f → Is (access_of_loop P f t) → ⊥
    unfolding access_of_loop
    not_yet t lt h = let e = same (both h).1 in absurd (omega (arith, loop_most P t))

    compatible_none : Is (compatible 0)
    unfolding compatible clash bit every ◌and◌ ◌or◌ non ◌=?◌ ◌≤?◌
    compatible_none = refl

    pub seen_start : Seen f (replicate 128 0)
    seen_start =
        record {
          room = refl;
          classes = λ x i. rw (zeros 128 x) (bit_zero i ∙ sym (none_of f (of_class x i) (λ t lt. refute (λ h. not_yet t lt (both h).0))));
          compatible_all = λ x. rw (zeros 128 x) compatible_none;
        }

    module _ {s : ℕ} {seen : List ℕ} (past : Seen s seen) (here : loop P s ≡ f) where
      abbrev seen' : List ℕ
      seen' = entered (access_at P s) seen

      stored : Is (accesses P s) → seen' ≡ set seen (target_at s) (bit_or (get_or seen (target_at s) 0) (2 ^ class_at s))
      unfolding entered accesses access_at pick
      stored a = rw a

      unchanged : accesses P s ≡ false → seen' ≡ seen
      unfolding entered accesses access_at pick
      unchanged a = rw a

      inside : target_at s < length seen
      unfolding target_number
      inside = omega (arith, past.room)

      in_own_loop : Is (accesses P s) → Is (access_of_loop P f s)
      unfolding access_of_loop
      in_own_loop a = pair a (same! here)

      -- what the store adds at each target and class
      added : Is (accesses P s) → (x i : ℕ) → bit (get_or seen' x 0) i ≡ (any s (of_class x i) or of_class x i s)
      unfolding ◌and◌
      added a x i = at (ℕ_discrete x (target_at s))
        where
          at : Dec (x ≡ target_at s) → bit (get_or seen' x 0) i ≡ (any s (of_class x i) or of_class x i s)
          at (yes e) =
              rw (
                stored a,
                e,
                get_or-set_same {A = ℕ} seen (target_at s) (bit_or (get_or seen (target_at s) 0) (2 ^ class_at s)) 0 inside,
                bit-bit_or (get_or seen (target_at s) 0) (2 ^ class_at s) i,
                bit_power (class_at s) i,
                past.classes (target_at s) i,
                in_own_loop a,
                same! {a = target_at s} refl,
              )
              (ap (λ (b : Bool). any s (of_class (target_at s) i) or b) (same_truth (λ h. same! (sym (same h))) (λ h. same! (sym (same h)))))
          at (no d) =
              rw (
                stored a,
                get_or-set_other {A = ℕ} seen (target_at s) x (bit_or (get_or seen (target_at s) 0) (2 ^ class_at s)) 0 d,
                past.classes x i,
                refute {a = target_at s =? x} (λ h. d (sym (same h))),
                and_false (access_of_loop P f s),
              )
              (sym (or-false _))

      no_access : Is (non (accesses P s)) → Is (access_of_loop P f s) → ⊥
      unfolding access_of_loop
      no_access n h = lacks n (both h).0

      classes_next : (x i : ℕ) → bit (get_or seen' x 0) i ≡ any (s + 1) (of_class x i)
      unfolding any
      classes_next x i =
          rw (add-one s) (elim (split (accesses P s)) [
            | inl a ↦ added a x i
            | inr n ↦
                rw (unchanged (fails n), past.classes x i, refute {a = of_class x i s} (λ h. no_access n (both h).0)) (sym (or-false _))
          ])

      module _ (fits : Is (admitted (access_at P s) seen')) where
        entry_fits_lem : Is (accesses P s) → Is (compatible (get_or seen' (target_at s) 0))
        unfolding admitted accesses access_at
        entry_fits_lem a = implied fits a

        compatible_next : (x : ℕ) → Is (compatible (get_or seen' x 0))
        compatible_next x =
            elim (split (accesses P s)) [
              | inl a ↦ at a (ℕ_discrete x (target_at s))
              | inr n ↦ rw (unchanged (fails n)) (past.compatible_all x)
            ]
          where
            at : Is (accesses P s) → Dec (x ≡ target_at s) → Is (compatible (get_or seen' x 0))
            at a (yes e) = rw e (entry_fits_lem a)
            at a (no d) =
                rw (stored a, get_or-set_other {A = ℕ} seen (target_at s) x (bit_or (get_or seen (target_at s) 0) (2 ^ class_at s)) 0 d) (past.compatible_all x)

        pub seen_next : Seen (s + 1) seen'
        seen_next =
            record {
              room = entered-length (access_at P s) seen ∙ past.room;
              classes = classes_next;
              compatible_all = compatible_next;
            }

    -- the loop and its accesses
    module _ (limits : (t : ℕ) → t < statement_count P → Is (accesses P t) → AccessLimits P t) where
      within : {t : ℕ} → t < statement_count P → Is (access_of_loop P f t) → AccessLimits P t
      unfolding access_of_loop
      within {t} lt a = limits t lt (both a).0

      -- in a parallelizable loop each access is admitted
      module _ {s : ℕ} {seen : List ℕ} (past : Seen s seen) (here : loop P s ≡ f) (lt : s < statement_count P)
          (good : Is (parallelizable P f)) where
        apart : {t u : ℕ} → t < statement_count P → u < statement_count P → Is (access_of_loop P f t) → Is (access_of_loop P f u)
            → target_at t ≡ target_at u → Is (clash (class_at t) (class_at u)) → ⊥
        unfolding parallelizable
        apart lt lu a b e c =
            let own = both (implied (every_at _ _ good _ lt) a) in
            elim (clashes (within lt a) (within lu b) e c) [
              | inl w ↦ lacks own.0 w
              | inr h ↦ lacks (implied (every_at _ _ own.1 _ lu) b) h
            ]

        no_clash : (x i j : ℕ) → (let classes = get_or (entered (access_at P s) seen) x 0 in
            Is (bit classes i) → Is (bit classes j) → Is (clash i j) → ⊥)
        no_clash x i j b c clashing =
            let (t, m, p) = some_of (sym (classes_next past here x i) ∙ b) in
            let (u, n, q) = some_of (sym (classes_next past here x j) ∙ c) in
            let (first, target, class-first) = parts x i t p in
            let (second, target', class-second) = parts x j u q in
            let lt-t : t < statement_count P = omega arith in
            let lt-u : u < statement_count P = omega arith in
            apart lt-t lt-u first second (target ∙ sym target') (rw (class-first, class-second) clashing)

        each_admitted : Is (admitted (access_at P s) (entered (access_at P s) seen))
        unfolding admitted
        each_admitted = implies (λ a. compatible_of _ (λ i j. no_clash (target_at s) i j))

      pub not_parallelizable : {s : ℕ} {seen : List ℕ} → Seen s seen → loop P s ≡ f → s < statement_count P
          → admitted (access_at P s) (entered (access_at P s) seen) ≡ false → parallelizable P f ≡ false
      not_parallelizable past here lt h = refute (λ good. falsum (sym h ∙ each_admitted past here lt good))

      pub seen_end : {s end : ℕ} {seen : List ℕ} → LoopSpan P f end → end ≤ s → Seen s seen → Is (parallelizable P f)
      unfolding parallelizable access_of_loop
      seen_end {s} {seen = seen} span le past =
          every_of _ _ (λ t lt. implies (λ a. pair
          (refuted (λ w. alone lt lt a a refl (write_clashes (within lt a) (within lt a) w)))
          (every_of _ _ (λ u lu. implies (λ b. refuted (λ c.
          let (target, clashing) = conflict_clashes (within lt a) (within lu b) c in alone lt lu a b target clashing))))))
        where
          before : (t : ℕ) → t < statement_count P → Is (access_of_loop P f t) → t < s
          before t lt a = omega (arith, (span.only t lt (same (both a).1)).1)

          has : (t : ℕ) → t < statement_count P → (a : Is (access_of_loop P f t)) → {x : ℕ} → target_at t ≡ x → Is (bit (get_or seen x 0) (class_at t))
          has t lt a {x} e = past.classes x (class_at t) ∙ among (t, before t lt a, pair a (pair (same! e) (same! refl)))

          alone : {t u : ℕ} → t < statement_count P → u < statement_count P → Is (access_of_loop P f t) → Is (access_of_loop P f u)
              → target_at t ≡ target_at u → Is (clash (class_at t) (class_at u)) → ⊥
          alone {t} {u} lt lu a b e c =
              apart_of _ (past.compatible_all (target_at t)) (class_few _) (class_few _) (has t lt a refl) (has u lu b (sym e)) c
