-- Loops and their variables: the functions of statement numbers and the relations say the same, of any bytes, once a FOR stands
-- before. Assumes nothing.
use Prim.Native.Nat.{ℕ, zero, suc, ◌≤◌, ◌<◌}
use mathlib.Core.Path.{◌≡◌, refl, sym, ◌∙◌}
use mathlib.Core.Logic.{◌⊎◌, inl, inr, ◌↔◌}
use mathlib.Core.Bool.{Bool, true, false}
use native.Mathlib.Omega.{arith}
use Rattle.model.specs.Tests.{Is, ◌and◌, ◌or◌, non, ◌=?◌, pick}
use Rattle.model.specs.Layout.{Plan, statement_kind}
use Rattle.model.specs.Statements.{opens, defines, loop_before, loop, variables, definition}
use Rattle.model.specs.LoopRelations.{InLoop, Defining, Variable, loop_variable, next_variable, Resolves, WithinVariableLimit}
use Rattle.model.proofs.Tests.{both, pair, either, one, refuted, split, fails, failing, lacks, same, same!, latest, pick_true, pick-false}
use Rattle.model.proofs.StatementKinds.{opens_is, defines_is}

module _ (P : Plan) where
  -- what statement s does to the loop, to the number of its variables, and to their definitions
  pub data Turn (s : ℕ) : Type 0 where
    opening :
        statement_kind P s ≡ 0 → loop_before P (suc s) ≡ s → variables P (suc s) ≡ 1 → definition P (suc s) 0 ≡ s → Turn s
    defining :
        Defining P s → loop_before P (suc s) ≡ loop_before P s → variables P (suc s) ≡ suc (variables P s) →
        definition P (suc s) (variables P s) ≡ s →
        ((v : ℕ) → (v ≡ variables P s → ⊥) → definition P (suc s) v ≡ definition P s v) → Turn s
    passing :
        (statement_kind P s ≡ 0 → ⊥) → (Defining P s → ⊥) → loop_before P (suc s) ≡ loop_before P s →
        variables P (suc s) ≡ variables P s → ((v : ℕ) → definition P (suc s) v ≡ definition P s v) → Turn s

  -- a definition that statement s leaves as it is
  left : (s v : ℕ) → (Is (opens P s) → ⊥) → (Is (defines P s) → v ≡ variables P s → ⊥) → definition P (suc s) v ≡ definition P s v
  unfolding definition
  left s v n m = pick-false _ _ _ (fails (refuted untouched))
    where
      untouched : Is (opens P s and v =? 0 or defines P s and v =? variables P s) → ⊥
      untouched h = elim (either h) [ inl a ↦ n (both a).0 | inr b ↦ m (both b).0 (same (both b).1) ]

  pub turn : (s : ℕ) → Turn s
  unfolding loop_before variables definition pick
  turn s = go (opens P s) (defines P s) refl refl
    where
      go : (a b : Bool) → opens P s ≡ a → defines P s ≡ b → Turn s
      go true b e f =
          opening ((opens_is P s).0 e) (pick_true _ _ _ e) (pick_true _ _ _ e) (pick_true _ _ _ (one (inl (pair e (same! refl)))))
      go false true e f =
          defining ((defines_is P s).0 f) (pick-false _ _ _ e) (pick-false _ _ _ e ∙ pick_true _ _ _ f)
          (pick_true _ _ _ (one (inr (pair f (same! refl)))))
          (λ v n. left s v (lacks (failing e)) (λ h. n))
      go false false e f =
          passing (λ h. lacks (failing e) ((opens_is P s).1 h)) (λ h. lacks (failing f) ((defines_is P s).1 h))
          (pick-false _ _ _ e) (pick-false _ _ _ e ∙ pick-false _ _ _ f)
          (λ v. left s v (lacks (failing e)) (λ h. absurd (lacks (failing f) h)))

  -- a FOR; a statement that opens no loop; a statement that defines a variable
  opened : (s : ℕ) → statement_kind P s ≡ 0 → (loop P s ≡ s) × (variables P (suc s) ≡ 1) × (definition P (suc s) 0 ≡ s)
  opened s z = go (turn s)
    where
      go : Turn s → (loop P s ≡ s) × (variables P (suc s) ≡ 1) × (definition P (suc s) 0 ≡ s)
      go (opening e l n d) = (l, n, d)
      go (defining D l n d k) = absurd (omega arith)
      go (passing e m l n k) = absurd (e z)

  unopened : (s : ℕ) → (statement_kind P s ≡ 0 → ⊥) → loop P s ≡ loop_before P s
  unopened s z = go (turn s)
    where
      go : Turn s → loop P s ≡ loop_before P s
      go (opening e l n d) = absurd (z e)
      go (defining D l n d k) = l
      go (passing e m l n k) = l

  defined : (s : ℕ) → Defining P s → (variables P (suc s) ≡ suc (variables P s)) × (definition P (suc s) (variables P s) ≡ s)
  defined s D = go (turn s)
    where
      go : Turn s → (variables P (suc s) ≡ suc (variables P s)) × (definition P (suc s) (variables P s) ≡ s)
      go (opening e l n d) = absurd (omega arith)
      go (defining B l n d k) = (n, d)
      go (passing e m l n k) = absurd (m D)

  -- a FOR before b + 1 is before b, where b is none
  earlier : {t b : ℕ} → t < suc b → statement_kind P t ≡ 0 → (statement_kind P b ≡ 0 → ⊥) → t < b
  earlier {t} {b} lt h n = elim (latest t b lt) [ inl e ↦ absurd (n (rw e at h)) | inr l ↦ l ]

  -- f is the last FOR before b: none stands after f, as t tells for each
  abbrev Last : ℕ → ℕ → ℕ → Type 0
  Last b t f = (t ≤ f) × (f < b) × (statement_kind P f ≡ 0)

  last_for : (b t : ℕ) → t < b → statement_kind P t ≡ 0 → Last b t (loop_before P b)
  last_for zero t lt h = absurd (omega arith)
  last_for (suc b) t lt h = go (split (opens P b)) (last_for b t)
    where
      go :
          Is (opens P b) ⊎ Is (non (opens P b)) → (t < b → statement_kind P t ≡ 0 → Last b t (loop_before P b)) →
          Last (suc b) t (loop P b)
      go (inl o) r = let e = (opens_is P b).0 o in rw (opened b e).0 (omega arith, omega arith, e)
      go (inr n) r =
          let z : statement_kind P b ≡ 0 → ⊥ = λ e. lacks n ((opens_is P b).1 e) in
          let w = r (earlier lt h z) h in
          rw (unopened b z) (w.0, omega arith, w.2)

  -- the loop in which statement s stands
  pub in_loop : {f s : ℕ} → (statement_kind P f ≡ 0) × (f ≤ s) × (loop P s ≡ f) ↔ InLoop P f s
  in_loop {f} {s} = (λ w. nearest_is w.0 w.1 w.2, λ i. (i.opened, i.after, found i))
    where
      found : InLoop P f s → loop P s ≡ f
      found i =
          let w = last_for (suc s) f (omega (arith, i.after)) i.opened in
          let n : ¬ (f < loop P s) = λ l. i.nearest (loop P s) l (omega (arith, w.1)) w.2 in
          omega arith

      nearest_is : statement_kind P f ≡ 0 → f ≤ s → loop P s ≡ f → InLoop P f s
      nearest_is e l q =
          record { opened = e; after = l; nearest = λ t a b h. let w = last_for (suc s) t (omega arith) h in omega arith }

  pub loop_of_lem : (s t : ℕ) → t ≤ s → statement_kind P t ≡ 0 → InLoop P (loop P s) s
  loop_of_lem s t l h = let w = last_for (suc s) t (omega arith) h in in_loop.0 (w.2, omega arith, refl)

  pub one_loop : {f g s : ℕ} → InLoop P f s → InLoop P g s → f ≡ g
  one_loop i j = sym (in_loop.1 i).2 ∙ (in_loop.1 j).2

  -- what has become, before b, of the variables that there were before a
  record Since (a b : ℕ) : Type 0 where
    grown : variables P a ≤ variables P b
    kept : (v : ℕ) → v < variables P a → definition P b v ≡ definition P a v
    as_many : ((t : ℕ) → a ≤ t → t < b → Defining P t → ⊥) → variables P b ≡ variables P a

  since_now : {a b : ℕ} → a ≡ b → Since a b
  since_now e = rw e (record { grown = omega arith; kept = λ v l. refl; as_many = λ n. refl })

  since_next : {a b : ℕ} → a ≤ b → (statement_kind P b ≡ 0 → ⊥) → Turn b → Since a b → Since a (suc b)
  since_next l n (opening e i m d) S = absurd (n e)
  since_next {a} {b} l n (defining D i m d k) S =
      record {
        grown = omega arith;
        kept = λ v lt. k v (omega arith) ∙ S.kept v lt;
        as_many = λ none. absurd (none b l (omega arith) D);
      }
  since_next {a} {b} l n (passing e c i m k) S =
      record {
        grown = omega arith;
        kept = λ v lt. k v ∙ S.kept v lt;
        as_many = λ none. m ∙ S.as_many (λ t x y. none t x (omega arith));
      }

  since : (a b : ℕ) → a ≤ b → ((t : ℕ) → a ≤ t → t < b → statement_kind P t ≡ 0 → ⊥) → Since a b
  since a zero l none = since_now (omega arith)
  since a (suc b) l none = go (latest a (suc b) (omega arith)) (λ le. since a b le (λ t x y. none t x (omega arith)))
    where
      go : (a ≡ suc b) ⊎ (a < suc b) → (a ≤ b → Since a b) → Since a (suc b)
      go (inl e) r = since_now e
      go (inr lt) r = let le : a ≤ b = omega arith in since_next le (none b le (omega arith)) (turn b) (r le)

  -- between two statements of one loop
  inside : {f s a b : ℕ} → InLoop P f s → f < a → a ≤ b → b ≤ suc s → Since a b
  inside {a = a} {b = b} i x y z = since a b y (λ t l m. i.nearest t (omega arith) (omega arith))

  -- a variable's number and definition, right behind the statement that defines it
  record Numbered (f d v : ℕ) : Type 0 where
    within : InLoop P f d
    number : variables P (suc d) ≡ suc v
    found : definition P (suc d) v ≡ d

  numbered : {f d v : ℕ} → Variable P f d v → Numbered f d v
  numbered {f} (loop_variable e) =
      let o = opened f e in
      record { within = in_loop.0 (e, omega arith, o.0); number = o.1; found = o.2 }
  numbered (next_variable {d = d} {v = v} w lt i D none) =
      let c = numbered w in
      let o = defined d D in
      let m : variables P d ≡ suc v = (inside i (omega (arith, c.within.after)) lt (omega arith)).as_many none ∙ c.number in
      record { within = i; number = omega arith; found = rw m at o.1 }

  -- a loop has its variable 0 behind its FOR
  some_variable : {f s : ℕ} → InLoop P f s → f < s → 1 ≤ variables P s
  some_variable i l =
      let n = (numbered (loop_variable i.opened)).number in
      let g = (inside i (omega arith) l (omega arith)).grown in
      omega arith

  -- the variable that a statement defines follows the newest one before it
  newest : {f s c v : ℕ} → InLoop P f s → Defining P s → variables P s ≡ suc v → c < s → Variable P f c v → Variable P f s (suc v)
  newest i D e lt w =
      let n = numbered w in
      next_variable w lt i D (λ t a b T.
      let x = (inside i (omega (arith, n.within.after)) a (omega arith)).grown in
      let y = (inside i (omega (arith, n.within.after)) b (omega arith)).grown in
      omega (arith, n.number, (defined t T).0))

  -- the variables that there are before statement s are the loop's
  abbrev Made : ℕ → ℕ → ℕ → ℕ → Type 0
  Made s f d v = (d < s) × Variable P f d v

  made : (s t v : ℕ) → t < s → statement_kind P t ≡ 0 → v < variables P s → Made s (loop_before P s) (definition P s v) v
  made zero t v lt h l = absurd (omega arith)
  made (suc s) t v lt h l = go (turn s) (λ w a. made s t w a h)
    where
      Before : Type 0
      Before = (w : ℕ) → t < s → w < variables P s → Made s (loop_before P s) (definition P s w) w

      own : Before → InLoop P (loop_before P s) s → Defining P s → (m : ℕ) → variables P s ≡ m → Variable P (loop_before P s) s m
      own r i D zero e = absurd (omega (arith, some_variable i (earlier (omega (arith, i.after)) i.opened (omega arith))))
      own r i D (suc w) e = let c = r w (earlier lt h (omega arith)) (omega arith) in newest i D e c.0 c.1

      go : Turn s → Before → Made (suc s) (loop P s) (definition P (suc s) v) v
      go (opening e f n d) r = let z : v ≡ 0 = omega arith in rw (z, f, d) (omega arith, loop_variable e)
      go (defining D f n d k) r =
          elim (latest v (variables P s) (omega arith)) [
            | inl e ↦ rw (e, f, d) (omega arith, own r (rw f at (loop_of_lem s t (omega arith) h)) D (variables P s) refl)
            | inr less ↦ let w = r v (earlier lt h (omega arith)) less in rw (f, k v (omega arith)) (omega arith, w.1)
          ]
      go (passing e m f n k) r = let w = r v (earlier lt h e) (omega arith) in rw (f, k v) (omega arith, w.1)

  -- the definition of variables, relation and functions: number v of the loop of FOR f is defined by statement d
  pub variable_is : {f d v : ℕ} → InLoop P f d × (v < variables P (suc d)) × (definition P (suc d) v ≡ d) ↔ Variable P f d v
  variable_is {f} {d} {v} = (λ w. back w.0 w.1 w.2, report)
    where
      report : Variable P f d v → InLoop P f d × (v < variables P (suc d)) × (definition P (suc d) v ≡ d)
      report w = let n = numbered w in (n.within, omega (arith, n.number), n.found)

      back : InLoop P f d → v < variables P (suc d) → definition P (suc d) v ≡ d → Variable P f d v
      back i l e = rw ((in_loop.1 i).2, e) at (made (suc d) f v (omega (arith, i.after)) i.opened l).1

  pub variable_kind : {f d v : ℕ} → Variable P f d v → statement_kind P d ≤ 3
  variable_kind (loop_variable e) = omega arith
  variable_kind (next_variable w l i D none) = D.1

  -- some FOR stands before statement s
  abbrev pub Started : ℕ → Type 0
  Started s = (t : ℕ) × (t < s) × (statement_kind P t ≡ 0)

  -- what a statement sees is among the variables before it
  pub resolves : {s v d : ℕ} → Resolves P s v d → (v < variables P s) × (definition P s v ≡ d)
  resolves {s} {v} {d} w =
      let n = numbered w.variable in
      let g = inside w.within (omega (arith, n.within.after)) w.earlier (omega arith) in
      (omega (arith, g.grown, n.number), g.kept v (omega (arith, n.number)) ∙ n.found)

  pub one_definition : {s v d e : ℕ} → Resolves P s v d → Resolves P s v e → d ≡ e
  one_definition u w = sym (resolves u).1 ∙ (resolves w).1

  pub resolves_started : {s v d : ℕ} → Resolves P s v d → Started s
  resolves_started w = (w.loop, omega (arith, w.earlier, (numbered w.variable).within.after), w.within.opened)

  pub resolves_loop : {s v d : ℕ} → Resolves P s v d → loop P d ≡ loop P s
  resolves_loop w = (in_loop.1 (numbered w.variable).within).2 ∙ sym (in_loop.1 w.within).2

  -- and a variable before it is seen by a statement that opens no loop
  pub resolved : {s v : ℕ} → Started s → (statement_kind P s ≡ 0 → ⊥) → v < variables P s → Resolves P s v (definition P s v)
  resolved {s} {v} (t, lt, h) n l =
      let m = made s t v lt h l in
      record {
        loop = loop_before P s;
        within = rw (unopened s n) at (loop_of_lem s t (omega arith) h);
        variable = m.1;
        earlier = m.0;
      }

  pub resolves_is :
      {s v d : ℕ} → Started s → (statement_kind P s ≡ 0 → ⊥) → (v < variables P s) × (definition P s v ≡ d) ↔ Resolves P s v d
  resolves_is st n = (λ w. rw w.1 at (resolved st n w.0), resolves)

  pub variable_limit_is : {s : ℕ} → Started s → Defining P s → (variables P s < 16) ↔ WithinVariableLimit P s
  variable_limit_is {s} (t, lt, h) D = (λ l. room l, λ r. omega (arith, (numbered r.variable).number, (defined s D).0, r.few))
    where
      room : variables P s < 16 → WithinVariableLimit P s
      room l =
          let o = defined s D in
          record {
            loop = loop P s;
            number = variables P s;
            variable = rw o.1 at (made (suc s) t (variables P s) (omega arith) h (omega arith)).1;
            few = omega arith;
          }
