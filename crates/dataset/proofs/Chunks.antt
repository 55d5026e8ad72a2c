-- What a run over the chunks of two bytes, and a closure that tests the number in each, say of the numbers in a row. Assumes nothing.
use Rattle.std.proofs.Common.{ℕ, suc, ◌↔◌, MatchBool, false, ◌+◌, ◌*◌, ◌/◌, ◌<◌, ◌≡◌, Bool, true, ◌&&◌, List, [], ◌∷◌, length, get_or, Option, None, Some, refl, sym, ap, ◌∙◌, add-zero, arith}
use Rattle.std.specs.Prelude.{fold}
use Rattle.std.specs.Bool.{IsTrue}
use Rattle.std.specs.Fn.{Called, Mut}
use Rattle.std.specs.Borrow.{Bor}
use Rattle.std.specs.Option.{IsSomeAnd}
use Rattle.std.specs.Iterator.Runs.{Run, EveryRun, IsChunksExactRun, CallKeepsClosure, AllItemsGive, AnyItemGives, IsFirstToGive}
use Rattle.std.specs.Slice.Iter.{chunks_exact_steps, chunks_exact_size, chunks_exact_rest}
use Rattle.std.specs.declared.slice.ChunksExact.{ChunksExact}
use Rattle.std.proofs.lemmas.Iterator.Adapters.{option_map_id}
use Rattle.model.specs.Tests.{every, ◌and◌}
use Rattle.model.specs.Bytes.{u16}

-- a fold that joins the tests of a list's items is the test of each
fold_every : {A : Type 0} (t : A → Bool) (f : ℕ → Bool) (xs : List A) (k : ℕ) (b : Bool) → ((j : ℕ) (d : A) → j < length xs → t (get_or xs j d) ≡ f (k + j)) → b ≡ every k f
    → fold (λ a x. a && t x) b xs ≡ every (k + length xs) f
unfolding every ◌and◌
fold_every t f [] k b h e = rw add-zero e
fold_every t f (x ∷ xs) k b h e =
    let here : t x ≡ f k = rw add-zero at (h 0 x (omega arith)) in
    let n : k + suc (length xs) ≡ suc k + length xs = omega arith in
    let next : (j : ℕ) → k + suc j ≡ suc k + j = λ j. omega arith in
    rw n (fold_every t f xs (suc k) (b && t x) (λ j d lt. rw (← next j) (h (suc j) d (omega arith))) (rw (e, here)))

-- a list that is long enough has an item
some_item : {A : Type 0} (xs : List A) (k : ℕ) → k < length xs → A
some_item [] k lt = absurd (omega arith)
some_item (x ∷ xs) k lt = x

-- a run over the chunks of two that were made of a list
pub cut_in_two : {s : ChunksExact ℕ} {xs : List ℕ} → EveryRun (chunks_exact_steps {A = ℕ}) (λ p. 0 < chunks_exact_size p.from → IsChunksExactRun p (chunks_exact_size p.from) (chunks_exact_rest p.from))
    → chunks_exact_size s ≡ 2 → chunks_exact_rest s ≡ xs → (p : Run (chunks_exact_steps {A = ℕ})) → p.from ≡ s → IsChunksExactRun p 2 xs
cut_in_two {s} {xs} runs two all p e =
    let size : chunks_exact_size p.from ≡ 2 = ap chunks_exact_size e ∙ two in
    let rest : chunks_exact_rest p.from ≡ xs = ap chunks_exact_rest e ∙ all in
    rw (size, rest) at (runs p p.seen (omega arith))

module _ (p : Run (chunks_exact_steps {A = ℕ})) (xs : List ℕ) (cut : IsChunksExactRun p 2 xs) where
  number_at : (k : ℕ) (x : Bor (List ℕ)) → p.at k ≡ Some x → u16 x.now 0 ≡ u16 xs (2 * k)
  number_at k x e =
      let c = rw e at (cut.2 k) in
      let first : get_or x.now 0 0 ≡ get_or xs (2 * k) 0 = let n : k * 2 + 0 ≡ 2 * k = omega arith in rw (← n) (c.2.2 0 0 (omega arith)) in
      let second : get_or x.now 1 0 ≡ get_or xs (2 * k + 1) 0 = let n : k * 2 + 1 ≡ 2 * k + 1 = omega arith in rw (← n) (c.2.2 1 0 (omega arith)) in
      rw (first, second)

  given : (k : ℕ) (d : Bor (List ℕ)) → k < p.len → p.at k ≡ Some (get_or p.items k d)
  given k d lt = sym (option_map_id (p.at k)) ∙ p.reads k d lt

  -- all of them, where the run is whole
  pub folded : (t : ℕ → Bool) → p.whole ≡ true → fold (λ a x. a && t (u16 x.now 0)) true p.items ≡ every (length xs / 2) (λ k. t (u16 xs (2 * k)))
  unfolding every
  folded t w =
      let e : length p.items ≡ length xs / 2 = sym p.long ∙ cut.1 w in
      let n : 0 + length p.items ≡ length xs / 2 = omega arith in
      rw (← n)
      (fold_every (λ x. t (u16 x.now 0)) (λ k. t (u16 xs (2 * k))) p.items 0 true
      (λ k d lt. let n : 0 + k ≡ k = omega arith in rw n (ap t (number_at k (get_or p.items k d) (given k d (omega (arith, p.long)))))) refl)

  module _ {F : Type 0} (g : Mut F (Bor (List ℕ) × Unit {0}) Bool) (f : F) (t : ℕ → Bool)
      (computes : (x : Bor (List ℕ)) (b : Bool) (q : F) → Called g f (x, tt) b q → (q ≡ f) × (b ≡ t (u16 x.now 0))) where
    keeps : CallKeepsClosure g f
    keeps a b q h = (computes a.0 b q h).0

    answered : (k : ℕ) {b : Bool} → IsSomeAnd (p.at k) (λ x. Called g f (x, tt) b f) → t (u16 xs (2 * k)) ≡ b
    answered k {b} h = go (p.at k) refl h
      where
        go : (o : Option (Bor (List ℕ))) → p.at k ≡ o → IsSomeAnd o (λ x. Called g f (x, tt) b f) → t (u16 xs (2 * k)) ≡ b
        go None e h = absurd h
        go (Some x) e h = sym ((computes x b f h).1 ∙ ap t (number_at k x e))

    -- the answer at each number, where the run is whole
    pub all_give : {b : Bool} → p.whole ≡ true → AllItemsGive p g f b → (k : ℕ) → k < length xs / 2 → t (u16 xs (2 * k)) ≡ b
    all_give {b} w all k lt =
        let inside : k < p.len = omega (arith, cut.1 w) in
        let d = some_item p.items k (omega (arith, p.long)) in
        let e = given k d inside in
        let h = rw e at (all keeps k) in
        sym ((computes _ b f h).1 ∙ ap t (number_at k _ e))

    -- the answer at the first number that has it, and at those before
    pub first_gives : {hit miss : Bool} (i : ℕ) → IsFirstToGive p g f hit miss i → (t (u16 xs (2 * i)) ≡ hit) × ((k : ℕ) → k < i → t (u16 xs (2 * k)) ≡ miss)
    first_gives {hit} {miss} i first = (answered i (first keeps).0, λ k lt. answered k ((first keeps).1 k lt))

    -- whether each number passes
    pub all_tested : (r : Bool) → MatchBool r (IsTrue p.whole × AllItemsGive p g f true) (AnyItemGives p g f false) → IsTrue r ↔ ((k : ℕ) → k < length xs / 2 → t (u16 xs (2 * k)) ≡ true)
    all_tested true run = (λ _. all_give run.0 run.1, λ _. refl)
    all_tested false run = (λ h. cc, λ all. let (k, inside, fails) = run keeps in let passes = all k (omega (arith, cut.0)) in let answer = answered k fails in cc)
