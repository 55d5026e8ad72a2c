-- Demand 3's claim can fail: for each clause the words of the evaluated example with one of them changed, of which the claim is false,
-- in both loops, in each piece and for each access. Assumes nothing.
use Prim.Native.Nat.{ℕ, zero, suc, ◌<◌}
use mathlib.Core.Path.{◌≡◌, refl, sym, ◌∙◌}
use mathlib.Core.Logic.{inl, inr}
use mathlib.Core.List.{List}
use mathlib.Core.Bool.{false}
use native.Mathlib.Omega.{arith}
use lib.ListN.{set}
use Rattle.model.specs.Tests.{Is, ◌and◌, ◌or◌, non, ◌=?◌, ◌<?◌, any, pick}
use Rattle.model.specs.Bytes.{boundary, body}
use Rattle.model.specs.Recursion.{below, levels, course}
use Rattle.model.specs.Layout.{Plan, plan_of, source}
use Rattle.model.specs.Statements.{kind_of, opens_loop, defines_variable, access_of, is_access, kind, opens, defines, accesses, loop_before, variables, definition, operand_by, operand, operand_definition, region_by, variable_region, centered_by, centered}
use Rattle.model.specs.Parallel.{is_reduce, reduces, uncentered, access_of_loop, reduces_through_pointer}
use Rattle.model.specs.Needs.{has_symbol, symbol, symbol_region}
use Rattle.model.specs.LoopRelations.{InLoop, Resolves, AccessThrough, ReducesThroughPointer}
use Rattle.model.specs.DataSets.{DataSet, size, entry_start, entry}
use Rattle.model.specs.PlainData.{PointsTo}
use Rattle.model.specs.Words.{bit, holds}
use Rattle.model.specs.Touches.{itself, loaded, called, copied, Touches}
use Rattle.model.specs.Legal.{InSubregion, Legal}
use Rattle.model.proofs.Tests.{falsum}
use Rattle.model.proofs.LoopsAgree.{in_loop}
use Rattle.model.proofs.VariablesAgree.{FormedBefore}
use Rattle.model.proofs.StatementsAgree.{formed_resolves_a, formed_resolves_b}
use Rattle.model.proofs.LoopAccesses.{access_through}
use Rattle.model.proofs.ParallelAgree.{reduces_through_pointer_lem}
use Rattle.model.proofs.SubregionsAgree.{subregion, subregion_computed, subregion_is}
use Rattle.model.proofs.EvaluatedExample.{example_plan, example_data, example_words, example_facts}

abbrev P : Plan
P = plan_of example_plan

-- all statements up to statement s are formed
formed : (s : ℕ) → s < 8 → FormedBefore P (suc s)
unfolding boundary body
formed s lt t l = example_facts.statement_formed_lem t (omega arith)

-- what the relations are in the example
record Known : Type 0 where
  load_inside : InLoop P 0 1
  read_inside : InLoop P 0 2
  write_inside : InLoop P 0 4
  reduce_inside : InLoop P 5 7
  load_resolves : Resolves P 1 0 0
  copy_resolves : Resolves P 3 0 0
  call_resolves : Resolves P 6 0 5
  load_through : AccessThrough P 1 0
  read_through : AccessThrough P 2 1
  write_through : AccessThrough P 4 3
  reduce_through : AccessThrough P 7 6
  reduces : ReducesThroughPointer P 5

known : Known
unfolding
    boundary body ◌and◌ ◌or◌ non ◌=?◌ any pick below levels course
    kind_of opens_loop defines_variable access_of is_access kind opens defines accesses loop_before variables definition operand_by operand
    operand_definition centered_by centered is_reduce reduces uncentered access_of_loop reduces_through_pointer
known =
    record {
      load_inside = (in_loop P).0 (refl, omega arith, refl);
      read_inside = (in_loop P).0 (refl, omega arith, refl);
      write_inside = (in_loop P).0 (refl, omega arith, refl);
      reduce_inside = (in_loop P).0 (refl, omega arith, refl);
      load_resolves = formed_resolves_b P (formed 1 (omega arith)) (inl refl);
      copy_resolves = formed_resolves_a P (formed 3 (omega arith)) (omega arith) (omega arith);
      call_resolves = formed_resolves_b P (formed 6 (omega arith)) (inr refl);
      load_through = access_through P (formed 1 (omega arith)) refl;
      read_through = access_through P (formed 2 (omega arith)) refl;
      write_through = access_through P (formed 4 (omega arith)) refl;
      reduce_through = access_through P (formed 7 (omega arith)) refl;
      reduces = (reduces_through_pointer_lem P (formed 7 (omega arith)) 5).0 refl;
    }

-- an entry, as a computation gives it
points : {D : DataSet} {m k e : ℕ} → k < size D (source P m) → entry P D m k ≡ e → (e ≡ 65535 → ⊥) → PointsTo P D m k e
points a b c = record { from = a; entry_is = b; some = c }

-- what the accesses touch: the LOAD and the WRITE through the COPY the iteration's own element, the READ and the REDUCE what it points to
module _ {D : DataSet} {k : ℕ} where
  load_touches : Touches P D 1 k k
  unfolding boundary body
  load_touches = (0, known.load_through, itself {s = 0} (omega arith))

  read_touches : {e : ℕ} → PointsTo P D 0 k e → Touches P D 2 k e
  unfolding boundary body
  read_touches w = (1, known.read_through, loaded {s = 1} (omega arith) known.load_resolves (itself {s = 0} (omega arith)) w)

  write_touches : Touches P D 4 k k
  unfolding boundary body
  write_touches = (3, known.write_through, copied {s = 3} (omega arith) known.copy_resolves (itself {s = 0} (omega arith)))

  reduce_touches : {e : ℕ} → PointsTo P D 1 k e → Touches P D 7 k e
  unfolding boundary body
  reduce_touches w = (6, known.reduce_through, called {s = 6} (omega arith) known.call_resolves (itself {s = 5} (omega arith)) w)

module _ {D : DataSet} {words : List ℕ} where
  -- an iteration of the first loop, and of the second, that a piece holds
  first_held : {i k : ℕ} → Is (subregion P D words 0 i k) → InSubregion P D words 0 i k
  unfolding boundary body
  first_held = (subregion_is P D words (formed 0 (omega arith)) (inl refl)).0

  second_held : {i k : ℕ} → Is (subregion P D words 5 i k) → InSubregion P D words 5 i k
  unfolding boundary body
  second_held = (subregion_is P D words (formed 5 (omega arith)) (inl refl)).0

  -- an element that is not in a subregion; an iteration that none of three pieces holds
  absent : {s i e : ℕ} → subregion P D words s i e ≡ false → InSubregion P D words s i e → ⊥
  absent h w = falsum (sym h ∙ subregion_computed P D words w)

  nowhere :
      {f k : ℕ} → subregion P D words f 0 k ≡ false → subregion P D words f 1 k ≡ false → subregion P D words f 2 k ≡ false →
      (i : ℕ) → i < 3 → InSubregion P D words f i k → ⊥
  nowhere a b c zero lt w = absent a w
  nowhere a b c (suc zero) lt w = absent b w
  nowhere a b c (suc (suc zero)) lt w = absent c w
  nowhere a b c (suc (suc (suc i))) lt w = absurd (omega arith)

-- the claim is false of the example's words with word `at` replaced by w
abbrev pub Refuted : ℕ → ℕ → Type 0
Refuted at w = Legal example_plan (example_data 7) (set example_words at w) → ⊥

-- for each clause of the claim, words of which it is false
pub record Refutable : Type 0 where
  -- coverage: iteration 0 of the first loop is taken from piece 0, iteration 2 from piece 1, the last from piece 2
  pub uncovered : Refuted 0 2 × Refuted 8 2 × Refuted 16 0
  -- coverage of the second loop: iteration 0 is taken from piece 0, iteration 3 from piece 1, the last from piece 2
  pub second_uncovered : Refuted 144 2 × Refuted 152 4 × Refuted 160 0
  -- exactly once: iteration 0 of the second loop, which reduces through a pointer, is put into piece 1 too, iteration 2 into piece 2 too
  pub twice : Refuted 152 13 × Refuted 160 20
  -- a LOAD's own access: its element is taken from its subregion, in piece 0 for iteration 1, in piece 1 for iteration 2, in piece 2 for 3
  pub load_outside : Refuted 48 1 × Refuted 56 2 × Refuted 64 0
  -- the READ through the loaded pointer touches 5 for iteration 0, 260 for iteration 1, 263 for iteration 3
  pub read_outside : Refuted 96 0 × Refuted 108 0 × Refuted 116 0
  -- the WRITE through the COPY touches what the LOAD does
  pub write_outside : Refuted 72 1 × Refuted 80 2 × Refuted 88 0
  -- the REDUCE of the second loop touches 2 for iteration 0, 3 for iteration 3, 1 for iteration 4
  pub reduce_outside : Refuted 168 0 × Refuted 176 1 × Refuted 184 0
  -- an element at or above the size is in no subregion, though its bit is 1: the READ of iteration 3 touches element 264 of 264
  pub above_size : Legal example_plan (example_data 8) (set example_words 116 256) → ⊥

pub refutable : Refutable
unfolding
    boundary body ◌and◌ ◌or◌ ◌=?◌ ◌<?◌ pick below levels course subregion holds bit symbol has_symbol symbol_region
    kind_of opens_loop defines_variable access_of is_access kind opens defines accesses variables definition operand_by operand
    operand_definition region_by variable_region size entry_start entry
refutable =
    record {
      uncovered = (
        λ legal. let (i, lt, w) = (legal 0 (omega arith) refl).covered 0 (omega arith) in nowhere refl refl refl i (omega arith) w,
        λ legal. let (i, lt, w) = (legal 0 (omega arith) refl).covered 2 (omega arith) in nowhere refl refl refl i (omega arith) w,
        λ legal. let (i, lt, w) = (legal 0 (omega arith) refl).covered 3 (omega arith) in nowhere refl refl refl i (omega arith) w,
      );
      second_uncovered = (
        λ legal. let (i, lt, w) = (legal 5 (omega arith) refl).covered 0 (omega arith) in nowhere refl refl refl i (omega arith) w,
        λ legal. let (i, lt, w) = (legal 5 (omega arith) refl).covered 3 (omega arith) in nowhere refl refl refl i (omega arith) w,
        λ legal. let (i, lt, w) = (legal 5 (omega arith) refl).covered 4 (omega arith) in nowhere refl refl refl i (omega arith) w,
      );
      twice = (
        λ legal. let same : ◌≡◌ {A = ℕ} 0 1 =
            (legal 5 (omega arith) refl).once 0 0 1 known.reduces (omega arith) (omega arith) (second_held refl) (second_held refl) in omega arith,
        λ legal. let same : ◌≡◌ {A = ℕ} 1 2 =
            (legal 5 (omega arith) refl).once 2 1 2 known.reduces (omega arith) (omega arith) (second_held refl) (second_held refl) in omega arith,
      );
      load_outside = (
        λ legal. absent refl
            ((legal 0 (omega arith) refl).contained 1 0 1 1 (omega arith) known.load_inside (omega arith) (first_held refl) load_touches),
        λ legal. absent refl
            ((legal 0 (omega arith) refl).contained 1 1 2 2 (omega arith) known.load_inside (omega arith) (first_held refl) load_touches),
        λ legal. absent refl
            ((legal 0 (omega arith) refl).contained 1 2 3 3 (omega arith) known.load_inside (omega arith) (first_held refl) load_touches),
      );
      read_outside = (
        λ legal. absent refl
            ((legal 0 (omega arith) refl).contained 2 0 0 5 (omega arith) known.read_inside (omega arith) (first_held refl) (read_touches (points (omega arith) refl (omega arith)))),
        λ legal. absent refl
            ((legal 0 (omega arith) refl).contained 2 1 1 260 (omega arith) known.read_inside (omega arith) (first_held refl) (read_touches (points (omega arith) refl (omega arith)))),
        λ legal. absent refl
            ((legal 0 (omega arith) refl).contained 2 2 3 263 (omega arith) known.read_inside (omega arith) (first_held refl) (read_touches (points (omega arith) refl (omega arith)))),
      );
      write_outside = (
        λ legal. absent refl
            ((legal 0 (omega arith) refl).contained 4 0 1 1 (omega arith) known.write_inside (omega arith) (first_held refl) write_touches),
        λ legal. absent refl
            ((legal 0 (omega arith) refl).contained 4 1 2 2 (omega arith) known.write_inside (omega arith) (first_held refl) write_touches),
        λ legal. absent refl
            ((legal 0 (omega arith) refl).contained 4 2 3 3 (omega arith) known.write_inside (omega arith) (first_held refl) write_touches),
      );
      reduce_outside = (
        λ legal. absent refl
            ((legal 5 (omega arith) refl).contained 7 0 0 2 (omega arith) known.reduce_inside (omega arith) (second_held refl) (reduce_touches (points (omega arith) refl (omega arith)))),
        λ legal. absent refl
            ((legal 5 (omega arith) refl).contained 7 1 3 3 (omega arith) known.reduce_inside (omega arith) (second_held refl) (reduce_touches (points (omega arith) refl (omega arith)))),
        λ legal. absent refl
            ((legal 5 (omega arith) refl).contained 7 2 4 1 (omega arith) known.reduce_inside (omega arith) (second_held refl) (reduce_touches (points (omega arith) refl (omega arith)))),
      );
      above_size = λ legal. absent refl
          ((legal 0 (omega arith) refl).contained 2 2 3 264 (omega arith) known.read_inside (omega arith) (first_held refl) (read_touches (points (omega arith) refl (omega arith))));
    }
