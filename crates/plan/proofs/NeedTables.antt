-- The tables of the needs, filled statement by statement, with the bounds of the variables so far in another. Assumes nothing.
use Prim.Native.Nat.{ℕ, ◌+◌, ◌*◌, ◌≤◌, ◌<◌}
use mathlib.Core.Path.{◌≡◌, refl, sym, ◌∙◌}
use mathlib.Core.Logic.{inl, inr}
use mathlib.Core.List.{List}
use native.Mathlib.Omega.{arith}
use lib.ListN.{get_or, length, set, take, replicate, length-set}
use lib.Seq.{get_or-set_same, get_or-set_other}
use Rattle.model.specs.Tests.{◌and◌}
use Rattle.model.specs.Recursion.{below}
use Rattle.model.specs.Layout.{Plan, node_count}
use Rattle.model.specs.Statements.{kind, opens, operand_definition}
use Rattle.model.specs.Parallel.{reduces_through_pointer}
use Rattle.model.specs.Needs.{symbol, symbol_node, bound_by, bound, operand_bound}
use Rattle.model.specs.declared.StatementKind.{StatementKind}
use Rattle.model.specs.declared.StatementKind.TheVariants.{For, Load, Call, Copy, Read, Write, Reduce, Unknown}
use Rattle.model.proofs.Tests.{latest}
use Rattle.model.proofs.Recursion.{course_law}
use Rattle.loops.specs.Tables.{Table}
use Rattle.loops.proofs.TableLaws.{stored, empty, earlier_holds}
use Rattle.loops.proofs.StatementLaws.{operand_most}
use Rattle.plan.specs.Needs.{bound_at, first_need, second_need, NeedsListed}
use Rattle.plan.specs.declared.needs.Need.{Need}
use Rattle.plan.specs.declared.needs.Need.TheVariants.{Nothing}
use Rattle.plan.proofs.Symbols.{symbol_first}

-- the bound of the variable that statement s defines, from that of the variable that it follows
bound_value : (P : Plan) (s followed : ℕ) → followed ≡ below (node_count P) s (bound P) (operand_definition P s) → bound_at P s (λ d. followed) ≡ bound P s
unfolding bound_at bound_by bound
bound_value P s followed e = by_kind (kind P s) ∙ sym (course_law (node_count P) (λ t earlier. bound_by P (kind P t) t earlier) s)
  where
    by_kind : (k : StatementKind) → bound_by P k s (λ d. followed) ≡ bound_by P k s (below (node_count P) s (bound P))
    by_kind For = refl
    by_kind Load = rw e
    by_kind Call = rw e
    by_kind Copy = e
    by_kind Read = refl
    by_kind Write = refl
    by_kind Reduce = refl
    by_kind Unknown = refl

-- the pass before statement s
pub record NeedsSoFar (P : Plan) (s n : ℕ) (bounds : List ℕ) (needs : List Need) : Type 0 where
  pub symbol_is : n ≡ symbol P s
  pub symbol_few : n ≤ s
  pub bounds_are : Table 0 s bounds (bound P)
  pub needs_room : length needs ≡ 128
  pub needs_are : NeedsListed P s needs

pub needs_start : (P : Plan) (needs : List Need) → length needs ≡ 128 → NeedsSoFar P 0 0 (replicate 64 0) needs
needs_start P needs room =
    record {
      symbol_is = sym (symbol_first P);
      symbol_few = omega arith;
      bounds_are = empty;
      needs_room = room;
      needs_are = record { first_are = λ s lt. absurd (omega arith); second_are = λ s lt. absurd (omega arith); small_nodes = λ s lt. absurd (omega arith) };
    }

-- the two needs of statement s are entered
module _ (P : Plan) (s : ℕ) {needs : List Need} (few : s < 64) (room : length needs ≡ 128) (l : NeedsListed P s needs) {x y : Need} where
  listed_next : x ≡ first_need (kind P s) (symbol_node P s) (operand_bound P s) (node_count P)
      → y ≡ second_need (opens P s and reduces_through_pointer P s) (symbol_node P s) → symbol_node P s < 256
      → NeedsListed P (s + 1) (set (set needs (s * 2) x) (s * 2 + 1) y)
  listed_next e f small =
      record {
        first_are = λ k lt. elim (latest k s (omega arith)) [
          | inl at ↦ rw at (get_or-set_other (set needs (s * 2) x) (s * 2 + 1) (s * 2) y Nothing (λ z. omega arith)
              ∙ get_or-set_same needs (s * 2) x Nothing (omega arith) ∙ e)
          | inr lt ↦ other (k * 2) (λ z. omega arith) (λ z. omega arith) ∙ l.first_are k lt
        ];
        second_are = λ k lt. elim (latest k s (omega arith)) [
          | inl at ↦ rw at (get_or-set_same (set needs (s * 2) x) (s * 2 + 1) y Nothing (omega (arith, length-set needs (s * 2) x)) ∙ f)
          | inr lt ↦ other (k * 2 + 1) (λ z. omega arith) (λ z. omega arith) ∙ l.second_are k lt
        ];
        small_nodes = λ k lt. elim (latest k s (omega arith)) [ inl at ↦ rw at small | inr lt ↦ l.small_nodes k lt ];
      }
    where
      other : (i : ℕ) → ¬ (i ≡ s * 2) → ¬ (i ≡ s * 2 + 1) → get_or (set (set needs (s * 2) x) (s * 2 + 1) y) i Nothing ≡ get_or needs i Nothing
      other i even odd = get_or-set_other (set needs (s * 2) x) (s * 2 + 1) i y Nothing odd ∙ get_or-set_other needs (s * 2) i x Nothing even

-- statement s is entered into the tables
module _ {P : Plan} {s n : ℕ} {bounds : List ℕ} {needs : List Need} (past : NeedsSoFar P s n bounds needs) (few : s < 64) {followed b : ℕ}
    (follows : followed ≡ get_or (take s bounds) (operand_definition P s) (node_count P)) (defines-bound : b ≡ bound_at P s (λ d. followed)) where
  bounds_next : Table 0 (s + 1) (set bounds s b) (bound P)
  bounds_next = stored few (defines-bound ∙ bound_value P s followed (follows ∙ earlier_holds (node_count P) few past.bounds_are (operand_definition P s))) past.bounds_are

  pub operand_bound_is : get_or (set bounds s b) (operand_definition P s) 0 ≡ operand_bound P s
  operand_bound_is = bounds_next.holds (operand_definition P s) (omega (arith, operand_most P s))

  pub needs_next : {after : ℕ} {x y : Need} → x ≡ first_need (kind P s) (symbol_node P s) (operand_bound P s) (node_count P)
      → y ≡ second_need (opens P s and reduces_through_pointer P s) (symbol_node P s) → symbol_node P s < 256
      → after ≡ symbol P (s + 1) → after ≤ s + 1
      → NeedsSoFar P (s + 1) after (set bounds s b) (set (set needs (s * 2) x) (s * 2 + 1) y)
  needs_next {x} {y} first second small a most =
      record {
        symbol_is = a;
        symbol_few = most;
        bounds_are = bounds_next;
        needs_room = length-set (set needs (s * 2) x) (s * 2 + 1) y ∙ length-set needs (s * 2) x ∙ past.needs_room;
        needs_are = listed_next P s few past.needs_room past.needs_are first second small;
      }
