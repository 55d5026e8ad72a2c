-- Loops by region and field, by computation: a loop of 001 that the former rule refused, and which byte names a field. Assumes nothing.
use Prim.Native.Nat.{ℕ, ◌≤◌}
use mathlib.Core.Path.{◌≡◌, refl}
use mathlib.Core.Logic.{inr}
use mathlib.Core.List.{[], ◌∷◌}
use native.Mathlib.Omega.{arith}
use Rattle.model.specs.Answers.{report}
use Rattle.model.specs.Bytes.{Bytes}
use Rattle.model.specs.Layout.{Plan, plan_of}
use Rattle.model.proofs.Computing.{definitions}
use Rattle.model.proofs.FiledPlans.{plan, nodes_a, assignments_a, steps_a}
use Rattle.model.proofs.FiledTable.{Input, checking, answer, gives, accepts, refuses}
use Rattle.model.proofs.LoopsAgree.{in_loop}
use Rattle.model.proofs.VariablesAgree.{FormedBefore}
use Rattle.model.proofs.LoopAccesses.{access_through, access_region, access_uncentered}
use Rattle.model.proofs.Accepted.{verdict_accepted}
use Rattle.model.proofs.TargetRule.{ParallelizableBy}
use Rattle.model.proofs.FormerRule.{SameRegion, former_verdict}

-- 001, figure 1, second loop: for c in Cells: Cells[c].vel += g(Cells[c].acc, Cells[h(c)].acc); vel is field 0, acc is field 1
-- FOR Cells; READ variable 0, acc; CALL h; READ variable 1, acc; REDUCE variable 0, vel, add; nodes, assignments and steps as in plan A
abbrev pub second_loop : Bytes
second_loop =
    plan (2 ∷ []) (0 ∷ 0 ∷ 1 ∷ []) []
    (0 ∷ 0 ∷ 0 ∷ 0 ∷ 4 ∷ 0 ∷ 1 ∷ 0 ∷ 2 ∷ 0 ∷ 0 ∷ 0 ∷ 4 ∷ 1 ∷ 1 ∷ 0 ∷ 6 ∷ 0 ∷ 0 ∷ 0 ∷ [])
    nodes_a assignments_a steps_a

-- it is accepted; the former rule refused it
pub second_loop_lem : (gives (checking second_loop) ≡ accepts 4 2 3) × (answer (report (former_verdict second_loop)) ≡ refuses 8 0)
unfolding definitions
second_loop_lem = (refl, refl)

abbrev P : Plan
P = plan_of second_loop

-- the statements before statement n are formed
formed : (n : ℕ) → n ≤ 5 → FormedBefore P n
unfolding definitions
formed n le s lt = (verdict_accepted second_loop _ refl).0.records.statement_formed_lem s (omega arith)

-- the READ through h and the REDUCE are of one region
pub second_loop_by_region : ParallelizableBy P (SameRegion P) 0 → ⊥
unfolding definitions
second_loop_by_region L =
    let read = access_through P {s = 3} (formed 4 (omega arith)) refl in
    let reduce = access_through P {s = 4} (formed 5 (omega arith)) refl in
    L.reads_undisturbed 3 4 2 (omega arith) (omega arith) ((in_loop P).0 (refl, omega arith, refl)) ((in_loop P).0 (refl, omega arith, refl))
    (0, (2, read, (access_region P (formed 3 (omega arith)) read).0 refl), (0, reduce, (access_region P (formed 4 (omega arith)) reduce).0 refl))
    read (inr refl) ((access_uncentered P (formed 3 (omega arith)) read).0 refl) (inr refl)

-- a loop over region 0 and nothing after it, of two regions of two fields, with map 0 from region 0 to itself and map 1 to region 1:
-- where it is parallelizable, it is refused for its assignments, since it has three symbols
abbrev pub loop : Bytes → Input
loop statements = checking (plan (2 ∷ 2 ∷ []) (0 ∷ 0 ∷ 1 ∷ 0 ∷ 1 ∷ 1 ∷ []) [] (0 ∷ 0 ∷ 0 ∷ 0 ∷ statements) [] [] [])

-- CALL map 0; LOAD map 0, variable 1, field 0; WRITE variable 0, of field 0 and of field 1
pub load_of_its_field :
    (gives (loop (2 ∷ 0 ∷ 0 ∷ 0 ∷ 1 ∷ 0 ∷ 1 ∷ 0 ∷ 5 ∷ 0 ∷ 0 ∷ 0 ∷ [])) ≡ refuses 8 0)
    × (gives (loop (2 ∷ 0 ∷ 0 ∷ 0 ∷ 1 ∷ 0 ∷ 1 ∷ 0 ∷ 5 ∷ 0 ∷ 1 ∷ 0 ∷ [])) ≡ refuses 9 3)
unfolding definitions
load_of_its_field = (refl, refl)

-- CALL map 0; REDUCE variable 1, field 0, add; REDUCE variable 1, multiply, of field 0 and of field 1
pub reductions_of_one_field :
    (gives (loop (2 ∷ 0 ∷ 0 ∷ 0 ∷ 6 ∷ 1 ∷ 0 ∷ 0 ∷ 6 ∷ 1 ∷ 0 ∷ 1 ∷ [])) ≡ refuses 8 0)
    × (gives (loop (2 ∷ 0 ∷ 0 ∷ 0 ∷ 6 ∷ 1 ∷ 0 ∷ 0 ∷ 6 ∷ 1 ∷ 1 ∷ 1 ∷ [])) ≡ refuses 9 3)
unfolding definitions
reductions_of_one_field = (refl, refl)

-- CALL map 0, or map 1; READ variable 1, field 0; WRITE variable 0, field 0
pub field_of_one_region :
    (gives (loop (2 ∷ 0 ∷ 0 ∷ 0 ∷ 4 ∷ 1 ∷ 0 ∷ 0 ∷ 5 ∷ 0 ∷ 0 ∷ 0 ∷ [])) ≡ refuses 8 0)
    × (gives (loop (2 ∷ 1 ∷ 0 ∷ 0 ∷ 4 ∷ 1 ∷ 0 ∷ 0 ∷ 5 ∷ 0 ∷ 0 ∷ 0 ∷ [])) ≡ refuses 9 3)
unfolding definitions
field_of_one_region = (refl, refl)
