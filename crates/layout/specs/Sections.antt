-- What reading the sections of a plan gives.
use Rattle.std.specs.Prelude.{◌≡◌, Result, Ok, Err, MatchResult}
use Rattle.model.specs.Bytes.{Bytes}
use Rattle.model.specs.Layout.{Plan, plan_of, layout_check}
use Rattle.model.specs.declared.Refusal.{Refusal}
use Rattle.layout.specs.declared.sections.PlanSections.{PlanSections}
use Rattle.layout.specs.Bodies.{plan_with}

-- the plan that the sections make
abbrev pub plan_in : PlanSections → Plan
plan_in s = plan_with s.regions.now s.maps.now s.supplied.now s.statements.now s.nodes.now s.assignments.now s.steps.now

-- the sections of the plan in the bytes p, whose layout passes; or the layout's refusal
abbrev pub SectionsRead : Bytes → Result PlanSections Refusal → Type 0
SectionsRead p result =
    MatchResult result (λ sections. (layout_check p ≡ Ok tt) × (plan_in sections ≡ plan_of p)) (λ r. layout_check p ≡ Err r)
