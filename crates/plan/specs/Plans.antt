-- The plan that is told by its tables.
use Rattle.model.specs.Layout.{Plan}
use Rattle.layout.specs.Sections.{plan_in}
use Rattle.plan.specs.declared.tables.PlanTables.{PlanTables}

abbrev pub plan_at : PlanTables → Plan
plan_at t = plan_in t.sections
