-- A plan as the bodies of its seven sections.
use Rattle.model.specs.Bytes.{Bytes}
use Rattle.model.specs.Layout.{Plan}

-- the plan of these bodies
abbrev pub plan_with : Bytes → Bytes → Bytes → Bytes → Bytes → Bytes → Bytes → Plan
plan_with regions maps supplied statements nodes assignments steps =
    record {
      regions = regions;
      maps = maps;
      supplied = supplied;
      statements = statements;
      nodes = nodes;
      assignments = assignments;
      steps = steps;
    }
