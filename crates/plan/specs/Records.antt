-- The checks of a plan's records.
use Rattle.std.specs.Prelude.{ℕ, ◌<◌, ◌≡◌, List, get_or, Result, Ok, Err}
use Rattle.model.specs.Layout.{Plan, node_count}
use Rattle.model.specs.Nodes.{node_region}
use Rattle.model.specs.Verdict.{records_check}
use Rattle.model.specs.declared.Refusal.{Refusal}

-- all records pass, and these are the regions of the nodes; or they are refused
abbrev pub RecordsChecked : Plan → Result (List ℕ) Refusal → Type 0
RecordsChecked P (Ok node_regions) = (records_check P ≡ Ok tt) × ((j : ℕ) → j < node_count P → get_or node_regions j 0 ≡ node_region P j)
RecordsChecked P (Err refusal) = records_check P ≡ Err refusal
