-- "The plan's bytes": the edition, the seven sections, and the checks of lengths and counts.
use Rattle.std.specs.Prelude.{ℕ, suc, ◌+◌, ◌*◌, ◌/◌, ◌%◌, List, [], ◌∷◌, get_or, length}
use Rattle.model.specs.Tests.{◌and◌, ◌=?◌, ◌≤?◌}
use Rattle.model.specs.Bytes.{Bytes, byte, u16, boundary, body}
use Rattle.model.specs.Outcomes.{require, ◌then◌, scan, Outcome}
use Rattle.model.specs.declared.Refusal.TheVariants.{Truncated, UnknownEdition, TrailingBytes, InvalidLength}

-- the bodies of the seven sections
pub record Plan : Type 0 where
  pub regions : Bytes
  pub maps : Bytes
  pub supplied : Bytes
  pub statements : Bytes
  pub nodes : Bytes
  pub assignments : Bytes
  pub steps : Bytes

-- the plan in the bytes p
abbrev pub plan_of : Bytes → Plan
plan_of p =
    record {
      regions = body p 0;
      maps = body p 1;
      supplied = body p 2;
      statements = body p 3;
      nodes = body p 4;
      assignments = body p 5;
      steps = body p 6;
    }

-- the table of sections: bytes of a record, least and most records
pub record Shape : Type 0 where
  pub width : ℕ
  pub fewest : ℕ
  pub most : ℕ

-- a row of the table
abbrev pub shape : ℕ → ℕ → ℕ → Shape
shape width fewest most = record { width = width; fewest = fewest; most = most }

-- "Seven sections follow"
abbrev pub SECTIONS : ℕ
SECTIONS = 7

-- "record bytes", "most" and "least 1", section by section
unfoldable pub shapes : List Shape
shapes = shape 1 1 16 ∷ shape 3 0 16 ∷ shape 2 0 8 ∷ shape 4 0 64 ∷ shape 4 0 48 ∷ shape 1 0 64 ∷ shape 5 0 128 ∷ []

-- the row of the section that stands after n others
unfoldable pub shape_of : ℕ → Shape
shape_of n = get_or shapes n (shape 1 0 0)

-- Short: "input ends before a section does"; Measure: "length not whole records, or count outside its limits"
unfoldable pub section_check : Bytes → ℕ → Outcome
section_check p n =
    require (boundary p n + 2 ≤? length p and boundary p (suc n) ≤? length p) (Truncated (suc n))
    then require
    (u16 p (boundary p n) % (shape_of n).width =? 0
    and (shape_of n).fewest ≤? u16 p (boundary p n) / (shape_of n).width
    and u16 p (boundary p n) / (shape_of n).width ≤? (shape_of n).most)
    (InvalidLength (suc n))

-- "1 for empty, 2; per section 1 then 4; 3"
unfoldable pub layout_check : Bytes → Outcome
layout_check p =
    require (1 ≤? length p) (Truncated 0)
    then require (byte p 0 =? 1) UnknownEdition
    then scan (section_check p) 0 SECTIONS
    then require (length p ≤? boundary p SECTIONS) (TrailingBytes (boundary p SECTIONS))

-- the numbers of records, and the bytes of each
module _ (P : Plan) where
  abbrev pub region_count : ℕ
  region_count = length P.regions

  abbrev pub map_count : ℕ
  map_count = length P.maps / 3

  abbrev pub supplied_count : ℕ
  supplied_count = length P.supplied / 2

  abbrev pub statement_count : ℕ
  statement_count = length P.statements / 4

  abbrev pub node_count : ℕ
  node_count = length P.nodes / 4

  abbrev pub assignment_count : ℕ
  assignment_count = length P.assignments

  abbrev pub step_count : ℕ
  step_count = length P.steps / 5

  -- "number of fields"
  abbrev pub fields : ℕ → ℕ
  fields r = get_or P.regions r 0

  -- "source region, target region, 0 partial or 1 total"
  abbrev pub source : ℕ → ℕ
  source m = get_or P.maps (m * 3) 0

  abbrev pub target : ℕ → ℕ
  target m = get_or P.maps (m * 3 + 1) 0

  abbrev pub totality : ℕ → ℕ
  totality m = get_or P.maps (m * 3 + 2) 0

  -- "region, flags: 1 disjoint, 2 complete, 3 both, 0 neither"
  abbrev pub supplied_region : ℕ → ℕ
  supplied_region k = get_or P.supplied (k * 2) 0

  abbrev pub supplied_flags : ℕ → ℕ
  supplied_flags k = get_or P.supplied (k * 2 + 1) 0

  -- "kind, a, b, c"
  abbrev pub statement_kind : ℕ → ℕ
  statement_kind s = get_or P.statements (s * 4) 0

  abbrev pub statement_a : ℕ → ℕ
  statement_a s = get_or P.statements (s * 4 + 1) 0

  abbrev pub statement_b : ℕ → ℕ
  statement_b s = get_or P.statements (s * 4 + 2) 0

  abbrev pub statement_c : ℕ → ℕ
  statement_c s = get_or P.statements (s * 4 + 3) 0

  -- "kind, a, b, 0"
  abbrev pub node_kind : ℕ → ℕ
  node_kind j = get_or P.nodes (j * 4) 0

  abbrev pub node_a : ℕ → ℕ
  node_a j = get_or P.nodes (j * 4 + 1) 0

  abbrev pub node_b : ℕ → ℕ
  node_b j = get_or P.nodes (j * 4 + 2) 0

  abbrev pub node_unused : ℕ → ℕ
  node_unused j = get_or P.nodes (j * 4 + 3) 0

  -- the node assigned to a symbol
  abbrev pub assigned : ℕ → ℕ
  assigned k = get_or P.assignments k 0

  -- "lemma, x, y, p, q"
  abbrev pub step_lemma : ℕ → ℕ
  step_lemma t = get_or P.steps (t * 5) 0

  abbrev pub step_x : ℕ → ℕ
  step_x t = get_or P.steps (t * 5 + 1) 0

  abbrev pub step_y : ℕ → ℕ
  step_y t = get_or P.steps (t * 5 + 2) 0

  abbrev pub step_p : ℕ → ℕ
  step_p t = get_or P.steps (t * 5 + 3) 0

  abbrev pub step_q : ℕ → ℕ
  step_q t = get_or P.steps (t * 5 + 4) 0
