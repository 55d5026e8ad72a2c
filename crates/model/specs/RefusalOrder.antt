-- "Order: 1 for empty, 2; per section 1 then 4; 3; records by section, at each 5, 6, 7; 8 after section 4; 9 before section 6; at each
-- step 5, then 10; 11 by symbol; 12; 13; 14; 15. The first met is given." 16 is "after 14, before 15", 17 "after 14", the lowest place first.
use Rattle.std.specs.Prelude.{ℕ, ◌*◌, ◌/◌, ◌%◌, ◌<◌, ◌≡◌, List, [], ◌∷◌, get_or}
use Rattle.model.specs.Tests.{pick, ◌=?◌}

-- when a refusal is met: by stages; in a stage item by item (section, record, symbol, ..); at an item check by check
pub record Turn : Type 0 where
  pub stage : ℕ
  pub item : ℕ
  pub check : ℕ

-- the turn of this stage, item and check
abbrev pub turn_at : ℕ → ℕ → ℕ → Turn
turn_at stage item check = record { stage = stage; item = item; check = check }

-- the turns by number, each at a place. Stages 1 to 4 are the layout's; 10, 20, .. 70 are the records of sections 1 to 7, what
-- stands between two sections has a stage between theirs; 80 and on are the data set, what is asked of it, and what is lent
unfoldable pub turns : List (ℕ → Turn)
turns =
    -- no refusal has number 0
    (λ place. turn_at 0 0 0)
    -- "1 for empty"; "per section 1"
    ∷ (λ place. pick (place =? 0) (turn_at 1 0 0) (turn_at 3 place 0))
    -- "2"
    ∷ (λ place. turn_at 2 0 0)
    -- "3"
    ∷ (λ place. turn_at 4 0 0)
    -- "per section 1 then 4"
    ∷ (λ place. turn_at 3 place 1)
    -- "records by section, at each 5, 6, 7"; 5 and 6 stand at section × 256 + record, 7 at a record of section 5
    ∷ (λ place. turn_at (10 * (place / 256)) (place % 256) 0)
    ∷ (λ place. turn_at (10 * (place / 256)) (place % 256) 1)
    ∷ (λ place. turn_at 50 place 2)
    -- "8 after section 4"
    ∷ (λ place. turn_at 45 place 0)
    -- "9 before section 6"
    ∷ (λ place. turn_at 55 0 0)
    -- "at each step 5, then 10"
    ∷ (λ place. turn_at 70 place 1)
    -- "11 by symbol"
    ∷ (λ place. turn_at 75 place 0)
    -- "12; 13; 14; 15"
    ∷ (λ place. turn_at 80 0 0)
    ∷ (λ place. turn_at 90 place 0)
    ∷ (λ place. turn_at 100 place 0)
    ∷ (λ place. turn_at 110 0 0)
    -- 16 "place 1, 2, 3 or 4, the lowest; after 14, before 15"
    ∷ (λ place. turn_at 105 place 0)
    -- 17 "place 1 .. 2 .. 3; the lowest is given, after 14"
    ∷ (λ place. turn_at 106 place 0)
    ∷ []

-- the turn of a refusal of this number at this place
unfoldable pub turn : ℕ → ℕ → Turn
turn number place = get_or turns number (λ q. turn_at 0 0 0) place

-- turn t comes before turn u
pub data Earlier (t u : Turn) : Type 0 where
  by_stage : t.stage < u.stage → Earlier t u
  by_item : t.stage ≡ u.stage → t.item < u.item → Earlier t u
  by_check : t.stage ≡ u.stage → t.item ≡ u.item → t.check < u.check → Earlier t u
