-- The filed plan and the filed data set are their records and their contents, written; a piece of nine elements is two bytes. By computation.
-- Assumes nothing.
use mathlib.Core.Path.{◌≡◌, refl}
use mathlib.Core.Bool.{true, false}
use mathlib.Core.List.{[], ◌∷◌}
use Rattle.model.specs.Words.{from_bits}
use Rattle.model.specs.Encoding.{PlanRecords, plan_bytes, DataContents, member_bytes, data_bytes}
use Rattle.model.proofs.FiledPlans.{plan_a, data_d}

-- plan A's records, and D's contents: 2 pieces, sizes 5 and 3, entries 0, 0, 2, 1, 2
abbrev pub records_a : PlanRecords
records_a =
    record {
      regions = (2 ∷ []) ∷ (1 ∷ []) ∷ [];
      maps = (0 ∷ 1 ∷ 1 ∷ []) ∷ [];
      supplied = [];
      statements = (0 ∷ 0 ∷ 0 ∷ 0 ∷ []) ∷ (1 ∷ 0 ∷ 0 ∷ 0 ∷ []) ∷ (4 ∷ 1 ∷ 0 ∷ 0 ∷ []) ∷ (6 ∷ 0 ∷ 1 ∷ 0 ∷ []) ∷ [];
      nodes = (1 ∷ 0 ∷ 0 ∷ 0 ∷ []) ∷ (5 ∷ 0 ∷ 0 ∷ 0 ∷ []) ∷ [];
      assignments = (0 ∷ []) ∷ (0 ∷ []) ∷ (1 ∷ []) ∷ (0 ∷ []) ∷ [];
      steps = (2 ∷ 0 ∷ 0 ∷ 0 ∷ 0 ∷ []) ∷ (5 ∷ 0 ∷ 0 ∷ 0 ∷ 0 ∷ []) ∷ (5 ∷ 1 ∷ 1 ∷ 0 ∷ 0 ∷ []) ∷ [];
    }

abbrev pub contents_d : DataContents
contents_d = record { piece_count = 2; sizes = 5 ∷ 3 ∷ []; entries = (0 ∷ 0 ∷ 2 ∷ 1 ∷ 2 ∷ []) ∷ []; members = [] }

pub record FiledEncodings : Type 0 where
  pub plan_a_lem : plan_bytes 1 records_a ≡ plan_a
  pub data_d_lem : data_bytes 1 contents_d ≡ data_d
  -- elements 0, 2 and 8 of nine: "highest bit first, pad bits 0"
  pub nine_elements :
      member_bytes (true ∷ false ∷ true ∷ false ∷ false ∷ false ∷ false ∷ false ∷ true ∷ []) ≡ 0xA0 ∷ 0x80 ∷ []

pub filed_encodings : FiledEncodings
unfolding from_bits
filed_encodings = record { plan_a_lem = refl; data_d_lem = refl; nine_elements = refl }
