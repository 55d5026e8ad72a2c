-- The filed plans and the filed data set, byte by byte as the paper lists them, and its variants of them, which differ from them as it
-- says. Assumes nothing.
use mathlib.Core.Path.{◌≡◌, refl}
use mathlib.Core.List.{[], ◌∷◌, ◌++◌}
use lib.ListN.{length, set}
use Rattle.model.specs.Bytes.{Bytes, part}
use Rattle.model.specs.Encoding.{framed_bytes}

-- a plan of edition 1 from its sections' bodies
abbrev pub plan : Bytes → Bytes → Bytes → Bytes → Bytes → Bytes → Bytes → Bytes
plan regions maps supplied statements nodes assignments steps =
    framed_bytes 1 (regions ∷ maps ∷ supplied ∷ statements ∷ nodes ∷ assignments ∷ steps ∷ [])

abbrev pub plan_a : Bytes
plan_a =
    0x01 ∷
    0x00 ∷ 0x02 ∷ 0x02 ∷ 0x01 ∷
    0x00 ∷ 0x03 ∷ 0x00 ∷ 0x01 ∷ 0x01 ∷
    0x00 ∷ 0x00 ∷
    0x00 ∷ 0x10 ∷ 0x00 ∷ 0x00 ∷ 0x00 ∷ 0x00 ∷ 0x01 ∷ 0x00 ∷ 0x00 ∷ 0x00 ∷ 0x04 ∷ 0x01 ∷ 0x00 ∷ 0x00 ∷ 0x06 ∷ 0x00 ∷ 0x01 ∷ 0x00 ∷
    0x00 ∷ 0x08 ∷ 0x01 ∷ 0x00 ∷ 0x00 ∷ 0x00 ∷ 0x05 ∷ 0x00 ∷ 0x00 ∷ 0x00 ∷
    0x00 ∷ 0x04 ∷ 0x00 ∷ 0x00 ∷ 0x01 ∷ 0x00 ∷
    0x00 ∷ 0x0F ∷ 0x02 ∷ 0x00 ∷ 0x00 ∷ 0x00 ∷ 0x00 ∷ 0x05 ∷ 0x00 ∷ 0x00 ∷ 0x00 ∷ 0x00 ∷ 0x05 ∷ 0x01 ∷ 0x01 ∷ 0x00 ∷ 0x00 ∷ []

abbrev pub regions_a : Bytes
regions_a = 2 ∷ 1 ∷ []

abbrev pub maps_a : Bytes
maps_a = 0 ∷ 1 ∷ 1 ∷ []

-- FOR region 0; LOAD map 0, variable 0, field 0; READ variable 1, field 0; REDUCE variable 0, field 1, add
abbrev pub statements_a : Bytes
statements_a = 0 ∷ 0 ∷ 0 ∷ 0 ∷ 1 ∷ 0 ∷ 0 ∷ 0 ∷ 4 ∷ 1 ∷ 0 ∷ 0 ∷ 6 ∷ 0 ∷ 1 ∷ 0 ∷ []

-- equal region 0; image of node 0 under map 0
abbrev pub nodes_a : Bytes
nodes_a = 1 ∷ 0 ∷ 0 ∷ 0 ∷ 5 ∷ 0 ∷ 0 ∷ 0 ∷ []

abbrev pub assignments_a : Bytes
assignments_a = 0 ∷ 0 ∷ 1 ∷ 0 ∷ []

-- lemma 2 of node 0; lemma 5 of node 0; lemma 5 of node 1
abbrev pub steps_a : Bytes
steps_a = 2 ∷ 0 ∷ 0 ∷ 0 ∷ 0 ∷ 5 ∷ 0 ∷ 0 ∷ 0 ∷ 0 ∷ 5 ∷ 1 ∷ 1 ∷ 0 ∷ 0 ∷ []

-- "A without its first step"
abbrev pub plan_a_stepless : Bytes
plan_a_stepless = plan regions_a maps_a [] statements_a nodes_a assignments_a (5 ∷ 0 ∷ 0 ∷ 0 ∷ 0 ∷ 5 ∷ 1 ∷ 1 ∷ 0 ∷ 0 ∷ [])

-- "A, READ made WRITE"
abbrev pub plan_a_written : Bytes
plan_a_written =
    plan regions_a maps_a [] (0 ∷ 0 ∷ 0 ∷ 0 ∷ 1 ∷ 0 ∷ 0 ∷ 0 ∷ 5 ∷ 1 ∷ 0 ∷ 0 ∷ 6 ∷ 0 ∷ 1 ∷ 0 ∷ []) nodes_a assignments_a steps_a

-- "nodes equal region 1, preimage of 0, image of 1; assignments 1, 1, 0, 1; steps .. 2 0 0 0 0; 20 1 0 0 0; 5 1 1 0 0; 14 2 0 2 0"
abbrev pub plan_b_mapped : Bytes → Bytes
plan_b_mapped maps =
    plan regions_a maps [] statements_a (1 ∷ 1 ∷ 0 ∷ 0 ∷ 6 ∷ 0 ∷ 0 ∷ 0 ∷ 5 ∷ 1 ∷ 0 ∷ 0 ∷ []) (1 ∷ 1 ∷ 0 ∷ 1 ∷ [])
    (2 ∷ 0 ∷ 0 ∷ 0 ∷ 0 ∷ 20 ∷ 1 ∷ 0 ∷ 0 ∷ 0 ∷ 5 ∷ 1 ∷ 1 ∷ 0 ∷ 0 ∷ 14 ∷ 2 ∷ 0 ∷ 2 ∷ 0 ∷ [])

abbrev pub plan_b : Bytes
plan_b = plan_b_mapped maps_a

-- "B, map partial"
abbrev pub plan_b_partial : Bytes
plan_b_partial = plan_b_mapped (0 ∷ 1 ∷ 0 ∷ [])

abbrev pub data_d : Bytes
data_d =
    0x01 ∷
    0x00 ∷ 0x01 ∷ 0x02 ∷
    0x00 ∷ 0x04 ∷ 0x00 ∷ 0x05 ∷ 0x00 ∷ 0x03 ∷
    0x00 ∷ 0x0A ∷ 0x00 ∷ 0x00 ∷ 0x00 ∷ 0x00 ∷ 0x00 ∷ 0x02 ∷ 0x00 ∷ 0x01 ∷ 0x00 ∷ 0x02 ∷
    0x00 ∷ 0x00 ∷ []

-- "Plan A (63 bytes)": its bytes are those of its parts
pub plan_a_parts : (length plan_a ≡ 63) × (plan_a ≡ plan regions_a maps_a [] statements_a nodes_a assignments_a steps_a)
plan_a_parts = (refl, refl)

-- byte 22 is READ's kind; 48 to 52 are the first step, and 47 is the length of section 7
pub plan_a_variants : (plan_a_written ≡ set plan_a 22 5) × (plan_a_stepless ≡ set (part plan_a 0 48 ++ part plan_a 53 63) 47 10)
plan_a_variants = (refl, refl)

-- B begins as A does, up to the statements; byte 9 says that the map is total
pub plan_b_variants : (part plan_b 0 30 ≡ part plan_a 0 30) × (plan_b_partial ≡ set plan_b 9 0)
plan_b_variants = (refl, refl)
