-- How much of its files the report reads. A longer file gets from that the answer of the whole: proofs/Prefixes.
use Rattle.std.specs.Prelude.{ℕ, ◌+◌, ◌*◌}

-- the edition, seven sections of at most 2 + 65535 bytes each, and one byte more
unfoldable pub plan_bytes : ℕ
plan_bytes = 1 + 7 * 65537 + 1

-- the edition, four sections, and one byte more
unfoldable pub data_bytes : ℕ
data_bytes = 1 + 4 * 65537 + 1
