-- "A loop is parallelizable when all three hold".
use Rattle.std.specs.Prelude.{ℕ, Bool, true, false}
use Rattle.model.specs.Tests.{◌and◌, ◌or◌, non, ◌=?◌, any, every}
use Rattle.model.specs.Outcomes.{require, Outcome}
use Rattle.model.specs.Layout.{Plan, statement_count, statement_c}
use Rattle.model.specs.Statements.{kind, access_of, opens, accesses, loop, operand_definition, operand_region, access_field, centered}
use Rattle.model.specs.declared.Refusal.TheVariants.{NotParallelizable}
use Rattle.model.specs.declared.Access.{Access}
use Rattle.model.specs.declared.Access.TheVariants.{Nothing, Reads, Writes, Reduces}

-- an access that reads
unfoldable pub is_read : Access → Bool
is_read Nothing = false
is_read Reads = true
is_read Writes = false
is_read Reduces = false

-- an access that writes
unfoldable pub is_write : Access → Bool
is_write Nothing = false
is_write Reads = false
is_write Writes = true
is_write Reduces = false

-- an access that reduces
unfoldable pub is_reduce : Access → Bool
is_reduce Nothing = false
is_reduce Reads = false
is_reduce Writes = false
is_reduce Reduces = true

module _ (P : Plan) where
  -- statement s reads: LOAD or READ
  unfoldable pub reads : ℕ → Bool
  reads s = is_read (access_of (kind P s))

  -- statement s writes: WRITE
  unfoldable pub writes : ℕ → Bool
  writes s = is_write (access_of (kind P s))

  -- statement s reduces: REDUCE
  unfoldable pub reduces : ℕ → Bool
  reduces s = is_reduce (access_of (kind P s))

  -- the access goes through a variable that is not centered
  unfoldable pub uncentered : ℕ → Bool
  uncentered s = non (centered P (operand_definition P s))

  -- access s stands in the loop of FOR f
  unfoldable pub access_of_loop : ℕ → ℕ → Bool
  access_of_loop f s = accesses P s and loop P s =? f

  -- the two accesses are of one target: "region and field"
  unfoldable pub same_target : ℕ → ℕ → Bool
  same_target s t = operand_region P s =? operand_region P t and access_field P s =? access_field P t

  -- a target "with an uncentered REDUCE has no other access in the loop but uncentered REDUCEs of the same operator";
  -- one "with an uncentered read has no WRITE or REDUCE in the loop"
  unfoldable pub conflicts : ℕ → ℕ → Bool
  conflicts s t =
      same_target s t
      and (reduces s and uncentered s and non (reduces t and uncentered t and statement_c P s =? statement_c P t)
      or reads s and uncentered s and (writes t or reduces t))

  -- "each WRITE is centered", and no two accesses of the loop conflict
  unfoldable pub parallelizable : ℕ → Bool
  parallelizable f =
      every (statement_count P) (λ s. non (access_of_loop f s) or
      non (writes s and uncentered s) and every (statement_count P) (λ t. non (access_of_loop f t) or non (conflicts s t)))

  -- Tangled: "loop not parallelizable", at "its FOR's record"
  unfoldable pub loop_check : ℕ → Outcome
  loop_check s = require (non (opens P s) or parallelizable s) (NotParallelizable s)

  -- "A loop reduces through a pointer when it has an uncentered REDUCE"
  unfoldable pub reduces_through_pointer : ℕ → Bool
  reduces_through_pointer f = any (statement_count P) (λ s. access_of_loop f s and reduces s and uncentered s)
