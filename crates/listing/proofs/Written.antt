-- What a writer holds, where that is known, as text behind text. Assumes nothing.
use mathlib.Core.Path.{sym, ap, ◌∙◌}
use mathlib.Core.List.{List, [], ◌++◌, append_assoc, append-nil}
use Prim.Native.Nat.{ℕ}
use Rattle.std.specs.Prelude.{None, Some}
use Rattle.std.specs.declared.option.Option.{Option}
use Rattle.std.specs.Io.KnownBytes.{Appends}

pub none_written : (a : Option (List ℕ)) → Appends a a []
none_written None = tt
none_written (Some x) = sym (append-nil x)

pub then_written : (a b c : Option (List ℕ)) (s t : List ℕ) → Appends a b s → Appends b c t → Appends a c (s ++ t)
then_written None b c s t first second = tt
then_written (Some x) None c s t first second = absurd first
then_written (Some x) (Some y) None s t first second = absurd second
then_written (Some x) (Some y) (Some z) s t first second = second ∙ ap (λ l. l ++ t) first ∙ append_assoc x s t

-- what the proofs of loops that write cite
pub ruleset written = (none_written, then_written)
