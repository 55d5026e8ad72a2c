-- What a reader has left, where that is known, and the start of a buffer. Assumes nothing.
use Prim.Native.Nat.{ℕ, ◌+◌, ◌≤◌}
use mathlib.Core.Path.{◌≡◌, sym, ap, ◌∙◌}
use mathlib.Core.List.{List, ◌++◌, append_assoc}
use lib.ListN.{length, take, drop}
use lib.Seq.{take-add, take-append-le, length-take-le}
use Rattle.std.proofs.Common.{drop_at, le_refl}
use Rattle.std.proofs.lemmas.Slice.{take-put_mid_below}
use Rattle.std.specs.Prelude.{None, Some}
use Rattle.std.specs.declared.option.Option.{Option}
use Rattle.std.specs.Io.KnownBytes.{Consumes}
use borrow.Rule.Slice.PartMut.{put_mid, post_of}

pub then_read : (a b c : Option (List ℕ)) (s t : List ℕ) → Consumes a b s → Consumes b c t → Consumes a c (s ++ t)
then_read None b c s t first second = tt
then_read (Some x) None c s t first second = absurd first
then_read (Some x) (Some y) None s t first second = absurd second
then_read (Some x) (Some y) (Some z) s t first second = first ∙ ap (λ l. s ++ l) second ∙ sym (append_assoc s t z)

-- what was at the start of a buffer, and behind it the first n bytes of what was put there
pub start_grown : (at room n : ℕ) (buffer part : List ℕ) → at ≤ length buffer → n ≤ length part
    → take (at + n) (put_mid at room buffer part) ≡ take at buffer ++ take n part
start_grown at room n buffer part inside few =
    take-add at n (put_mid at room buffer part)
    ∙ ap (λ l. l ++ take n (drop at (put_mid at room buffer part))) (take-put_mid_below _ _ _ _ _ (le_refl _) inside)
    ∙ ap (λ l. take at buffer ++ take n l) (drop_at (take at buffer) (part ++ post_of at room buffer) at (length-take-le at buffer inside))
    ∙ ap (λ l. take at buffer ++ l) (take-append-le n part (post_of at room buffer) few)
