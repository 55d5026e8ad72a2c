-- The lines of the symbols so far are written.
use Rattle.std.specs.Io.KnownBytes.{Appends}
use Rattle.report.specs.Printed.{symbols_text}
use Rattle.report.proofs.print_symbols.Given as goal

abbrev pub invariant-loop-symbol : goal.invariant-loop-symbol
invariant-loop-symbol g l =
    Appends (g.W.Write.contents l.initial.out) (g.W.Write.contents l.out) (symbols_text l.plan l.«data» l.words l.symbol)
