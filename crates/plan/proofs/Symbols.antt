-- The numbers of symbols, given in one pass. Assumes nothing.
use Prim.Native.Nat.{ℕ, ◌+◌}
use mathlib.Core.Path.{◌≡◌, refl}
use mathlib.Core.Bool.{true, false}
use native.Mathlib.Numerals.{add-one}
use Rattle.model.specs.Tests.{pick}
use Rattle.model.specs.Layout.{Plan}
use Rattle.model.specs.Needs.{has_symbol, symbol}

-- the first symbol is 0, the next after a statement with a symbol one more
pub symbol_first : (P : Plan) → symbol P 0 ≡ 0
unfolding symbol
symbol_first P = refl

pub symbol_taken : (P : Plan) (s : ℕ) → has_symbol P s ≡ true → symbol P (s + 1) ≡ symbol P s + 1
unfolding symbol pick
symbol_taken P s has = rw (add-one s, add-one (symbol P s), has)

pub symbol_kept : (P : Plan) (s : ℕ) → has_symbol P s ≡ false → symbol P (s + 1) ≡ symbol P s
unfolding symbol pick
symbol_kept P s lacks = rw (add-one s, lacks)

pub ruleset symbols_next = (symbol_first, symbol_taken, symbol_kept)
