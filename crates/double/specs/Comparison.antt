-- Document 02, item 7: comparisons of doubles. "GEF and BGEF are ≥"; a NaN differs from everything and is in no order, and -0 equals 0.
use Rattle.std.specs.Prelude.{ℕ, Bool}
use Rattle.std.specs.Float.Ieee.{eq, lt, le}
use Rattle.double.specs.Arithmetic.{value_of}

unfoldable pub equals : ℕ → ℕ → Bool
equals x y = eq (value_of x) (value_of y)

unfoldable pub less : ℕ → ℕ → Bool
less x y = lt (value_of x) (value_of y)

unfoldable pub at_least : ℕ → ℕ → Bool
at_least x y = le (value_of y) (value_of x)
