-- Two patterns' values, as the code is cut: none where one is a NaN's.
use Rattle.std.specs.Prelude.{ℕ, ◌||◌, Option, None, Some, Float, if◌then◌else◌}
use Rattle.std.specs.Float.{binary64}
use Rattle.std.specs.Float.Ieee.{nan_bits}
use Rattle.double.specs.Arithmetic.{value_of}

unfoldable pub numbers_of : ℕ → ℕ → Option (Float × Float)
numbers_of x y = if nan_bits binary64 x || nan_bits binary64 y then None else Some (value_of x, value_of y)
