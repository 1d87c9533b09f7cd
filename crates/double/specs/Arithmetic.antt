-- Document 02, item 7: doubles as 64-bit patterns, by the logic's account of IEEE 754 (lib.Ieee). "Arithmetic is IEEE 754 double, one rounding each, DIVF by zero
-- without a fault; a NaN result .. is always 0x7FF8000000000000".
use Rattle.std.specs.Prelude.{ℕ, false, from_bits, to_bits, Float}
use Rattle.std.specs.Float.{nan, inf, fin, binary64}
use Rattle.std.specs.Float.Ieee.{add, sub, mul, div}

-- the value that a pattern stands for; every NaN pattern stands for `nan`
abbrev pub value_of : ℕ → Float
value_of x = from_bits binary64 x

-- the pattern of a result; of `nan` it is 0x7FF8000000000000
abbrev pub pattern_of : Float → ℕ
pattern_of v = to_bits binary64 v

-- ADDF
unfoldable pub sum_of : ℕ → ℕ → ℕ
sum_of x y = pattern_of (add binary64 (value_of x) (value_of y))

-- SUBF
unfoldable pub difference_of : ℕ → ℕ → ℕ
difference_of x y = pattern_of (sub binary64 (value_of x) (value_of y))

-- MULF
unfoldable pub product_of : ℕ → ℕ → ℕ
product_of x y = pattern_of (mul binary64 (value_of x) (value_of y))

-- DIVF
unfoldable pub quotient_of : ℕ → ℕ → ℕ
quotient_of x y = pattern_of (div binary64 (value_of x) (value_of y))

-- the value without its sign
abbrev pub without_sign : Float → Float
without_sign nan = nan
without_sign (inf s) = inf false
without_sign (fin s m e) = fin false m e

-- FABS
unfoldable pub absolute_of : ℕ → ℕ
absolute_of x = pattern_of (without_sign (value_of x))
