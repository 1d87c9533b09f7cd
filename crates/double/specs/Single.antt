-- Document 02, item 7: "Single precision is widened exactly and narrowed to nearest, ties to even"; a NaN result is 0x7FF8000000000000, "narrowed, 0x7FC00000".
use Rattle.std.specs.Prelude.{ℕ, ◌*◌, from_bits, to_bits, Float}
use Rattle.std.specs.Float.{nan, inf, fin, binary32}
use Rattle.std.specs.Float.Ieee.{up, down, round}
use Rattle.double.specs.Arithmetic.{value_of, pattern_of}

-- a single's pattern, widened
unfoldable pub double_of : ℕ → ℕ
double_of w = pattern_of (from_bits binary32 w)

-- the single that is nearest to a double
unfoldable pub nearest_single : Float → Float
nearest_single nan = nan
nearest_single (inf s) = inf s
nearest_single (fin s m e) = round binary32 s (m * up e) (down e)

-- a double's pattern, narrowed
unfoldable pub single_of : ℕ → ℕ
unfolding nearest_single
single_of x = to_bits binary32 (nearest_single (value_of x))
