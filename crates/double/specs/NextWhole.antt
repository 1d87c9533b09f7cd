-- The rule that FLOR and CEIL share, as the code is cut: the whole number at a value or next to it, away from zero where `away`.
use Rattle.std.specs.Prelude.{Bool, Float}
use Rattle.std.specs.Float.{nan, inf, fin, binary64}
use Rattle.std.specs.Float.Ieee.{round}
use Rattle.double.specs.Whole.{whole_by}

unfoldable pub next_whole : Bool → Float → Float
next_whole away nan = nan
next_whole away (inf s) = inf s
next_whole away (fin s m e) = round binary64 s (whole_by away m e) 1
