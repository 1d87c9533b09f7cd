-- Document 02, item 7: doubles and whole numbers. "CDI and CDU cut toward zero; NaN or a value that doesn't fit afterwards is FARITH"; FLOR and CEIL, whose zeros
-- keep the operand's sign.
use Rattle.std.specs.Prelude.{ℕ, ◌+◌, ◌*◌, ◌/◌, ◌%◌, ◌^◌, Bool, not, ◌&&◌, ℤ, pos, ◌==◌, nat_lt, Float, if◌then◌else◌}
use Rattle.std.specs.Float.{nan, inf, fin, binary64}
use Rattle.std.specs.Float.Ieee.{up, down, round, of_int}
use Rattle.std.specs.Int.{w32}
use Rattle.std.proofs.Common.{to_z}
use Rattle.word.specs.Magnitude.{with_sign}
use Rattle.std.specs.Prelude.{Option, None, Some}
use Rattle.double.specs.Arithmetic.{value_of, pattern_of}

-- CID, CUD: exact, since a double holds every 32-bit number
unfoldable pub of_signed : ℕ → ℕ
of_signed a = pattern_of (of_int binary64 (to_z w32 a))

unfoldable pub of_unsigned : ℕ → ℕ
of_unsigned a = pattern_of (of_int binary64 (pos a))

-- m * 2 ^ e, cut to a whole number, and whether that cuts something away
abbrev pub whole_part : ℕ → ℤ → ℕ
whole_part m e = m * up e / down e

abbrev pub has_fraction : ℕ → ℤ → Bool
has_fraction m e = not (m * up e % down e == 0)

-- CDI: the word, if the number fits after it is cut
unfoldable pub cut_signed : Float → Option ℕ
cut_signed nan = None
cut_signed (inf s) = None
cut_signed (fin s m e) = if nat_lt (whole_part m e) (if s then 2 ^ 31 + 1 else 2 ^ 31) then Some (with_sign s (whole_part m e)) else None

-- CDU
unfoldable pub cut_unsigned : Float → Option ℕ
cut_unsigned nan = None
cut_unsigned (inf s) = None
cut_unsigned (fin s m e) = if nat_lt (whole_part m e) (if s then 1 else 2 ^ 32) then Some (whole_part m e) else None

-- the whole number at or next to m * 2 ^ e: away from zero where `away` and something is cut
abbrev pub whole_by : Bool → ℕ → ℤ → ℕ
whole_by away m e = whole_part m e + (if away && has_fraction m e then 1 else 0)

-- FLOR: a negative number's magnitude rises
unfoldable pub floor_value : Float → Float
floor_value nan = nan
floor_value (inf s) = inf s
floor_value (fin s m e) = round binary64 s (whole_by s m e) 1

unfoldable pub floor_of : ℕ → ℕ
unfolding floor_value
floor_of x = pattern_of (floor_value (value_of x))

-- CEIL: a positive number's does
unfoldable pub ceiling_value : Float → Float
ceiling_value nan = nan
ceiling_value (inf s) = inf s
ceiling_value (fin s m e) = round binary64 s (whole_by (not s) m e) 1

unfoldable pub ceiling_of : ℕ → ℕ
unfolding ceiling_value
ceiling_of x = pattern_of (ceiling_value (value_of x))
