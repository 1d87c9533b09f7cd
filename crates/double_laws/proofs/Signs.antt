-- Document 02, item 7: FLOR and CEIL keep the sign, a zero's too, and an infinity; of a NaN they give the one NaN.
use mathlib.Core.Path.{◌≡◌, refl, sym, ap, ◌∙◌}
use mathlib.Core.Bool.{Bool, true, false, not}
use Prim.Native.Nat.{ℕ}
use lib.Dec.{T}
use lib.Ieee.{Float, nan, inf, fin, binary64, fits, round, of_bits, to_bits, nan_bits}
use lib.Ieee.Bits.{of_bits-fits, nan_bits_is}
use lib.Ieee.Exact.{HasValue}
use Rattle.double.specs.Arithmetic.{value_of, pattern_of}
use Rattle.double.specs.Whole.{whole_by, floor_value, floor_of, ceiling_value, ceiling_of}
use Rattle.narrowing.proofs.Narrowed.{is_nan_lem}
use Rattle.double_laws.proofs.Order.{exact, floor_value_lem, ceiling_value_lem}

-- ---- the sign

abbrev pub sign_of : Float → Bool
sign_of nan = false
sign_of (inf s) = s
sign_of (fin s m e) = s

sign_of_lem : (r : Float) (s : Bool) (n : ℕ) → HasValue r s n 1 → sign_of r ≡ s
sign_of_lem nan s n h = absurd h
sign_of_lem (inf t) s n h = absurd h
sign_of_lem (fin t m e) s n h = h.0

floor_keeps : (v : Float) → T (fits binary64 v) → sign_of (floor_value v) ≡ sign_of v
unfolding floor_value
floor_keeps nan h = refl
floor_keeps (inf s) h = refl
floor_keeps (fin s m e) h = sign_of_lem (round binary64 s (whole_by s m e) 1) s (whole_by s m e) (exact binary64 s s m e h)

ceiling_keeps : (v : Float) → T (fits binary64 v) → sign_of (ceiling_value v) ≡ sign_of v
unfolding ceiling_value
ceiling_keeps nan h = refl
ceiling_keeps (inf s) h = refl
ceiling_keeps (fin s m e) h = sign_of_lem (round binary64 s (whole_by (not s) m e) 1) s (whole_by (not s) m e) (exact binary64 s (not s) m e h)

pub floor_sign : (x : ℕ) → sign_of (value_of (floor_of x)) ≡ sign_of (value_of x)
floor_sign x = ap sign_of (floor_value_lem x) ∙ floor_keeps (value_of x) (of_bits-fits binary64 x)

pub ceiling_sign : (x : ℕ) → sign_of (value_of (ceiling_of x)) ≡ sign_of (value_of x)
ceiling_sign x = ap sign_of (ceiling_value_lem x) ∙ ceiling_keeps (value_of x) (of_bits-fits binary64 x)

-- -0, and -0.5
pub floor_zero : floor_of 0x8000000000000000 ≡ 0x8000000000000000
unfolding floor_of of_bits to_bits round
floor_zero = refl

pub ceiling_zero : ceiling_of 0xBFE0000000000000 ≡ 0x8000000000000000
unfolding ceiling_of of_bits to_bits round
ceiling_zero = refl

-- ---- infinities

pub floor_infinity : (s : Bool) → floor_of (pattern_of (inf s)) ≡ pattern_of (inf s)
unfolding floor_of of_bits to_bits
floor_infinity true = refl
floor_infinity false = refl

pub ceiling_infinity : (s : Bool) → ceiling_of (pattern_of (inf s)) ≡ pattern_of (inf s)
unfolding ceiling_of of_bits to_bits
ceiling_infinity true = refl
ceiling_infinity false = refl

-- ---- NaNs

module _ (x : ℕ) (e : nan_bits binary64 x ≡ true) where
  value_nan : value_of x ≡ nan
  value_nan = is_nan_lem (value_of x) (sym (nan_bits_is binary64 x) ∙ e)

  pub floor_nan : floor_of x ≡ 0x7FF8000000000000
  unfolding floor_of to_bits
  floor_nan = ap (λ (v : Float). pattern_of (floor_value v)) value_nan

  pub ceiling_nan : ceiling_of x ≡ 0x7FF8000000000000
  unfolding ceiling_of to_bits
  ceiling_nan = ap (λ (v : Float). pattern_of (ceiling_value v)) value_nan
