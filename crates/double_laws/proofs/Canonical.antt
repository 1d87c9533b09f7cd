-- Document 02, item 7: "a NaN result .. is always 0x7FF8000000000000 (narrowed, 0x7FC00000)". A result is the pattern of a value that its format holds, and of those
-- only `nan` has a NaN's pattern.
use mathlib.Core.Path.{◌≡◌, sym, ap, ◌∙◌}
use mathlib.Core.Bool.{true, not}
use Prim.Native.Nat.{ℕ, zero, suc, ◌*◌}
use lib.Dec.{T}
use lib.Ieee.{Float, nan, inf, fin, Format, binary32, binary64, up, down, fits, is_nan, of_bits, to_bits, nan_bits, add, sub, mul, div}
use lib.Ieee.Bits.{of_bits-to_bits, of_bits-fits, nan_bits_is}
use lib.Ieee.Fits.{nan-fits, inf-fits, round-fits, add-fits, sub-fits, mul-fits, div-fits, fits_widens}
use Rattle.double.specs.Arithmetic.{value_of, without_sign, sum_of, difference_of, product_of, quotient_of, absolute_of}
use Rattle.double.specs.Single.{double_of, nearest_single, single_of}
use Rattle.double.specs.Whole.{whole_by, floor_value, floor_of, ceiling_value, ceiling_of}
use Rattle.narrowing.proofs.Narrowed.{is_nan_lem}

-- ---- any result

module _ (f : Format) (v : Float) (h : T (fits f v)) where
  pub only_nan : nan_bits f (to_bits f v) ≡ true → to_bits f v ≡ to_bits f nan
  only_nan e = ap (to_bits f) (is_nan_lem v (sym (nan_bits_is f (to_bits f v) ∙ ap is_nan (of_bits-to_bits f v h)) ∙ e))

-- a double's pattern, if a NaN's, is the one
abbrev pub Canonical : ℕ → Type 0
Canonical r = nan_bits binary64 r ≡ true → r ≡ 0x7FF8000000000000

canonical : (v : Float) → T (fits binary64 v) → Canonical (to_bits binary64 v)
unfolding to_bits
canonical v h = only_nan binary64 v h

-- ---- the operations

pub sum_canonical : (x y : ℕ) → Canonical (sum_of x y)
unfolding sum_of
sum_canonical x y = canonical (add binary64 (value_of x) (value_of y)) (add-fits binary64 (value_of x) (value_of y))

pub difference_canonical : (x y : ℕ) → Canonical (difference_of x y)
unfolding difference_of
difference_canonical x y = canonical (sub binary64 (value_of x) (value_of y)) (sub-fits binary64 (value_of x) (value_of y))

pub product_canonical : (x y : ℕ) → Canonical (product_of x y)
unfolding product_of
product_canonical x y = canonical (mul binary64 (value_of x) (value_of y)) (mul-fits binary64 (value_of x) (value_of y))

pub quotient_canonical : (x y : ℕ) → Canonical (quotient_of x y)
unfolding quotient_of
quotient_canonical x y = canonical (div binary64 (value_of x) (value_of y)) (div-fits binary64 (value_of x) (value_of y))

pub absolute_fits : (v : Float) → T (fits binary64 v) → T (fits binary64 (without_sign v))
unfolding fits
absolute_fits nan h = tt
absolute_fits (inf s) h = tt
absolute_fits (fin s zero e) h = h
absolute_fits (fin s (suc m) e) h = h

pub absolute_canonical : (x : ℕ) → Canonical (absolute_of x)
unfolding absolute_of
absolute_canonical x = canonical (without_sign (value_of x)) (absolute_fits (value_of x) (of_bits-fits binary64 x))

pub floor_fits : (v : Float) → T (fits binary64 (floor_value v))
unfolding floor_value
floor_fits nan = nan-fits binary64
floor_fits (inf s) = inf-fits binary64 s
floor_fits (fin s m e) = round-fits binary64 s (whole_by s m e) 1

pub floor_canonical : (x : ℕ) → Canonical (floor_of x)
unfolding floor_of
floor_canonical x = canonical (floor_value (value_of x)) (floor_fits (value_of x))

pub ceiling_fits : (v : Float) → T (fits binary64 (ceiling_value v))
unfolding ceiling_value
ceiling_fits nan = nan-fits binary64
ceiling_fits (inf s) = inf-fits binary64 s
ceiling_fits (fin s m e) = round-fits binary64 s (whole_by (not s) m e) 1

pub ceiling_canonical : (x : ℕ) → Canonical (ceiling_of x)
unfolding ceiling_of
ceiling_canonical x = canonical (ceiling_value (value_of x)) (ceiling_fits (value_of x))

-- ---- singles

pub double_canonical : (w : ℕ) → Canonical (double_of w)
unfolding double_of
double_canonical w = canonical (of_bits binary32 w) (fits_widens (of_bits binary32 w) (of_bits-fits binary32 w))

single_fits : (v : Float) → T (fits binary32 (nearest_single v))
unfolding nearest_single
single_fits nan = nan-fits binary32
single_fits (inf s) = inf-fits binary32 s
single_fits (fin s m e) = round-fits binary32 s (m * up e) (down e)

pub single_canonical : (x : ℕ) → nan_bits binary32 (single_of x) ≡ true → single_of x ≡ 0x7FC00000
unfolding single_of to_bits
single_canonical x = only_nan binary32 (nearest_single (value_of x)) (single_fits (value_of x))
