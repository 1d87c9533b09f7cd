-- A single that is no NaN is a double too (`fits_widens`).
use Rattle.std.proofs.Common.{not, sym, ap, ◌∙◌, rules}
use lib.Ieee.{binary32, binary64, of_bits, to_bits, is_nan, fits}
use lib.Ieee.Bits.{of_bits-fits}
use lib.Ieee.Fits.{and_i, fits_widens}
use Rattle.double.specs.Arithmetic.{pattern_of}
use Rattle.double.specs.Single.{double_of}
use Rattle.double.proofs.Nan.{no_nan, reads_nan, reads_number}
use Rattle.double.proofs.widen.Goals as goal

pub returns-then-is_nan_single : goal.returns-then-is_nan_single
unfolding double_of to_bits
returns-then-is_nan_single c = sym (ap pattern_of (reads_nan binary32 _ (sym c.is_nan_single.ensures ∙ c.if-is_nan_single.true)))

pub float_from_bits-result : goal.float_from_bits-result
float_from_bits-result c = no_nan (sym c.is_nan_single.ensures ∙ c.if-is_nan_single.false)

pub float_to_float-result : goal.float_to_float-result
float_to_float-result c =
    let v = of_bits binary32 c.args.w in
    and_i (fits binary64 v) (not (is_nan v)) (fits_widens v (of_bits-fits binary32 c.args.w))
    (reads_number binary32 _ (sym c.is_nan_single.ensures ∙ c.if-is_nan_single.false))

pub float_to_bits-result : goal.float_to_bits-result
float_to_bits-result c = reads_number binary32 _ (sym c.is_nan_single.ensures ∙ c.if-is_nan_single.false)

pub returns : goal.returns
unfolding double_of
returns c = search rules
