-- A pattern that is no NaN's is that of its value.
use Rattle.std.proofs.Common.{sym, ap, ◌∙◌, arith}
use lib.Ieee.{binary64, to_bits}
use lib.Ieee.Bits.{to_bits-of_bits}
use Rattle.double.specs.Arithmetic.{pattern_of}
use Rattle.double.proofs.Nan.{reads_nan, reads_number}
use Rattle.double.proofs.canonical.Goals as goal

pub returns-then-is_nan : goal.returns-then-is_nan
unfolding to_bits
returns-then-is_nan c = sym (ap pattern_of (reads_nan binary64 _ (sym c.is_nan.ensures ∙ c.if-is_nan.true)))

pub returns-else-is_nan : goal.returns-else-is_nan
returns-else-is_nan c = sym (to_bits-of_bits binary64 _ (omega arith) (reads_number binary64 _ (sym c.is_nan.ensures ∙ c.if-is_nan.false)))
