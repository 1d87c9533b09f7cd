-- Only `nan` differs from itself.
use Rattle.std.proofs.Common.{T, sym, ap, subst}
use lib.Ieee.{to_bits}
use lib.Ieee.Compare.{differs_from_itself}
use Rattle.double.specs.Arithmetic.{pattern_of}
use Rattle.double.proofs.Nan.{equals_itself}
use Rattle.double.proofs.bits.Goals as goal

pub returns-then-v : goal.returns-then-v
unfolding to_bits
returns-then-v c = sym (ap pattern_of (differs_from_itself c.args.v (subst T (sym c.if-v.true) tt)))

pub float_to_bits-result : goal.float_to_bits-result
float_to_bits-result c = equals_itself c.args.v c.if-v.false
