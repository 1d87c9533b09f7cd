-- A double holds every whole number up to 2^53; what is rounded is no NaN (`int_number`).
use Rattle.std.proofs.Common.{pos, le→leb}
use lib.Ieee.{in_float}
use Rattle.double.proofs.Nan.{int_number}
use Rattle.double.proofs.of_whole.Goals as goal

pub int_to_float-result : goal.int_to_float-result
unfolding in_float
int_to_float-result c = le→leb _ _ c.requires

pub float_to_bits-result : goal.float_to_bits-result
float_to_bits-result c = int_number (pos c.args.n)
