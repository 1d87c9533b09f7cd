-- A double holds every word; what is rounded is no NaN (`int_number`).
use Rattle.std.proofs.Common.{pos, rules}
use Rattle.double.specs.Whole.{of_unsigned}
use Rattle.double.proofs.Nan.{int_number}
use Rattle.double.proofs.of_unsigned.Goals as goal

pub float_to_bits-result : goal.float_to_bits-result
float_to_bits-result c = int_number (pos c.args.a)

pub returns : goal.returns
unfolding of_unsigned
returns c = search rules
