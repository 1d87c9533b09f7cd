-- A word's signed reading, which a double holds; what is rounded is no NaN (`int_number`).
use Rattle.std.proofs.Common.{arith, w32}
use mir.Facts.{of_z-to_z}
use Rattle.double.specs.Whole.{of_signed}
use Rattle.double.proofs.Nan.{int_number}
use Rattle.double.proofs.of_signed.Goals as goal

pub float_to_bits-result : goal.float_to_bits-result
float_to_bits-result c = int_number _

pub returns : goal.returns
unfolding of_signed
returns c = rw (c.cast_signed.ensures, of_z-to_z {w = w32} {n = c.args.a} (record { fits = omega arith }))
