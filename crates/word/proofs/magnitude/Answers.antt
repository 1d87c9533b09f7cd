-- The word's signed reading, which the i32 holds (`read_back`), has the magnitude that the library's method gives.
use mathlib.Core.Path.{ap, ◌∙◌}
use lib.IntN.{nat_abs}
use Rattle.word.specs.Magnitude.{magnitude}
use Rattle.word.proofs.Conversion.{read_back}
use Rattle.word.proofs.magnitude.Goals as goal

pub returns : goal.returns
unfolding magnitude
returns c = c.unsigned_abs.ensures.value ∙ ap nat_abs (read_back c.args.x c.cast_signed.type_inv c.cast_signed.ensures)
