-- The widths take the bytes of the registers' block.
use mathlib.Core.Path.{refl}
use Rattle.encoding.specs.Encoding.{widths}
use Rattle.machine_file.proofs.registers.numbers_in.Goals as goal

pub numbers_at-requires : goal.numbers_at-requires
unfolding widths
numbers_at-requires c = (refl, c.requires)
