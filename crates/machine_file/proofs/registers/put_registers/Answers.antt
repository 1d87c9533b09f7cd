-- The widths are the registers', as many as their numbers, and take the bytes of their block.
use mathlib.Core.Path.{ap}
use lib.ListN.{length}
use Rattle.encoding.specs.Encoding.{widths}
use Rattle.machine_file.proofs.registers.put_registers.Goals as goal

pub put_numbers-requires : goal.put_numbers-requires
unfolding widths
put_numbers-requires c = (ap length c.numbers_of-numbers.ensures, c.requires)

pub returns : goal.returns
returns c =
    rw (← c.numbers_of-numbers.ensures) c.put_numbers.ensures
