-- The record is the one that is read from the file: the registers, then the entries.
use Rattle.machine_file.specs.Judged.{machine_in}
use Rattle.machine_file.proofs.registers.machine_at.Goals as goal

pub returns : goal.returns
unfolding machine_in
returns c = rw (c.cpu_at-cpu.ensures, c.slots_at-entries.ensures)
