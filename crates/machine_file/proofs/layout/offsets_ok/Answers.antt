-- Each word of the header is compared with the offset that follows from the counts.
use Rattle.machine_file.specs.Judged.{offsets_ok}
use Rattle.machine_file.proofs.layout.offsets_ok.Goals as goal

pub returns : goal.returns
unfolding offsets_ok
returns c =
    rw (c.load4.ensures, c.load4-2.ensures, c.load4-3.ensures, c.load4-4.ensures, c.console_at.ensures, c.memory_at.ensures)
