-- The numbers read fit their widths, so that the record is made of them as they are (`cpu_read`).
use Rattle.machine_file.proofs.Parts.{cpu_read}
use Rattle.machine_file.proofs.registers.cpu_at.Goals as goal

pub returns : goal.returns
returns c = search cpu_read
