-- The four tests are refusal 16, of the record that was read (`record_judged`).
use Rattle.machine_file.proofs.Parts.{record_judged}
use Rattle.machine_file.proofs.registers.record_ok.Goals as goal

pub returns : goal.returns
returns c = search record_judged
