-- The length is compared with the one that follows from the counts.
use Rattle.machine_file.proofs.layout.length_ok.Goals as goal

pub returns : goal.returns
returns c = rw c.length_by.ensures
