-- The test is the definition, opened.
use Rattle.machine_file.specs.Judged.{counts_ok}
use mathlib.Core.Path.{refl}
use Rattle.machine_file.proofs.layout.counts_ok.Goals as goal

pub returns : goal.returns
unfolding counts_ok
returns c = refl
