-- The test is the definition, opened.
use Rattle.machine_file.specs.Judged.{numbers_ok}
use mathlib.Core.Path.{refl}
use Rattle.machine_file.proofs.registers.numbers_ok.Goals as goal

pub returns : goal.returns
unfolding numbers_ok
returns c = refl
