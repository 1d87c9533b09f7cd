-- The test is the definition, opened.
use mathlib.Core.Path.{refl}
use Rattle.rules.specs.Run.{registers_ok}
use Rattle.refusals.proofs.registers_ok.Goals as goal

pub returns : goal.returns
unfolding registers_ok
returns c = refl
