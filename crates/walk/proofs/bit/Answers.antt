-- The test is the definition, opened.
use mathlib.Core.Path.{refl}
use Rattle.paging.specs.Walk.{bit}
use Rattle.walk.proofs.bit.Goals as goal

pub returns : goal.returns
unfolding bit
returns c = refl
