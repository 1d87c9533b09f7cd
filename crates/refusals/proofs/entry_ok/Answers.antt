-- The test is the definition, opened.
use mathlib.Core.Path.{refl}
use Rattle.paging.specs.Buffer.{entry_ok}
use Rattle.refusals.proofs.entry_ok.Goals as goal

pub returns : goal.returns
unfolding entry_ok
returns c = refl
