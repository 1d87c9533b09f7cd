-- The page buffer is emptied, whatever it held, and the record has the new address space.
use mathlib.Core.Path.{refl}
use Rattle.system.proofs.AddressSpace.{spag_set}
use Rattle.system.proofs.spag.spag.Goals as goal

pub returns : goal.returns
returns c = λ m con g. spag_set _ c.empty.ensures.0 c.empty.ensures.1 g refl
