-- A turn fills one more slot from the file (`slots_on`).
use Rattle.encoding.proofs.Entries.{slots_on}
use Rattle.encoding.specs.Entries.{entries_in}
use mathlib.Core.Path.{refl}
use native.Mathlib.Omega.{arith}
use Rattle.encoding.proofs.slots_at.Goals as goal

pub loop-i-init : goal.loop-i-init
unfolding entries_in
loop-i-init c = refl

pub loop-i-preserved : goal.loop-i-preserved
loop-i-preserved c = slots_on _ _ _ (omega arith) c.entry_at.ensures c.loop-i.invariant
