-- A turn writes one more slot after those before it (`putting_on`).
use native.Mathlib.Omega.{arith}
use Rattle.encoding.proofs.Entries.{putting_start, putting_on}
use Rattle.encoding.proofs.put_entries.Goals as goal

pub loop-i-init : goal.loop-i-init
loop-i-init c = putting_start

pub loop-i-preserved : goal.loop-i-preserved
loop-i-preserved c = putting_on (omega arith) c.loop-i.invariant c.put_entry.ensures
