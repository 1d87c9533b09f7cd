use mathlib.Core.Path.{◌≡◌}
use lib.ListN.{take, drop}
use Rattle.paging.specs.Buffer.{has, entry_page}
use Rattle.refusals.proofs.has_page.Given as goal

-- The page stands from slot `from` on just if it stands from slot i on: those between do not have it.
abbrev pub invariant-loop-i : goal.invariant-loop-i
invariant-loop-i l = has entry_page l.page (drop l.from (take l.n l.slots)) ≡ has entry_page l.page (drop l.i (take l.n l.slots))
