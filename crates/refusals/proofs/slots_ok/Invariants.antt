use Prim.Native.Nat.{◌≤◌}
use mathlib.Core.Path.{◌≡◌}
use lib.ListN.{length}
use Rattle.refusals.proofs.Turns.{Passed}
use Rattle.refusals.proofs.slots_ok.Given as goal

-- At most 64 entries are counted, and those from slot i on have passed; `seen` has the remainder of each of their pages.
abbrev pub invariant-loop-i : goal.invariant-loop-i
invariant-loop-i l = (z : length l.m.entries ≡ 64) × ((few : l.m.held ≤ 64) × Passed l.m.held l.m.entries z few l.size l.i l.seen)
