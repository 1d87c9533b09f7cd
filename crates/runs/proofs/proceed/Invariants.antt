use Rattle.buffer.specs.Held.{unpack}
use lib.ListN.{length, take}
use mathlib.Core.Path.{◌≡◌}
use mathlib.Core.List.{map}
use Prim.Native.Nat.{◌≤◌}
use Rattle.runs.proofs.proceed.Given as goal

-- The first i numbers of the array, which is 66 long, unpack to the first i of the record's 64 slots; the count is at most 64.
abbrev pub invariant-loop-i : goal.invariant-loop-i
invariant-loop-i l = (l.held ≤ 64) × (length l.n.entries ≡ 64) × (length l.tlb ≡ 66) × (map unpack (take l.i l.tlb) ≡ take l.i l.n.entries)

-- The first j of the record's 64 slots are what the array's first j numbers unpack to; the record has the new registers and the new count, which is at
-- most 64.
abbrev pub invariant-loop-j : goal.invariant-loop-j
invariant-loop-j l = (l.count ≤ 64) × (l.n.cpu ≡ l.a.cpu) × (l.n.held ≡ l.count) × (length l.n.entries ≡ 64) × (take l.j l.n.entries ≡ map unpack (take l.j l.tlb))
