use Prim.Native.Nat.{ℕ, ◌-◌}
use mathlib.Core.List.{List}
use mathlib.Core.Path.{◌≡◌}
use lib.ListN.{length}
use Rattle.machine.specs.Burst.{Paused}
use Rattle.mmu.specs.Good.{Good}
use Rattle.contracts.specs.Contract.{bad}
use Rattle.machine.proofs.floating_burst.Given as goal

-- memory and page buffer keep their lengths and are good, and what is paused since a start was so at the loop's entry
abbrev pub invariant-loop-e : goal.invariant-loop-e
invariant-loop-e l = (length l.mem ≡ length l.initial.mem)
    × ((length l.tlb ≡ length l.initial.tlb)
    × (Good (length l.mem) l.c.space.pdir l.tlb × ((m t : List ℕ) → Paused l.c l.limit m t (bad l.initial.r l.initial.e) l.initial.floats l.initial.mem l.initial.tlb →
    Paused l.c l.limit m t (bad l.r l.e) l.floats l.mem l.tlb)))

abbrev pub decreases-loop-e : goal.decreases-loop-e
decreases-loop-e l = l.limit - l.r.count
