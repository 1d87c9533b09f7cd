use Prim.Native.Nat.{◌-◌}
use Rattle.mmu.specs.Bus.{SameBus}
use Rattle.machine.proofs.InstructionLaws.{MadeFrom}
use Rattle.machine.proofs.instructions.Given as goal

-- the bus stays the same, and so far the steps up to r's count are made
abbrev pub invariant-loop-r : goal.invariant-loop-r
invariant-loop-r l = SameBus l.initial.bus l.bus
    × MadeFrom l.initial.r l.initial.bus.user l.initial.bus.space l.limit l.initial.bus.mem.now l.initial.bus.tlb.now l.r l.bus.mem.now l.bus.tlb.now

abbrev pub decreases-loop-r : goal.decreases-loop-r
decreases-loop-r l = l.limit - l.r.count
