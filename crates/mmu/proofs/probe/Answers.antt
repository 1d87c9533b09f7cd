-- What is found is a hit in the slot that the hint names (`translate_hit`), or with paging off the address itself (`translate_at`).
use native.Mathlib.Omega.{arith}
use Rattle.mmu.proofs.Ways.{translate_hit, translate_at}
use Rattle.mmu.proofs.probe.Goals as goal

pub returns-then-space : goal.returns-then-space
returns-then-space c =
    translate_hit _ _ _ _ c.requires (omega arith) c.if-space.true _ c.slot.ensures c.in_ok-frame.was c.in_frame.ensures

pub returns-then-addr-mem : goal.returns-then-addr-mem
returns-then-addr-mem c =
    translate_at _ _ _ _ c.requires c.if-space.false c.if-addr-mem.true c.align.ensures
