-- One law of `Ways` a return: paging off, within memory (`translate_at`) or beyond (`translate_beyond`); paging on, an entry that serves (`translate_hit`)
-- or a walk (`translate_miss`).
use native.Mathlib.Omega.{arith}
use Rattle.mmu.proofs.Ways.{translate_hit, translate_miss, translate_at, translate_beyond}
use Rattle.mmu.proofs.translate_slow.Goals as goal

pub returns-then-addr-mem : goal.returns-then-addr-mem
returns-then-addr-mem c =
    translate_at _ _ _ _ c.requires c.if-not-paging.true c.if-addr-mem.true c.align.ensures

pub returns-then-not-paging : goal.returns-then-not-paging
returns-then-not-paging c =
    translate_beyond _ _ _ _ c.requires c.if-not-paging.true c.if-addr-mem.false (rw c.denied.ensures)

pub returns-in-None : goal.returns-in-None
returns-in-None c =
    translate_miss _ _ _ _ c.requires c.ranges.addr.fits c.if-not-paging.false _ c.slot.ensures c.in-None.is c.lookup-i.ensures c.refill.ensures

pub returns-in-Some : goal.returns-in-Some
returns-in-Some c =
    translate_hit _ _ _ _ c.requires (omega arith) c.if-not-paging.false _ c.slot.ensures c.in-Some.is c.in_frame.ensures
