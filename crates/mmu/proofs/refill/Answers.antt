-- The walk is counted (`counted_buffer`); it maps the page, and its entry is kept where the page was looked up (`kept_at`, `refill_mapped`), or it faults
-- (`refill_faulted`); a frame that it found fits an entry's number (`frame_small`).
use native.Mathlib.Omega.{arith}
use Rattle.mmu.proofs.Ways.{frame_small, counted_buffer, kept_at, refill_mapped, refill_faulted}
use Rattle.mmu.proofs.refill.Goals as goal

pub pack-requires : goal.pack-requires
pack-requires c =
    frame_small _ _ _ _ _ c.requires.0 c.walk.ensures c.in-Ok.is

pub keep-requires : goal.keep-requires
keep-requires c =
    (counted_buffer c.args.tlb.now c.requires.0.buffer c.raise_walks.ensures, kept_at c.args.tlb.now c.requires.0.buffer c.raise_walks.ensures c.pack.result c.pack.ensures c.requires.1)

pub returns-in-Ok : goal.returns-in-Ok
returns-in-Ok c =
    refill_mapped _ _ _ _ c.requires.0 (omega (arith, c.ranges)) c.walk.ensures c.raise_walks.ensures c.pack.result c.in-Ok.is c.pack.ensures c.keep.ensures c.in_frame.ensures

pub returns-in-Err : goal.returns-in-Err
returns-in-Err c =
    refill_faulted _ _ _ _ c.requires.0 (omega arith) c.walk.ensures c.raise_walks.ensures c.in-Err.is (rw c.denied.ensures)
