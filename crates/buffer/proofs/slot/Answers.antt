-- One law a return: the slot is past the count (`slot_past`), its entry serves (`slot_serves`), or it does not (`slot_refuses`).
use Rattle.std.proofs.Common.{arith}
use Rattle.buffer.proofs.Hits.{slot_past, slot_serves, slot_refuses}
use Rattle.buffer.proofs.slot.Goals as goal

pub returns-then-i-count : goal.returns-then-i-count
returns-then-i-count c =
    slot_past c.args.tlb.now c.args.i _ _ _ (omega arith)

pub returns-then-e-page : goal.returns-then-e-page
returns-then-e-page c =
    slot_serves c.args.tlb.now c.args.i _ _ _ (omega arith) c.serves.ensures c.if-e-page.true

pub returns-else-e-page : goal.returns-else-e-page
returns-else-e-page c =
    slot_refuses c.args.tlb.now c.args.i _ _ _ (omega arith) c.serves.ensures c.if-e-page.false
