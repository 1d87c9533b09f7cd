-- With the count 0 no entry is held (`held_none`), the walks stay (`walks_set`), and the array is a page buffer still (`buffer_counted`).
use Rattle.std.proofs.Common.{set, arith}
use Rattle.buffer.proofs.Slots.{lent_is, walks_set, held_none, buffer_counted}
use Rattle.buffer.proofs.empty.Goals as goal

pub returns : goal.returns
returns c =
    (lent_is c.args.tlb.now (set c.args.tlb.now 64 0) (held_none c.args.tlb.now c.requires) (walks_set c.args.tlb.now 64 0 (omega arith)), buffer_counted c.args.tlb.now c.requires 0 (omega arith))
