-- iena decides: the frame is delivered (`trap_delivered`), or the machine stops (`trap_masked`).
use Rattle.trap.proofs.Delivery.{trap_delivered, trap_masked}
use Rattle.trap.proofs.trap.Goals as goal

pub returns-then-c : goal.returns-then-c
returns-then-c c =
    λ con. trap_delivered _ _ _ c.if-c.true (c.deliver.ensures con)

pub returns : goal.returns
returns c =
    λ con. trap_masked _ _ _ c.stopped.ensures c.if-c.false c.requires
