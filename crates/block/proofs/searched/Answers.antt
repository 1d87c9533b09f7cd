-- The comparison with b's low byte decides the definition's choice: a break, or on.
use borrow.Author.Tests.{ne_eqb, eq-eqb}
use Rattle.block.proofs.searched.Goals as goal

pub returns-then-x-r : goal.returns-then-x-r
returns-then-x-r c = rw (eq-eqb _ _ c.if-x-r.true, c.regs.ensures)

pub returns : goal.returns
returns c = rw (ne_eqb _ _ c.if-x-r.false) c.again.ensures
