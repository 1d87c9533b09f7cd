-- The comparison of the bytes decides the definition's choice: on with both addresses, or a break.
use borrow.Author.Tests.{ne_eqb, eq-eqb}
use Rattle.block.proofs.compared.Goals as goal

pub returns-then-x-y : goal.returns-then-x-y
returns-then-x-y c = rw (eq-eqb _ _ c.if-x-y.true) c.again_both.ensures

pub returns : goal.returns
returns c =
    rw (ne_eqb _ _ c.if-x-y.false, c.regs.ensures, c.difference-a.ensures, c.sum.ensures)
