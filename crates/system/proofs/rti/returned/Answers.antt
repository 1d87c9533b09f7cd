-- The test is the mark of value 16; sp is the sum, its low bits dropped.
use borrow.Author.Tests.{eq-eqb, ne_eqb}
use Rattle.paging.specs.Walk.{bit}
use Rattle.system.proofs.rti.returned.Goals as goal

pub returns-then-code-eq1 : goal.returns-then-code-eq1
unfolding bit
returns-then-code-eq1 c =
    rw (eq-eqb _ _ c.if-code-eq1.true, c.sum.ensures)

pub returns : goal.returns
unfolding bit
returns c =
    rw (ne_eqb _ _ c.if-code-eq1.false, c.sum.ensures)
