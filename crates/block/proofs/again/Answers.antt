-- The two differences and the sum are the definition's.
use Rattle.block.proofs.again.Goals as goal

pub returns : goal.returns
returns c =
    rw (c.regs.ensures, c.sum-a.ensures, c.difference-c.ensures, c.difference.ensures)
