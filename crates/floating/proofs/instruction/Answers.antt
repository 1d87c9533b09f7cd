-- The decoded instruction is the table's, and it is executed.
use Rattle.floating.proofs.instruction.Goals as goal

pub returns-clause-executes : goal.returns-clause-executes
returns-clause-executes c =
    rw (← c.floating_decode.ensures) c.execute.ensures.executes
