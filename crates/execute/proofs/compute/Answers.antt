-- The operation's result is matched: a value is put into a, a zero divisor is FARITH.
use Rattle.execute.proofs.compute.Goals as goal

pub returns-in_default : goal.returns-in_default
returns-in_default c =
    rw (c.ended.ensures, ← c.compute.ensures, c.in_default.is)

pub returns : goal.returns
returns c =
    rw (c.fine.ensures, c.put.ensures, ← c.compute.ensures, c.in-Some.is)
