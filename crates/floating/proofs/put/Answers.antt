-- The match tells the register, and the arm sets it.
use Rattle.floating.proofs.put.Goals as goal

pub returns-in-F : goal.returns-in-F
returns-in-F c = rw c.in-F.is

pub returns-in-G : goal.returns-in-G
returns-in-G c = rw c.in-G.is
