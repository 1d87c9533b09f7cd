-- The match tells whether the value fits, and the arm is its line of `cut_done`.
use Rattle.floating.proofs.cut.Goals as goal

pub returns-in-None : goal.returns-in-None
returns-in-None c = rw (c.in-None.is, c.ended.ensures)

pub returns-in-Some : goal.returns-in-Some
returns-in-Some c = rw (c.in-Some.is, c.fine.ensures, c.put.ensures)
