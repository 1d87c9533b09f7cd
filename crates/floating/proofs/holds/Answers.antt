-- The match tells the test, and the arm is its line of `float_holds`.
use Rattle.rules.specs.Floating.{float_holds}
use Rattle.floating.proofs.holds.Goals as goal

pub returns-in-Eq : goal.returns-in-Eq
unfolding float_holds
returns-in-Eq c = rw (c.in-Eq.is, c.equal.ensures)

pub returns-in-Ne : goal.returns-in-Ne
unfolding float_holds
returns-in-Ne c = rw (c.in-Ne.is, c.equal-in-Ne.ensures)

pub returns-in-Lt : goal.returns-in-Lt
unfolding float_holds
returns-in-Lt c = rw (c.in-Lt.is, c.less.ensures)

pub returns-in-Ge : goal.returns-in-Ge
unfolding float_holds
returns-in-Ge c = rw (c.in-Ge.is, c.at_least.ensures)
