-- The match tells the operation, and the arm is its line of `arith_of`.
use Rattle.rules.specs.Floating.{arith_of}
use Rattle.floating.proofs.arith.Goals as goal

pub returns-in-Add : goal.returns-in-Add
unfolding arith_of
returns-in-Add c = rw (c.in-Add.is, c.add.ensures)

pub returns-in-Sub : goal.returns-in-Sub
unfolding arith_of
returns-in-Sub c = rw (c.in-Sub.is, c.sub.ensures)

pub returns-in-Mul : goal.returns-in-Mul
unfolding arith_of
returns-in-Mul c = rw (c.in-Mul.is, c.mul.ensures)

pub returns-in-Div : goal.returns-in-Div
unfolding arith_of
returns-in-Div c = rw (c.in-Div.is, c.div.ensures)
