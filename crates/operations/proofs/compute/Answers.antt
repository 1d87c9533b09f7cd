-- The match tells the operation, and the arm is its line of `alu_of`; of one that divides, the test for a zero divisor decides (`checked`).
use Rattle.std.proofs.Common.{ne_eqb}
use Rattle.operations.specs.Computed.{computed}
use Rattle.operations.proofs.Divided.{checked}
use Rattle.operations.proofs.compute.Goals as goal

pub returns-in-Add : goal.returns-in-Add
unfolding computed
returns-in-Add c = rw (c.in-Add.is, c.sum.ensures)

pub returns-in-Sub : goal.returns-in-Sub
unfolding computed
returns-in-Sub c = rw (c.in-Sub.is, c.difference.ensures)

pub returns-in-Mul : goal.returns-in-Mul
unfolding computed
returns-in-Mul c = rw (c.in-Mul.is, c.product.ensures)

pub returns-in-Shl : goal.returns-in-Shl
unfolding computed
returns-in-Shl c = rw (c.in-Shl.is, c.shift_left.ensures)

pub returns-in-Shr : goal.returns-in-Shr
unfolding computed
returns-in-Shr c = rw (c.in-Shr.is, c.shift_right.ensures)

pub returns-in-Sru : goal.returns-in-Sru
unfolding computed
returns-in-Sru c = rw (c.in-Sru.is, c.shift_right_unsigned.ensures)

pub returns-in-And : goal.returns-in-And
unfolding computed
returns-in-And c = rw c.in-And.is

pub returns-in-Or : goal.returns-in-Or
unfolding computed
returns-in-Or c = rw c.in-Or.is

pub returns-in-Xor : goal.returns-in-Xor
unfolding computed
returns-in-Xor c = rw c.in-Xor.is

pub returns-in-Dvu : goal.returns-in-Dvu
unfolding computed
returns-in-Dvu c = rw c.in-Dvu.is (checked _ _ _ c.checked_div.ensures)

pub returns-in-Mdu : goal.returns-in-Mdu
unfolding computed
returns-in-Mdu c = rw c.in-Mdu.is (checked _ _ _ c.checked_rem.ensures)

pub returns-then-y-eq0 : goal.returns-then-y-eq0
unfolding computed
returns-then-y-eq0 c = rw (c.in-Div.is, c.if-y-eq0.true)

pub returns-else-y-eq0 : goal.returns-else-y-eq0
unfolding computed
returns-else-y-eq0 c = rw (c.in-Div.is, ne_eqb _ 0 c.if-y-eq0.false, c.quotient.ensures)

pub returns-then-y-eq0-2 : goal.returns-then-y-eq0-2
unfolding computed
returns-then-y-eq0-2 c = rw (c.in-Mod.is, c.if-y-eq0-2.true)

pub returns-else-y-eq0-2 : goal.returns-else-y-eq0-2
unfolding computed
returns-else-y-eq0-2 c = rw (c.in-Mod.is, ne_eqb _ 0 c.if-y-eq0-2.false, c.remainder.ensures)
