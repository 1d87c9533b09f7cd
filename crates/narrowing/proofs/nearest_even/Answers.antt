-- The unit is 2 ^ k (`in_units`), and the two tests are those of `closest`. What is raised by one is below n (`rise`).
use native.Mathlib.Omega.{arith}
use native.Mathlib.Nat.{le_antisymm}
use Rattle.narrowing.proofs.Unit.{in_units, unit_pos, twice_fits, rise}
use Rattle.narrowing.proofs.Closest.{below_half, above_half, at_half}
use Rattle.narrowing.proofs.nearest_even.Goals as goal

pub nonzero_div-whole : goal.nonzero_div-whole
nonzero_div-whole c = unit_pos c.args.n c.args.k c.ranges.n c.requires

pub nonzero_rem-twice : goal.nonzero_rem-twice
nonzero_rem-twice c = unit_pos c.args.n c.args.k c.ranges.n c.requires

pub overflow_mul-twice : goal.overflow_mul-twice
overflow_mul-twice c = twice_fits c.args.n c.args.k c.ranges.n c.requires

pub returns-then-twice-unit : goal.returns-then-twice-unit
returns-then-twice-unit c =
    in_units c.args.n c.args.k c.ranges.n c.requires (below_half _ _ c.if-twice-unit.true)

pub overflow_add-result : goal.overflow_add-result
overflow_add-result c =
    omega (arith, rise c.args.n c.args.k c.ranges.n c.requires c.if-twice-unit.false)

pub returns-then-unit-twice : goal.returns-then-unit-twice
returns-then-unit-twice c =
    in_units c.args.n c.args.k c.ranges.n c.requires (above_half _ _ c.if-unit-twice.true)

pub overflow_add-result-2 : goal.overflow_add-result-2
overflow_add-result-2 c =
    omega (arith, rise c.args.n c.args.k c.ranges.n c.requires c.if-twice-unit.false)

pub returns : goal.returns
returns c =
    in_units c.args.n c.args.k c.ranges.n c.requires (at_half _ _ (le_antisymm c.if-unit-twice.false c.if-twice-unit.false))
