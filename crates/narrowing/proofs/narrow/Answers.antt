-- A law of `Narrowed` for each return. The last sum fits, since fewer than 2 ^ 24 units are added to the sign (`few_units`).
use native.Mathlib.Omega.{arith}
use Rattle.narrowing.proofs.Narrowed.{single_nan, single_bounded, single_zero, single_subnormal, few_units}
use Rattle.narrowing.proofs.narrow.Goals as goal

pub returns-then-magnitude-gt9218868437227405312 : goal.returns-then-magnitude-gt9218868437227405312
returns-then-magnitude-gt9218868437227405312 c = single_nan c.args.x c.if-magnitude-gt9218868437227405312.true

pub returns-then-field-ge897 : goal.returns-then-field-ge897
returns-then-field-ge897 c =
    rw c.min.ensures (single_bounded c.ranges.x.fits c.if-field-ge897.true c.if-magnitude-gt9218868437227405312.false c.nearest_even-rounded.ensures)

pub returns-then-field-lt873 : goal.returns-then-field-lt873
returns-then-field-lt873 c = single_zero c.ranges.x.fits c.if-field-lt873.true

pub returns : goal.returns
returns c =
    single_subnormal c.ranges.x.fits c.if-field-ge897.false c.if-field-lt873.false c.nearest_even.ensures

pub overflow_add-result-2 : goal.overflow_add-result-2
overflow_add-result-2 c =
    omega (arith, few_units c.ranges.x.fits c.if-field-ge897.false c.nearest_even.ensures)

pub overflow_cast-result-2 : goal.overflow_cast-result-2
overflow_cast-result-2 c =
    omega (arith, few_units c.ranges.x.fits c.if-field-ge897.false c.nearest_even.ensures)
