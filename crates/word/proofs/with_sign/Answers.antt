-- A magnitude and its negation make a multiple of 2^32 (`negated`).
use mathlib.Core.Path.{refl}
use Rattle.word.specs.Magnitude.{with_sign}
use Rattle.word.proofs.SignBit.{negated}
use Rattle.word.proofs.with_sign.Goals as goal

pub returns-then-minus : goal.returns-then-minus
returns-then-minus c = rw c.if-minus.true (negated c.args.m c.wrapping_neg.type_inv c.ranges.m.fits c.wrapping_neg.ensures)

pub returns-else-minus : goal.returns-else-minus
unfolding with_sign
returns-else-minus c = rw c.if-minus.false refl
