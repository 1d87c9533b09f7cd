-- The divisor's magnitude is not 0 (`magnitude_pos`); the magnitudes' remainder with the dividend's sign is the rule's (`remainder_signs`).
use Rattle.word.proofs.Magnitudes.{magnitude_pos, remainder_signs}
use Rattle.word.proofs.remainder.Goals as goal

pub nonzero_rem-r : goal.nonzero_rem-r
nonzero_rem-r c =
    rw c.magnitude-2.ensures (magnitude_pos c.args.y c.ranges.y.fits c.requires)

pub returns : goal.returns
returns c =
    rw (c.with_sign.ensures, c.negative.ensures, c.magnitude.ensures, c.magnitude-2.ensures)
    (remainder_signs c.args.x c.args.y)
