-- The divisor's magnitude is not 0 (`magnitude_pos`); the magnitudes' quotient, minus where the signs differ, is the rule's (`quotient_signs`).
use Rattle.word.proofs.Magnitudes.{magnitude_pos, quotient_signs}
use Rattle.word.proofs.quotient.Goals as goal

pub nonzero_div-q : goal.nonzero_div-q
nonzero_div-q c =
    rw c.magnitude-2.ensures (magnitude_pos c.args.y c.ranges.y.fits c.requires)

pub returns : goal.returns
returns c =
    rw (c.with_sign.ensures, c.negative.ensures, c.negative-2.ensures, c.magnitude.ensures, c.magnitude-2.ensures)
    (quotient_signs c.args.x c.args.y)
