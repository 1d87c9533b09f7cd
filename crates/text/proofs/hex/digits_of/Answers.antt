-- A turn writes the digit before those that stand (`filled_on`); with the first all eight do (`filled_end`).
use native.Mathlib.Omega.{arith}
use Rattle.text.proofs.HexLaws.{filled_start, filled_on, filled_end}
use Rattle.text.proofs.hex.digits_of.Goals as goal

pub loop-i-init : goal.loop-i-init
loop-i-init c = filled_start _ (omega arith)

pub loop-i-preserved : goal.loop-i-preserved
loop-i-preserved c = filled_on c.loop-i.invariant (omega arith) (omega arith) c.digit_byte.ensures

pub returns : goal.returns
returns c = filled_end c.loop-i.invariant (omega arith)
