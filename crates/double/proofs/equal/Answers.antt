-- A NaN operand gives false (`eq_strict`); else the comparison is the definition's (`over_numbers`).
use Rattle.std.proofs.Common.{rules}
use lib.Ieee.{eq}
use Rattle.double.specs.Comparison.{equals}
use Rattle.double.proofs.Nan.{eq_strict, over_numbers}
use Rattle.double.proofs.equal.Goals as goal

pub returns : goal.returns
unfolding equals eq
returns c = over_numbers c.args.x c.args.y eq_strict _ _ _ c.numbers.ensures c.is_some_and.ensures (λ q k. search rules)
