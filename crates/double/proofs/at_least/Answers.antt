-- A NaN operand gives false (`ge_strict`); else the comparison is the definition's (`over_numbers`).
use Rattle.std.proofs.Common.{rules}
use lib.Ieee.{le}
use Rattle.double.specs.Comparison.{at_least}
use Rattle.double.proofs.Nan.{ge_strict, over_numbers}
use Rattle.double.proofs.at_least.Goals as goal

pub returns : goal.returns
unfolding at_least le
returns c = over_numbers c.args.x c.args.y ge_strict _ _ _ c.numbers.ensures c.is_some_and.ensures (λ q k. search rules)
