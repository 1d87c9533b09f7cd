-- A NaN operand gives false (`lt_strict`); else the comparison is the definition's (`over_numbers`).
use Rattle.std.proofs.Common.{rules}
use lib.Ieee.{lt}
use Rattle.double.specs.Comparison.{less}
use Rattle.double.proofs.Nan.{lt_strict, over_numbers}
use Rattle.double.proofs.less.Goals as goal

pub returns : goal.returns
unfolding less lt
returns c = over_numbers c.args.x c.args.y lt_strict _ _ _ c.numbers.ensures c.is_some_and.ensures (λ q k. search rules)
