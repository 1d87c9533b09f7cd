-- A NaN operand gives the NaN (`patterns`, `div_strict`); else the operation is the definition's (`over_numbers`).
use Rattle.std.proofs.Common.{rules}
use Rattle.double.specs.Arithmetic.{quotient_of}
use Rattle.double.proofs.Nan.{div_strict, patterns, over_numbers}
use Rattle.double.proofs.div.Goals as goal

pub returns : goal.returns
unfolding quotient_of
returns c = over_numbers c.args.x c.args.y (patterns div_strict) _ _ _ c.numbers.ensures c.map_or.ensures (λ q k. search rules)
