-- A NaN operand gives the NaN (`patterns`, `mul_strict`); else the operation is the definition's (`over_numbers`).
use Rattle.std.proofs.Common.{rules}
use Rattle.double.specs.Arithmetic.{product_of}
use Rattle.double.proofs.Nan.{mul_strict, patterns, over_numbers}
use Rattle.double.proofs.mul.Goals as goal

pub returns : goal.returns
unfolding product_of
returns c = over_numbers c.args.x c.args.y (patterns mul_strict) _ _ _ c.numbers.ensures c.map_or.ensures (λ q k. search rules)
