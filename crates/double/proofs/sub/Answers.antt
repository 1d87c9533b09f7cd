-- A NaN operand gives the NaN (`patterns`, `sub_strict`); else the operation is the definition's (`over_numbers`).
use Rattle.std.proofs.Common.{rules}
use Rattle.double.specs.Arithmetic.{difference_of}
use Rattle.double.proofs.Nan.{sub_strict, patterns, over_numbers}
use Rattle.double.proofs.sub.Goals as goal

pub returns : goal.returns
unfolding difference_of
returns c = over_numbers c.args.x c.args.y (patterns sub_strict) _ _ _ c.numbers.ensures c.map_or.ensures (λ q k. search rules)
