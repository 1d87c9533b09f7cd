-- A NaN operand gives the NaN (`patterns`, `add_strict`); else the operation is the definition's (`over_numbers`).
use Rattle.std.proofs.Common.{rules}
use Rattle.double.specs.Arithmetic.{sum_of}
use Rattle.double.proofs.Nan.{add_strict, patterns, over_numbers}
use Rattle.double.proofs.add.Goals as goal

pub returns : goal.returns
unfolding sum_of
returns c = over_numbers c.args.x c.args.y (patterns add_strict) _ _ _ c.numbers.ensures c.map_or.ensures (λ q k. search rules)
