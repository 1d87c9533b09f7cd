-- The digits of the quotient with the last one are those of the number (`decimal_more`); below ten there is one digit (`decimal_digit`).
use native.Mathlib.Omega.{arith}
use Rattle.text.proofs.Laws.{decimal_digit, decimal_more, quotient_short, adds_then, adds_as}
use Rattle.text.proofs.Writer.+decimal.Goals as goal

pub returns-then-n-lt10 : goal.returns-then-n-lt10
returns-then-n-lt10 t c = adds_as (decimal_digit _ c.if-n-lt10.true) c.digit.ensures

pub digit-requires-2 : goal.digit-requires-2
digit-requires-2 t c =
    let a = c.decimal.ensures in
    (omega (arith, a.written.end, a.size, quotient_short c.args.n (omega arith)), omega arith)

pub returns : goal.returns
returns t c =
    adds_as (decimal_more c.args.n (omega arith) c.if-n-lt10.false) (adds_then c.decimal.ensures c.digit-2.ensures)
