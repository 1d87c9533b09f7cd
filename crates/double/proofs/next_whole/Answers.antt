-- From 2^52 on nothing changes (`next_large`); below it the pattern of the whole number next to the magnitude gets the sign back (`next_small`).
use Rattle.std.proofs.Common.{◌∙◌, arith}
use Rattle.double.proofs.Wholes.{next_large, next_part, next_bound, next_small, next_fits}
use Rattle.double.proofs.next_whole.Goals as goal

pub returns-then-m-ge-TWO_52 : goal.returns-then-m-ge-TWO_52
returns-then-m-ge-TWO_52 c = c.canonical.ensures ∙ next_large _ _ c.if-m-ge-TWO_52.true

pub of_whole-requires : goal.of_whole-requires
of_whole-requires c = omega (arith, next_part _ c.if-m-ge-TWO_52.false c.whole-n.ensures)

pub of_whole-requires-2 : goal.of_whole-requires-2
of_whole-requires-2 c =
    next_bound _ c.if-m-ge-TWO_52.false c.whole-n.ensures c.args.away c.of_whole.result

pub overflow_add-n : goal.overflow_add-n
overflow_add-n c =
    let most = next_bound _ c.if-m-ge-TWO_52.false c.whole-n.ensures c.args.away c.of_whole.result in
    record { fits = omega arith }

pub returns : goal.returns
returns c =
    next_small _ c.if-m-ge-TWO_52.false c.whole-n.ensures c.args.away c.of_whole.ensures c.of_whole-2.ensures (omega arith)

pub overflow_add-result : goal.overflow_add-result
overflow_add-result c =
    record { fits = next_fits _ c.if-m-ge-TWO_52.false c.whole-n.ensures c.args.away c.of_whole.ensures c.of_whole-2.ensures (omega arith) }
