-- A turn reads one more number (`getting_on`), which lies in the file (`getting_room`); past the last all are read (`getting_end`).
use Rattle.encoding.proofs.Numbers.{getting_room, getting_on, getting_end}
use Rattle.encoding.proofs.numbers_at.Goals as goal

pub number_at-requires : goal.number_at-requires
number_at-requires c = getting_room c.loop-i.invariant c.loop-i-test.true c.requires.1

pub loop-i-preserved : goal.loop-i-preserved
loop-i-preserved c =
    getting_on c.loop-i.invariant c.loop-i-test.true c.number_at.ensures c.bytes-p.ensures

pub returns : goal.returns
returns c = getting_end c.loop-i.invariant c.loop-i-test.false
