-- A turn writes one more number after those before it (`putting_on`), for which there is room (`putting_room`); past the last all are written.
use Rattle.encoding.proofs.Numbers.{putting_start, putting_room, putting_on}
use Rattle.encoding.proofs.put_numbers.Goals as goal

pub loop-i-init : goal.loop-i-init
loop-i-init c = putting_start

pub put_number-requires : goal.put_number-requires
put_number-requires c = putting_room c.loop-i.invariant c.loop-i-test.true c.requires.1

pub loop-i-preserved : goal.loop-i-preserved
loop-i-preserved c =
    putting_on c.loop-i.invariant c.loop-i-test.true c.requires.0 c.put_number.ensures
