-- The definition, opened, over what the kind of access ensures: the rights are bits of the number.
use Rattle.std.proofs.Common.{◌≡◌, ◌/◌, arith}
use Rattle.paging.specs.Buffer.{serves}
use Rattle.paging.specs.Walk.{bit}
use Rattle.buffer.proofs.serves.Goals as goal

pub returns : goal.returns
unfolding serves bit
returns c =
    let lowest : c.args.e / 1 ≡ c.args.e = omega arith in
    rw (lowest, c.writes.ensures)
