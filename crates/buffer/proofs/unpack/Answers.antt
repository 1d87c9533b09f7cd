-- Each field is the definition's, with the test of a bit opened.
use Rattle.std.proofs.Common.{◌≡◌, ◌/◌, arith}
use Rattle.paging.specs.Walk.{bit}
use Rattle.buffer.proofs.unpack.Goals as goal

pub returns : goal.returns
unfolding bit
returns c =
    let lowest : c.args.e / 1 ≡ c.args.e = omega arith in
    rw lowest
