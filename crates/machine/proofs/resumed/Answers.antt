-- A floating instruction that was found ahead is under way below the limit (`floating_next`), and none is at it (`none_left`); else the loop is entered.
use Rattle.machine.proofs.ResumedLaws.{floating_next, none_left}
use Rattle.machine.proofs.resumed.Goals as goal

pub returns-then-s-limit : goal.returns-then-s-limit
returns-then-s-limit c =
    rw c.ended.ensures (floating_next _ _ _ _ _ _ c.requires.0 c.look_ahead-a.ensures c.in-Some.is c.if-s-limit.true)

pub returns : goal.returns
returns c =
    rw c.fine.ensures (none_left _ _ _ _ _ _ c.requires.0 c.requires.1 c.if-s-limit.false)
