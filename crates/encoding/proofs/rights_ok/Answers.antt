-- The rights of the entry at hand fail (`rights_fail`), or those after it decide (`rights_on`), to the last (`rights_end`).
use Rattle.encoding.proofs.Entries.{rights_fail, rights_on, rights_end}
use Rattle.encoding.proofs.rights_ok.Goals as goal

pub returns-then-not-rights_are : goal.returns-then-not-rights_are
returns-then-not-rights_are c =
    rights_fail _ _ _ _ c.loop-i-test.true c.rights_are.ensures c.if-not-rights_are.true c.loop-i.invariant

pub loop-i-preserved : goal.loop-i-preserved
loop-i-preserved c =
    rights_on _ _ _ _ c.loop-i-test.true c.rights_are.ensures c.if-not-rights_are.false c.loop-i.invariant

pub returns : goal.returns
returns c = rights_end _ _ _ _ c.loop-i-test.false c.loop-i.invariant
