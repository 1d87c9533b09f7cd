-- The slot at hand has the page (`page_here`), or the page is searched for after it (`page_next`), to the last counted slot (`page_nowhere`).
use mathlib.Core.Path.{sym}
use Rattle.refusals.proofs.Turns.{page_here, page_next, page_nowhere}
use Rattle.refusals.proofs.has_page.Goals as goal

pub returns-then-slots-i : goal.returns-then-slots-i
returns-then-slots-i c =
    sym (page_here _ _ c.well_formed.0.1.0.1 c.requires _ _ c.loop-i.invariant c.loop-i-test.true c.if-slots-i.true)

pub loop-i-preserved : goal.loop-i-preserved
loop-i-preserved c =
    page_next _ _ c.well_formed.0.1.0.1 c.requires _ _ c.loop-i.invariant c.loop-i-test.true c.if-slots-i.false

pub returns : goal.returns
returns c = sym (page_nowhere _ _ c.well_formed.0.1.0.1 c.requires _ _ c.loop-i.invariant c.loop-i-test.false)
