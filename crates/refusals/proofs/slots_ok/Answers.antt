-- An entry fails by its numbers (`entry_fails`) or by its page, found again after it (`page_twice`); else it passes: the page was searched for
-- (`entry_searched`), or no entry after it has one of its remainder (`entry_new`).
use native.Mathlib.Omega.{arith}
use mathlib.Core.Path.{refl, sym, ◌∙◌}
use borrow.Author.Rules.{rules}
use Rattle.refusals.proofs.Turns.{Passed, slots_many, none_passed, all_passed, entry_fails, page_twice, entry_searched, entry_new}
use Rattle.refusals.proofs.slots_ok.Goals as goal
use Rattle.refusals.proofs.slots_ok.Goals.{else-seen-k-via-then-seen-k+else-has_page, else-seen-k-via-else-seen-k}

pub returns-then-m-gt64 : goal.returns-then-m-gt64
returns-then-m-gt64 c = slots_many _ _ _ (omega (arith, c.if-m-gt64.true))

pub loop-i-init : goal.loop-i-init
loop-i-init c = (c.well_formed.0.1.1.1.0.1.0.1, (search rules, none_passed _ _ _ _ _ _ refl))

pub bounds-m-i : goal.bounds-m-i
bounds-m-i c = omega (arith, c.loop-i.invariant.1.0, c.loop-i.invariant.1.1.least)

pub returns-then-not-entry_ok : goal.returns-then-not-entry_ok
returns-then-not-entry_ok c =
    entry_fails _ _ _ _ _ _ c.loop-i.invariant.1.1 c.loop-i-test.true c.entry_ok.ensures c.if-not-entry_ok.true

pub has_page-requires : goal.has_page-requires
has_page-requires c =
    c.loop-i.invariant.1.0

pub returns-then-has_page : goal.returns-then-has_page
returns-then-has_page c =
    page_twice _ _ _ _ _ _ c.loop-i.invariant.1.1 c.loop-i-test.true c.entry_ok.ensures c.if-not-entry_ok.false
    (sym c.has_page.ensures ∙ c.if-has_page.true)

pub loop-i-preserved : goal.loop-i-preserved
loop-i-preserved c =
    let passed : Passed _ _ _ _ _ _ _ =
    elim c.else-seen-k.branch [
      | else-seen-k-via-then-seen-k+else-has_page w ↦
          entry_searched _ _ _ _ _ _ c.loop-i.invariant.1.1 c.loop-i-test.true c.entry_ok.ensures c.if-not-entry_ok.false (sym w.has_page.ensures ∙ w.if-has_page.false)
      | else-seen-k-via-else-seen-k w ↦ entry_new _ _ _ _ _ _ c.loop-i.invariant.1.1 c.loop-i-test.true c.entry_ok.ensures c.if-not-entry_ok.false w.if-seen-k.false
    ]
    in
    (c.loop-i.invariant.0, (c.loop-i.invariant.1.0, passed))

pub returns : goal.returns
returns c = all_passed _ _ _ _ _ _ c.loop-i.invariant.1.1 c.loop-i-test.false
