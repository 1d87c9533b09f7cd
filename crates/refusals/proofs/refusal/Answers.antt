-- One law of `Order` a return: the tests before it passed and its own failed, so that its number is the lowest; after all six the run is accepted.
use Rattle.refusals.proofs.Order.{bad_size, bad_registers, bad_buffer, bad_keys, bad_console, bad_budget, accepted}
use borrow.Author.Tests.{lt-leb, le-leb}
use mathlib.Core.Path.{sym, ◌∙◌}
use Rattle.refusals.proofs.refusal.Goals as goal

pub returns-then-not-size_ok : goal.returns-then-not-size_ok
returns-then-not-size_ok c = bad_size _ _ _ _ _ _ (sym c.size_ok.ensures ∙ c.if-not-size_ok.true)

pub returns-then-not-registers_ok : goal.returns-then-not-registers_ok
returns-then-not-registers_ok c =
    bad_registers _ _ _ _ _ _ (sym c.size_ok.ensures ∙ c.if-not-size_ok.false) (sym c.registers_ok.ensures ∙ c.if-not-registers_ok.true)

pub returns-then-not-slots_ok : goal.returns-then-not-slots_ok
returns-then-not-slots_ok c =
    bad_buffer _ _ _ _ _ _ (sym c.size_ok.ensures ∙ c.if-not-size_ok.false) (sym c.registers_ok.ensures ∙ c.if-not-registers_ok.false)
    (sym c.slots_ok.ensures ∙ c.if-not-slots_ok.true)

pub returns-then-not-rising-m : goal.returns-then-not-rising-m
returns-then-not-rising-m c =
    bad_keys _ _ _ _ _ _ (sym c.size_ok.ensures ∙ c.if-not-size_ok.false) (sym c.registers_ok.ensures ∙ c.if-not-registers_ok.false)
    (sym c.slots_ok.ensures ∙ c.if-not-slots_ok.false) c.if-not-rising-m.true

pub returns-then-not-m-capacity : goal.returns-then-not-m-capacity
returns-then-not-m-capacity c =
    bad_console _ _ _ _ _ _ (sym c.size_ok.ensures ∙ c.if-not-size_ok.false) (sym c.registers_ok.ensures ∙ c.if-not-registers_ok.false) (sym c.slots_ok.ensures ∙ c.if-not-slots_ok.false)
    c.if-not-rising-m.false (lt-leb _ _ c.if-not-m-capacity.true)

pub returns-then-not-budget : goal.returns-then-not-budget
returns-then-not-budget c =
    bad_budget _ _ _ _ _ _ (sym c.size_ok.ensures ∙ c.if-not-size_ok.false) (sym c.registers_ok.ensures ∙ c.if-not-registers_ok.false) (sym c.slots_ok.ensures ∙ c.if-not-slots_ok.false)
    c.if-not-rising-m.false (le-leb _ _ c.if-not-m-capacity.false) (lt-leb _ _ c.if-not-budget.true)

pub returns : goal.returns
returns c =
    accepted _ _ _ _ _ _ (sym c.size_ok.ensures ∙ c.if-not-size_ok.false) (sym c.registers_ok.ensures ∙ c.if-not-registers_ok.false) (sym c.slots_ok.ensures ∙ c.if-not-slots_ok.false)
    c.if-not-rising-m.false (le-leb _ _ c.if-not-m-capacity.false) (le-leb _ _ c.if-not-budget.false)
