-- A step by rules 4 and 5: an interrupt is due and delivered, the machine waits, or one instruction of the machine's mode is made and settled.
use native.Mathlib.Omega.{arith}
use mathlib.Core.Path.{refl, ap, ◌∙◌}
use Rattle.paging.specs.TrapCode.{code_number}
use Rattle.machine.proofs.StepLaws.{good_ticked, good_awake, step_due, step_waits, step_executes, step_executes_old}
use Rattle.machine.proofs.BurstSteps.{old_end}
use Rattle.machine.proofs.step.Goals as goal

pub deliver-requires : goal.deliver-requires
deliver-requires c =
    good_awake _ _ c.tick-t.ensures c.requires.good c.awake.ensures

pub returns-in-Some : goal.returns-in-Some
returns-in-Some c =
    step_due _ _ c.tick-t.ensures c.due_trap.ensures c.in-Some.is c.cleared-left.ensures (c.code_number-code.ensures ∙ ap code_number c.from.ensures) c.awake.ensures (c.deliver.ensures _)

pub returns-then-t : goal.returns-then-t
returns-then-t c =
    step_waits _ _ c.tick-t.ensures c.due_trap.ensures c.in_default.is c.if-t.true refl (good_ticked _ _ c.tick-t.ensures c.requires.good)

pub floating_burst-b-requires : goal.floating_burst-b-requires
floating_burst-b-requires c =
    record { good = (c.requires.good, omega arith); doubles_value = c.if-c.true }

pub settle-requires : goal.settle-requires
settle-requires c =
    rw c.with_floats-x.ensures (good_ticked _ _ c.tick-t.ensures c.floating_burst-b.ensures.good)

pub shape_of-mem-then-c : goal.shape_of-mem-then-c
shape_of-mem-then-c c =
    omega (arith, c.floating_burst-b.auto.mem, c.settle.auto.mem)

pub returns-then-c : goal.returns-then-c
returns-then-c c =
    let end = rw (c.with_floats-x.ensures, c.ended-d.ensures) at c.settle.ensures in
    step_executes _ _ c.tick-t.ensures c.due_trap.ensures c.in_default.is c.if-t.false c.floating_burst-b.auto.mem c.floating_burst-b.ensures end

pub settle-requires-2 : goal.settle-requires-2
settle-requires-2 c =
    good_ticked _ _ c.tick-t.ensures (c.instructions-b.ensures c.args.c refl refl refl).good

pub returns : goal.returns
returns c =
    let end = old_end _ _ _ _ c.if-c.false c.instructions-b.auto.mem (c.instructions-b.ensures c.args.c refl refl refl) in
    step_executes_old _ _ c.tick-t.ensures c.due_trap.ensures c.in_default.is c.if-t.false c.instructions-b.auto.mem end c.settle-2.ensures
