-- No quiet step: one step, with its clock event. Else quiet steps in the machine's mode, and their end (`advance_finishes`).
use native.Mathlib.Omega.{arith}
use mathlib.Core.Path.{refl}
use Rattle.machine.proofs.AdvanceLaws.{few, ends_within, advance_step, advance_finishes}
use Rattle.machine.proofs.BurstSteps.{old_end}
use Rattle.machine.proofs.advance.Goals as goal

pub step-x-requires : goal.step-x-requires
step-x-requires c =
    record { good = c.requires.0.good; count_bound = omega (arith, c.requires.0.some, c.requires.0.count); key_fits = c.requires.1 }

pub overflow_sub-result : goal.overflow_sub-result
overflow_sub-result c =
    omega (arith, c.requires.0.some)

pub returns-then-n-eq0 : goal.returns-then-n-eq0
returns-then-n-eq0 c =
    advance_step _ _ _ c.requires.0 c.step-x.ensures c.step-x.auto.mem

pub overflow_add-c : goal.overflow_add-c
overflow_add-c c =
    omega (arith, few _ _ _ c.steps-n.ensures, c.requires.0.count)

pub floating_burst-b-requires : goal.floating_burst-b-requires
floating_burst-b-requires c =
    record { good = (c.requires.0.good, omega arith); doubles_value = c.if-c.true }

pub finish-requires : goal.finish-requires
finish-requires c =
    rw (c.with_floats-x.ensures, c.ended-d.ensures)
    (c.floating_burst-b.ensures.good, ends_within _ _ _ c.steps-n.ensures (omega (arith, c.if-n-eq0.false)) c.floating_burst-b.ensures c.requires.0.count)

pub returns-then-c : goal.returns-then-c
returns-then-c c =
    let end = rw (c.with_floats-x.ensures, c.ended-d.ensures) at c.finish.ensures in
    advance_finishes _ _ _ c.requires.0 c.steps-n.ensures (omega (arith, c.if-n-eq0.false)) c.floating_burst-b.ensures c.floating_burst-b.auto.mem end
    c.finish.auto.mem

pub overflow_add-c-2 : goal.overflow_add-c-2
overflow_add-c-2 c =
    omega (arith, few _ _ _ c.steps-n.ensures, c.requires.0.count)

pub finish-requires-2 : goal.finish-requires-2
finish-requires-2 c =
    let ran = c.instructions-b.ensures c.args.c refl refl refl in
    let end = old_end _ _ _ _ c.if-c.false c.instructions-b.auto.mem ran in
    (ran.good, ends_within _ _ _ c.steps-n.ensures (omega (arith, c.if-n-eq0.false)) end c.requires.0.count)

pub returns : goal.returns
returns c =
    let end = old_end _ _ _ _ c.if-c.false c.instructions-b.auto.mem (c.instructions-b.ensures c.args.c refl refl refl) in
    advance_finishes _ _ _ c.requires.0 c.steps-n.ensures (omega (arith, c.if-n-eq0.false)) end c.instructions-b.auto.mem c.finish-2.ensures c.finish-2.auto.mem
