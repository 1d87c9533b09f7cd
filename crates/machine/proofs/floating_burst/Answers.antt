-- The loop goes on from where document 01's table ended (`paused_start`): a floating instruction that ends well is one step more (`float_go`), one that does not ends the
-- loop (`float_early`), and so does every other end (`paused_end`).
use native.Mathlib.Omega.{arith}
use mathlib.Core.Path.{refl}
use borrow.Author.Rules.{rules}
use Rattle.machine.proofs.BurstSteps.{paused_start, paused_end, undecoded_below, float_early, float_go}
use Rattle.machine.specs.Burst.{reached}
use Rattle.machine.proofs.floating_burst.Goals as goal

pub instructions-first-requires : goal.instructions-first-requires
instructions-first-requires c =
    c.requires.good

pub loop-e-init : goal.loop-e-init
loop-e-init c =
    (refl, (refl, ((c.instructions-first.ensures c.args.c refl refl refl).good, λ m l p. p)))

pub returns-in_default : goal.returns-in_default
returns-in_default c =
    let p = c.loop-e.invariant.1.1.1 _ _ (paused_start _ _ _ _ c.instructions-first.auto.mem (c.instructions-first.ensures c.args.c refl refl refl)) in
    paused_end _ _ _ _ p (λ _. c.in_default.not-Undecoded)

pub fetched-requires : goal.fetched-requires
fetched-requires c =
    let p = c.loop-e.invariant.1.1.1 _ _ (paused_start _ _ _ _ c.instructions-first.auto.mem (c.instructions-first.ensures c.args.c refl refl refl)) in
    omega (arith, undecoded_below p c.in-Undecoded.is, c.ranges)

pub shape_of-mem-in_default-end : goal.shape_of-mem-in_default-end
shape_of-mem-in_default-end c =
    omega (arith, c.loop-e.invariant.0, c.instructions-first.auto.mem, c.instruction-d.ensures.bus.size)

pub shape_of-tlb-in_default-end : goal.shape_of-tlb-in_default-end
shape_of-tlb-in_default-end c =
    search (rules, c.instruction-d.ensures.executes.good.buffer.size, c.requires.good.0.buffer.size)

pub returns-in_default-end : goal.returns-in_default-end
returns-in_default-end c =
    let p = c.loop-e.invariant.1.1.1 _ _ (paused_start _ _ _ _ c.instructions-first.auto.mem (c.instructions-first.ensures c.args.c refl refl refl)) in
    search (
      rules,
      float_early _ _ _ _ p c.in-Undecoded.is c.requires.doubles_value (rw c.fetched.ensures at c.instruction-d.ensures.executes) c.in_default-end.not-Ok,
    )

pub overflow_add-n : goal.overflow_add-n
overflow_add-n c =
    let p = c.loop-e.invariant.1.1.1 _ _ (paused_start _ _ _ _ c.instructions-first.auto.mem (c.instructions-first.ensures c.args.c refl refl refl)) in
    omega (arith, undecoded_below p c.in-Undecoded.is, c.ranges)

pub resumed-b-requires : goal.resumed-b-requires
resumed-b-requires c =
    let p = c.loop-e.invariant.1.1.1 _ _ (paused_start _ _ _ _ c.instructions-first.auto.mem (c.instructions-first.ensures c.args.c refl refl refl)) in
    (search (rules, c.instruction-d.ensures.executes.good), omega (arith, undecoded_below p c.in-Undecoded.is))

pub loop-e-smaller : goal.loop-e-smaller
loop-e-smaller c =
    let p = c.loop-e.invariant.1.1.1 _ _ (paused_start _ _ _ _ c.instructions-first.auto.mem (c.instructions-first.ensures c.args.c refl refl refl)) in
    let after = c.resumed-b.ensures (reached c.args.c _ c.instruction-d.result.floats) refl refl refl in
    omega (arith, undecoded_below p c.in-Undecoded.is, after.later)

pub loop-e-preserved : goal.loop-e-preserved
loop-e-preserved c =
    let after = c.resumed-b.ensures (reached c.args.c _ c.instruction-d.result.floats) refl refl refl in (
      search (rules, c.loop-e.invariant.0, c.instruction-d.ensures.bus.size, c.resumed-b.auto.mem),
      (
        omega (arith, c.loop-e.invariant.1.0, c.loop-e.invariant.1.1.0.buffer.size, after.good.buffer.size),
        (
          after.good,
          λ m l p.
              float_go _ _ _ _ (c.loop-e.invariant.1.1.1 m l p) c.in-Undecoded.is c.requires.doubles_value (rw c.fetched.ensures at c.instruction-d.ensures.executes) c.in-Ok.is
              c.instruction-d.ensures.bus.size (search (rules, c.resumed-b.auto.mem)) (search (rules, after)),
        ),
      ),
    )
