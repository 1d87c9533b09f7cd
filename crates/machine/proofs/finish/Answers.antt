-- The two ends of `Finished`: each is what the code leaves there.
use native.Mathlib.Omega.{arith}
use mathlib.Core.Path.{refl}
use Rattle.machine.proofs.finish.Goals as goal

pub raise_count-requires : goal.raise_count-requires
raise_count-requires c =
    omega (arith, (c.requires.1.early c.in_default.not-Ok).0, c.requires.1.small)

pub after-y-requires : goal.after-y-requires
after-y-requires c =
    rw c.raise_count.ensures (c.requires.1.early c.in_default.not-Ok).1

pub settle-x-requires : goal.settle-x-requires
settle-x-requires c =
    rw c.after-y.ensures c.requires.0

pub overflow_sub-result : goal.overflow_sub-result
overflow_sub-result c =
    c.requires.1.later

pub overflow_sub-result-in_default : goal.overflow_sub-result-in_default
overflow_sub-result-in_default c =
    omega (arith, (c.requires.1.early c.in_default.not-Ok).0, c.requires.1.few)

pub overflow_sub-result-in_default-2 : goal.overflow_sub-result-in_default-2
overflow_sub-result-in_default-2 c =
    omega (arith, (c.requires.1.early c.in_default.not-Ok).0, c.requires.1.few, c.requires.1.later)

pub returns-in_default : goal.returns-in_default
returns-in_default c =
    record { all = λ e. absurd (c.in_default.not-Ok e); early = λ _. (refl, rw (c.after-y.ensures, c.raise_count.ensures) at c.settle-x.ensures) }

pub after-x-requires : goal.after-x-requires
after-x-requires c = c.requires.1.all c.in-Ok.is

pub returns : goal.returns
returns c = record { all = λ _. (rw c.after-x.ensures, (refl, (refl, refl))); early = λ u. absurd (u c.in-Ok.is) }
