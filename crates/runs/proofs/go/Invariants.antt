use Rattle.runs.proofs.Loop.{Turn}
use lib.ListN.{length}
use mathlib.Core.Path.{◌≡◌}
use Rattle.runs.proofs.go.Given as goal

-- What is lent has its lengths still; x with n steps left is reached from c with `left`, and the run's end is the same from there (`Turn`).
abbrev pub invariant-loop-n : goal.invariant-loop-n
invariant-loop-n l = (length l.mem ≡ length l.initial.mem) × ((length l.console ≡ length l.initial.console)
    × ((length l.tlb ≡ length l.initial.tlb) × Turn l.c l.left l.next l.initial.mem l.initial.console l.initial.tlb l.x l.n l.mem l.console l.tlb))

abbrev pub decreases-loop-n : goal.decreases-loop-n
decreases-loop-n l = l.n
