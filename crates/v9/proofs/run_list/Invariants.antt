use Rattle.v9.proofs.UnderWay.{Continues}
use lib.ListN.{length}
use mathlib.Core.Path.{◌≡◌}
use Rattle.v9.proofs.run_list.Given as goal

-- Memory and console have their lengths still, and the run under way r is one from the record that was given (`Continues`).
abbrev pub invariant-loop-g : goal.invariant-loop-g
invariant-loop-g g l = (length l.mem ≡ length l.initial.mem)
    × ((length l.console ≡ length l.initial.console) × Continues (g.L.KeyList.keys l.keys) l.budget l.initial.g.ran.machine l.initial.mem l.initial.console l.g l.mem l.console)

abbrev pub decreases-loop-g : goal.decreases-loop-g
decreases-loop-g g l = l.g.left
