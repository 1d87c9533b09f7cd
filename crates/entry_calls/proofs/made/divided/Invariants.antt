use Rattle.entry_calls.proofs.made.divided.Given as goal

abbrev pub decreases-loop-left : goal.decreases-loop-left
decreases-loop-left g l = l.left
