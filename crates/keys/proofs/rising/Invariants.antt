use Rattle.std.proofs.Common.{◌≡◌}
use lib.ListN.{drop}
use Rattle.rules.specs.Run.{keys_rise}
use Rattle.keys.proofs.rising.Given as goal

-- None has fallen so far, so that the keys from the i-th on, after the step number `last`, decide of all.
abbrev pub invariant-loop-i : goal.invariant-loop-i
invariant-loop-i g l = keys_rise l.last (drop l.i (g.L.KeyList.keys l.keys)) ≡ keys_rise 0 (g.L.KeyList.keys l.keys)
