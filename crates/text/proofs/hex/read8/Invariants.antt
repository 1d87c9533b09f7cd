use mathlib.Core.Path.{◌≡◌}
use Rattle.text.specs.Hex.{hex_value}
use Rattle.text.proofs.hex.read8.Given as goal

-- the value is that of the bytes passed
abbrev pub invariant-loop-x : goal.invariant-loop-x
invariant-loop-x l = l.value ≡ hex_value l.x-index l.line l.at
