use Rattle.encoding.specs.Entries.{slots_in}
use mathlib.Core.Path.{◌≡◌}
use Rattle.encoding.proofs.slots_at.Given as goal

-- The first i slots are the entries in the file, the others are zero.
abbrev pub invariant-loop-i : goal.invariant-loop-i
invariant-loop-i l = l.slots ≡ slots_in l.i l.file l.at
