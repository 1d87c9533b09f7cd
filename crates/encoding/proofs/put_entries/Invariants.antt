use Rattle.encoding.proofs.Entries.{Putting}
use Rattle.encoding.proofs.put_entries.Given as goal

-- The first i slots were written.
abbrev pub invariant-loop-i : goal.invariant-loop-i
invariant-loop-i l = Putting l.slots l.initial.file l.i l.file
