use Rattle.encoding.proofs.Numbers.{Putting}
use Rattle.encoding.proofs.put_numbers.Given as goal

-- The first i numbers were written, each in its width, and there is room for the others.
abbrev pub invariant-loop-i : goal.invariant-loop-i
invariant-loop-i l = Putting l.ws l.numbers l.initial.file l.i l.file
