use Rattle.encoding.proofs.Numbers.{Getting}
use Rattle.encoding.proofs.numbers_at.Given as goal

-- The first i numbers are those of the file, and fit their widths; the others stand in the file from p on.
abbrev pub invariant-loop-i : goal.invariant-loop-i
invariant-loop-i l = Getting l.ws l.file l.at l.i l.numbers l.p
