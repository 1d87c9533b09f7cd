use Rattle.text.proofs.HexLaws.{Filled}
use Rattle.text.proofs.hex.digits_of.Given as goal

-- the digits from the i-th on stand
abbrev pub invariant-loop-i : goal.invariant-loop-i
invariant-loop-i l = Filled l.fn.n l.i l.digits l.rest
