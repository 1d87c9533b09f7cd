use Rattle.std.proofs.Common.{◌≡◌, length}
use Rattle.case_format.proofs.printed.Line.numbers.Given as goal

-- the line's bytes are as many as before
abbrev pub invariant-loop-n : goal.invariant-loop-n
invariant-loop-n l = length l.self.bytes.now ≡ length l.fn.self.bytes.now
