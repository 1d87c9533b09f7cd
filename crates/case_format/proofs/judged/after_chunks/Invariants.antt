use Rattle.std.proofs.Common.{◌≤◌, length}
use Rattle.case_format.proofs.judged.after_chunks.Given as goal

-- what is left is no longer than what was given
abbrev pub invariant-loop : goal.invariant-loop
invariant-loop l = length l.rest ≤ length l.s
