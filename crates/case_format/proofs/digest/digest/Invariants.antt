use Rattle.std.proofs.Common.{◌<◌}
use Rattle.case_format.proofs.digest.digest.Given as goal

-- Both numbers are small enough for `mixed`, and chunks are still to be had.
abbrev pub invariant-loop-bytes : goal.invariant-loop-bytes
invariant-loop-bytes l =
    (goal.iterator-loop-bytes).can_next l.bytes-iterator
    × (goal.iterator-loop-bytes).is_finite l.bytes-iterator
    × (l.x < 4294967357)
    × (l.y < 4294967357)
