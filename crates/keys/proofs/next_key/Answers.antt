-- Where a key is left it is the next (`next_some`); past the last there is none (`next_none`).
use Rattle.std.proofs.Common.{sym}
use native.Mathlib.Omega.{arith}
use Rattle.keys.proofs.Laws.{next_some, next_none}
use Rattle.keys.proofs.next_key.Goals as goal

pub returns-then-taken-count : goal.returns-then-taken-count
returns-then-taken-count g c = sym (next_some _ _ (omega arith) c.key.ensures)

pub returns-else-taken-count : goal.returns-else-taken-count
returns-else-taken-count g c = sym (next_none _ _ (omega arith))
