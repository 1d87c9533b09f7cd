-- One law a way: in the place of the same page's entry (`keep_same`), alone where 64 are held (`keep_first`), else after the others (`keep_next`).
use Rattle.std.proofs.Common.{arith, length-set}
use Rattle.buffer.proofs.Keeping.{keep_same, keep_first, keep_next}
use Rattle.buffer.proofs.keep.Goals as goal

pub returns-then-i-n : goal.returns-then-i-n
returns-then-i-n c =
    keep_same _ _ c.requires.0 c.requires.1 (omega arith)

pub returns-then-n-eq64 : goal.returns-then-n-eq64
returns-then-n-eq64 c =
    keep_first _ _ c.requires.0 c.requires.1 (omega arith) (omega arith)

pub returns-else-n-eq64 : goal.returns-else-n-eq64
returns-else-n-eq64 c =
    keep_next _ _ c.requires.0 c.requires.1 (omega arith) c.count-n.ensures (omega arith)

pub bounds-tlb-64 : goal.bounds-tlb-64
bounds-tlb-64 c = simp length-set (omega arith)
