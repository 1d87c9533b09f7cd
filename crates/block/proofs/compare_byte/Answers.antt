-- `block::compare_byte` asks for the byte at b and then for that at a, as the tree of MCMP does; each of its ends is an end of that tree.
use Rattle.contracts.proofs.Laws.{executes_denied, executes_read, executes_fine}
use Rattle.rules.specs.Block.{byte_tree}
use Rattle.mmu.proofs.Laws.{at_within, same_access}
use Rattle.memory.specs.declared.Size.TheVariants.{Byte}
use Rattle.block.proofs.compare_byte.Goals as goal

pub returns-in_default-clause-executes : goal.returns-in_default-clause-executes
unfolding byte_tree
returns-in_default-clause-executes c = search executes_denied

pub load1-x-requires : goal.load1-x-requires
load1-x-requires c =
    rw c.bytes.ensures (at_within Byte c.args.bus.now.good c.translate-p.ensures.answer c.in-Ok.is)

pub returns-in_default-q-clause-executes : goal.returns-in_default-q-clause-executes
unfolding byte_tree
returns-in_default-q-clause-executes c =
    executes_read c.translate-p.ensures.answer c.in-Ok.is (rw c.bytes.ensures at c.load1-x.ensures)
    (executes_denied (same_access c.translate-p.ensures.bus c.translate-q.ensures.answer) c.in_default-q.is c.refused-in_default-q.ensures)

pub load1-y-requires : goal.load1-y-requires
load1-y-requires c =
    rw c.bytes-2.ensures (at_within Byte c.translate-p.ensures.answer.good (same_access c.translate-p.ensures.bus c.translate-q.ensures.answer) c.in-Ok-q.is)

pub returns-clause-executes : goal.returns-clause-executes
unfolding byte_tree
returns-clause-executes c =
    executes_read c.translate-p.ensures.answer c.in-Ok.is (rw c.bytes.ensures at c.load1-x.ensures)
    (executes_read (same_access c.translate-p.ensures.bus c.translate-q.ensures.answer) c.in-Ok-q.is (rw c.bytes-2.ensures at c.load1-y.ensures)
    (executes_fine (same_access c.translate-p.ensures.bus c.translate-q.ensures.answer).good (rw (c.fine.ensures, c.compared.ensures))))
