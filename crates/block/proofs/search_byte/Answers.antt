-- The read at a is denied (`executes_denied`), or lies in memory (`at_within`) and gives the byte (`executes_read`); the leaf has the registers that the
-- search leaves (`executes_fine`).
use Rattle.contracts.proofs.Laws.{executes_denied, executes_read, executes_fine}
use Rattle.rules.specs.Block.{byte_tree}
use Rattle.mmu.proofs.Laws.{at_within}
use Rattle.memory.specs.declared.Size.TheVariants.{Byte}
use Rattle.block.proofs.search_byte.Goals as goal

pub returns-in_default-clause-executes : goal.returns-in_default-clause-executes
unfolding byte_tree
returns-in_default-clause-executes c =
    executes_denied c.translate-p.ensures.answer c.in_default.is c.refused.ensures

pub load1-x-requires : goal.load1-x-requires
load1-x-requires c =
    rw c.bytes.ensures (at_within Byte c.args.bus.now.good c.translate-p.ensures.answer c.in-Ok.is)

pub returns-clause-executes : goal.returns-clause-executes
unfolding byte_tree
returns-clause-executes c =
    executes_read c.translate-p.ensures.answer c.in-Ok.is (rw c.bytes.ensures at c.load1-x.ensures)
    (executes_fine c.translate-p.ensures.answer.good (rw (c.fine.ensures, c.searched.ensures)))
