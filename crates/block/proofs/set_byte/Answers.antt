-- The write at a is denied (`executes_denied`), or lies in memory (`at_within`) and is the leaf's (`executes_written`), with the registers moved on.
use Rattle.contracts.proofs.Laws.{executes_denied, executes_written}
use Rattle.rules.specs.Block.{byte_tree}
use Rattle.mmu.proofs.Laws.{at_within}
use Rattle.memory.specs.declared.Size.TheVariants.{Byte}
use Rattle.block.proofs.set_byte.Goals as goal

pub returns-in_default-clause-executes : goal.returns-in_default-clause-executes
unfolding byte_tree
returns-in_default-clause-executes c =
    executes_denied c.translate-p.ensures.answer c.in_default.is c.refused.ensures

pub store-requires : goal.store-requires
store-requires c =
    at_within Byte c.args.bus.now.good c.translate-p.ensures.answer c.in-Ok.is

pub returns-clause-executes : goal.returns-clause-executes
unfolding byte_tree
returns-clause-executes c =
    executes_written c.translate-p.ensures.answer c.in-Ok.is (rw (c.fine.ensures, c.again.ensures)) c.store.ensures
