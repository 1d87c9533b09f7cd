-- The write below sp is denied (`executes_denied`), or lies in memory (`at_within`) and is the leaf's (`executes_written`), with sp and pc set.
use Rattle.contracts.proofs.Laws.{executes_denied, executes_written}
use Rattle.rules.specs.Transfer.{push_tree}
use Rattle.mmu.proofs.Laws.{at_within}
use Rattle.memory.specs.declared.Size.TheVariants.{Word}
use Rattle.transfer.proofs.push.Goals as goal

pub returns-in_default-clause-executes : goal.returns-in_default-clause-executes
unfolding push_tree
returns-in_default-clause-executes c =
    rw (← c.difference-top.ensures) (executes_denied c.translate-p.ensures.answer c.in_default.is c.refused.ensures)

pub store-requires : goal.store-requires
store-requires c =
    at_within Word c.args.bus.now.good c.translate-p.ensures.answer c.in-Ok.is

pub returns-clause-executes : goal.returns-clause-executes
unfolding push_tree
returns-clause-executes c =
    rw (← c.difference-top.ensures) (executes_written c.translate-p.ensures.answer c.in-Ok.is (rw (c.fine.ensures, c.regs.ensures)) c.store.ensures)
