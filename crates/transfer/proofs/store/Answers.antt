-- A denied write refuses the instruction (`executes_denied`); an answered one lies in memory (`at_within`), and what is stored there is the leaf's
-- (`executes_written`).
use Rattle.contracts.proofs.Laws.{executes_denied, executes_written}
use Rattle.rules.specs.Transfer.{store_tree}
use Rattle.mmu.proofs.Laws.{at_within}
use Rattle.transfer.proofs.store.Goals as goal

pub returns-in_default-clause-executes : goal.returns-in_default-clause-executes
unfolding store_tree
returns-in_default-clause-executes c =
    rw (← c.base.ensures, ← c.sum-va.ensures) (executes_denied c.translate-p.ensures.answer c.in_default.is c.refused.ensures)

pub store-requires : goal.store-requires
store-requires c =
    at_within c.args.s c.args.bus.now.good c.translate-p.ensures.answer c.in-Ok.is

pub returns-clause-executes : goal.returns-clause-executes
unfolding store_tree
returns-clause-executes c =
    rw (← c.base.ensures, ← c.sum-va.ensures) (executes_written c.translate-p.ensures.answer c.in-Ok.is c.fine.ensures c.store.ensures)
