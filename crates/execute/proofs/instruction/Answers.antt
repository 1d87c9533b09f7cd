-- A denied fetch ends the instruction (`executes_no_fetch`); else the word read is decoded and executed, with pc and step count moved on
-- (`executes_fetched`).
use Rattle.contracts.proofs.Laws.{executes_same}
use Rattle.mmu.proofs.Laws.{at_within}
use Rattle.memory.specs.declared.Size.TheVariants.{Word}
use Rattle.execute.proofs.Laws.{executes_no_fetch, executes_fetched}
use Rattle.execute.proofs.instruction.Goals as goal

pub returns-in_default-clause-executes : goal.returns-in_default-clause-executes
returns-in_default-clause-executes c =
    executes_no_fetch _ c.translate-p.ensures.answer c.in_default.is c.fault_of.ensures c.ended.ensures

pub load4-w-requires : goal.load4-w-requires
load4-w-requires c =
    rw c.bytes.ensures (at_within Word c.args.bus.now.good c.translate-p.ensures.answer c.in-Ok.is)

pub returns-clause-executes : goal.returns-clause-executes
returns-clause-executes c =
    executes_fetched _ c.translate-p.ensures.answer c.in-Ok.is (rw c.bytes.ensures at c.load4-w.ensures) c.decode-i.ensures
    (rw (← c.sum.ensures) (rw c.regs-n.ensures at (executes_same c.translate-p.ensures.bus c.execute.ensures.executes)))
