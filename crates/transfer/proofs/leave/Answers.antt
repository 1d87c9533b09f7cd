-- The read at sp is denied (`executes_denied`), or lies in memory (`at_within`) and gives the word (`executes_read`); the leaf sets pc and sp
-- (`executes_fine`).
use Rattle.contracts.proofs.Laws.{executes_denied, executes_read, executes_fine}
use Rattle.rules.specs.Jump.{leave_tree}
use Rattle.mmu.proofs.Laws.{at_within}
use Rattle.memory.specs.declared.Size.TheVariants.{Word}
use Rattle.transfer.proofs.leave.Goals as goal

pub returns-in_default-clause-executes : goal.returns-in_default-clause-executes
unfolding leave_tree
returns-in_default-clause-executes c = search executes_denied

pub load4-v-requires : goal.load4-v-requires
load4-v-requires c =
    rw c.bytes.ensures (at_within Word c.args.bus.now.good c.translate-p.ensures.answer c.in-Ok.is)

pub returns-clause-executes : goal.returns-clause-executes
unfolding leave_tree
returns-clause-executes c =
    executes_read c.translate-p.ensures.answer c.in-Ok.is (rw c.bytes.ensures at c.load4-v.ensures)
    (executes_fine c.translate-p.ensures.answer.good (rw (c.fine.ensures, c.regs.ensures, c.sum-s.ensures, c.sum.ensures)))
