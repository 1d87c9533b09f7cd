-- The read at sp + imm is denied (`executes_denied`), or lies in memory (`at_within`) and gives the operand (`executes_read`) of the operation
-- (`executes_alu`).
use Rattle.contracts.proofs.Laws.{executes_denied, executes_read}
use Rattle.rules.specs.Arithmetic.{alu_from}
use Rattle.mmu.proofs.Laws.{at_within}
use Rattle.memory.specs.declared.Size.TheVariants.{Word}
use Rattle.execute.proofs.Laws.{executes_alu}
use Rattle.execute.proofs.compute_stack.Goals as goal

pub returns-in_default-clause-executes : goal.returns-in_default-clause-executes
unfolding alu_from
returns-in_default-clause-executes c =
    rw (← c.sum-va.ensures) (executes_denied c.translate-p.ensures.answer c.in_default.is c.refused.ensures)

pub load4-v-requires : goal.load4-v-requires
load4-v-requires c =
    rw c.bytes.ensures (at_within Word c.args.bus.now.good c.translate-p.ensures.answer c.in-Ok.is)

pub returns-clause-executes : goal.returns-clause-executes
unfolding alu_from
returns-clause-executes c =
    rw (← c.sum-va.ensures)
    (executes_read c.translate-p.ensures.answer c.in-Ok.is (rw c.bytes.ensures at c.load4-v.ensures) (executes_alu c.translate-p.ensures.answer.good _ _ _ c.compute.ensures))
