-- A denied read refuses the instruction (`floats_denied`); an answered one lies in memory (`at_within`), and what is read there (`floats_read`), widened, goes
-- to the register (`floats_fine`).
use Rattle.memory.specs.declared.Size.TheVariants.{Word}
use Rattle.mmu.proofs.Laws.{at_within}
use Rattle.contracts.proofs.FloatLaws.{floats_denied, floats_read, floats_fine}
use Rattle.floating.proofs.read_single.Goals as goal

pub returns-in_default-clause-executes : goal.returns-in_default-clause-executes
returns-in_default-clause-executes c =
    floats_denied c.translate-p.ensures.answer c.in_default.is c.fault_of.ensures c.ended.ensures

pub load4-requires : goal.load4-requires
load4-requires c =
    rw c.bytes.ensures (at_within Word c.args.bus.now.good c.translate-p.ensures.answer c.in-Ok.is)

pub returns-clause-executes : goal.returns-clause-executes
returns-clause-executes c =
    floats_read c.translate-p.ensures.answer c.in-Ok.is (rw c.bytes.ensures at c.load4.ensures)
    (floats_fine c.translate-p.ensures.answer.good (rw (c.fine.ensures, c.put.ensures, c.widen-y.ensures)))
