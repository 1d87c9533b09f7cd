-- A denied read refuses the instruction (`floats_denied`); an answered one lies in memory with its eight bytes (`eight_within`), and what is read there
-- (`floats_read`) goes to the register (`floats_fine`).
use Rattle.floating.proofs.EightBytes.{eight_within}
use Rattle.contracts.proofs.FloatLaws.{floats_denied, floats_read, floats_fine}
use Rattle.floating.proofs.read_double.Goals as goal

pub returns-in_default-clause-executes : goal.returns-in_default-clause-executes
returns-in_default-clause-executes c =
    floats_denied c.translate_double-p.ensures.answer c.in_default.is c.fault_of.ensures c.ended.ensures

pub load8-y-requires : goal.load8-y-requires
load8-y-requires c =
    rw c.bytes.ensures (eight_within c.args.bus.now.good c.translate_double-p.ensures.answer c.in-Ok.is)

pub returns-clause-executes : goal.returns-clause-executes
returns-clause-executes c =
    floats_read c.translate_double-p.ensures.answer c.in-Ok.is (rw c.bytes.ensures at c.load8-y.ensures) (floats_fine c.translate_double-p.ensures.answer.good (rw (c.fine.ensures, c.put.ensures)))
