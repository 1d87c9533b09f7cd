-- A denied write refuses the instruction (`floats_denied`); an answered one lies in memory with its eight bytes (`eight_within`), and what is stored there is
-- the leaf's (`floats_stored`).
use Rattle.floating.proofs.EightBytes.{eight_within}
use Rattle.contracts.proofs.FloatLaws.{floats_denied, floats_stored}
use Rattle.floating.proofs.write_double.Goals as goal

pub returns-in_default-clause-executes : goal.returns-in_default-clause-executes
returns-in_default-clause-executes c =
    floats_denied c.translate_double-p.ensures.answer c.in_default.is c.fault_of.ensures c.ended.ensures

pub store_bytes-requires-clause-within : goal.store_bytes-requires-clause-within
store_bytes-requires-clause-within c =
    eight_within c.args.bus.now.good c.translate_double-p.ensures.answer c.in-Ok.is

pub returns-clause-executes : goal.returns-clause-executes
returns-clause-executes c =
    floats_stored c.translate_double-p.ensures.answer c.in-Ok.is c.fine.ensures c.store_bytes.ensures
