-- A denied write refuses the instruction (`floats_denied`); an answered one lies in memory (`at_within`), and f, narrowed, is the leaf's store
-- (`floats_stored`).
use Rattle.memory.specs.declared.Size.TheVariants.{Word}
use Rattle.mmu.proofs.Laws.{at_within}
use Rattle.contracts.proofs.FloatLaws.{floats_denied, floats_stored}
use Rattle.floating.proofs.write_single.Goals as goal

pub returns-in_default-clause-executes : goal.returns-in_default-clause-executes
returns-in_default-clause-executes c =
    floats_denied c.translate-p.ensures.answer c.in_default.is c.fault_of.ensures c.ended.ensures

pub store_bytes-requires-clause-within : goal.store_bytes-requires-clause-within
store_bytes-requires-clause-within c =
    at_within Word c.args.bus.now.good c.translate-p.ensures.answer c.in-Ok.is

pub returns-clause-executes : goal.returns-clause-executes
returns-clause-executes c =
    floats_stored c.translate-p.ensures.answer c.in-Ok.is c.fine.ensures (rw (← c.narrow.ensures) c.store_bytes.ensures)
