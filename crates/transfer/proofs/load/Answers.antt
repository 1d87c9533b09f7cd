-- A denied read refuses the instruction (`executes_denied`); an answered one lies in memory (`at_within`), and the tree goes on with what is read there
-- (`executes_read`), to a leaf with the register set and nothing stored (`executes_fine`).
use mathlib.Core.Path.{refl}
use Rattle.contracts.proofs.Laws.{executes_denied, executes_read, executes_fine}
use Rattle.rules.specs.Transfer.{load_tree}
use Rattle.mmu.proofs.Laws.{at_within}
use Rattle.transfer.proofs.load.Goals as goal

pub returns-in_default-clause-executes : goal.returns-in_default-clause-executes
unfolding load_tree
returns-in_default-clause-executes c =
    rw (← c.size-s.ensures, ← c.base.ensures, ← c.sum-va.ensures) (executes_denied c.translate-p.ensures.answer c.in_default.is c.refused.ensures)

pub value-v-requires : goal.value-v-requires
value-v-requires c =
    rw (c.bytes.ensures, ← c.size-s.ensures) (at_within c.size-s.result c.args.bus.now.good c.translate-p.ensures.answer c.in-Ok.is)

pub returns-clause-executes : goal.returns-clause-executes
unfolding load_tree
returns-clause-executes c =
    rw (← c.size-s.ensures, ← c.base.ensures, ← c.sum-va.ensures)
    (executes_read c.translate-p.ensures.answer c.in-Ok.is refl
    (executes_fine c.translate-p.ensures.answer.good (rw (c.fine.ensures, c.put.ensures, c.value-v.ensures, c.bytes.ensures, c.size-s.ensures))))
