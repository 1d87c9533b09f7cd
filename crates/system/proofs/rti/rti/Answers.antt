-- One law of `Returning.antt` for each `return`: the code cannot be read, pc cannot be read, or both are. What the bus leaves in memory and buffer the caller gets back
-- (`rules`).
use borrow.Author.Rules.{rules}
use Rattle.memory.specs.declared.Size.TheVariants.{Word}
use Rattle.mmu.proofs.Laws.{at_within, same_access}
use Rattle.system.proofs.Returning.{rti_first, rti_second, rti_both}
use Rattle.system.proofs.rti.rti.Goals as goal

pub fault-requires : goal.fault-requires
fault-requires c = search (rules, c.translate-p.ensures.answer.good)

pub returns-in_default : goal.returns-in_default
returns-in_default c =
    λ con. rti_first _ c.translate-p.ensures.answer c.in_default.is c.fault_of.ensures c.next_pc.ensures (search (rules, c.fault.ensures con))

pub load4-code-requires : goal.load4-code-requires
load4-code-requires c =
    rw c.bytes.ensures (at_within Word c.requires c.translate-p.ensures.answer c.in-Ok.is)

pub fault-requires-in_default-q : goal.fault-requires-in_default-q
fault-requires-in_default-q c =
    search (rules, (same_access c.translate-p.ensures.bus c.translate-q.ensures.answer).good)

pub returns-in_default-q : goal.returns-in_default-q
returns-in_default-q c =
    λ con. rti_second _ c.translate-p.ensures.answer c.sum.ensures c.in-Ok.is (rw c.bytes.ensures at c.load4-code.ensures)
    (same_access c.translate-p.ensures.bus c.translate-q.ensures.answer) c.in_default-q.is c.fault_of-in_default-q.ensures c.next_pc-in_default-q.ensures
    (search (rules, c.fault-in_default-q.ensures con))

pub load4-pc-requires : goal.load4-pc-requires
load4-pc-requires c =
    rw c.bytes-2.ensures (at_within Word c.translate-p.ensures.answer.good (same_access c.translate-p.ensures.bus c.translate-q.ensures.answer) c.in-Ok-q.is)

pub returns : goal.returns
returns c =
    λ con. search (
      rules,
      rti_both c.args.c {con = con} c.translate-p.ensures.answer c.sum.ensures c.in-Ok.is (rw c.bytes.ensures at c.load4-code.ensures)
          (same_access c.translate-p.ensures.bus c.translate-q.ensures.answer) c.in-Ok-q.is (rw c.bytes-2.ensures at c.load4-pc.ensures) c.returned.ensures,
    )
