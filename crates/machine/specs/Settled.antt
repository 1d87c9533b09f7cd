-- Document 01, "One step", rule 5, and document 02, item 7: the state after the rest of a step, from how its instruction ended.
use Rattle.std.specs.Prelude.{ℕ, List, [], length}
use Rattle.mmu.specs.Translates.{Kept, Result, translator}
use Rattle.rules.specs.declared.Cpu.{Cpu}
use Rattle.rules.specs.Tree.{interpret}
use Rattle.rules.specs.Outcome.{Out}
use Rattle.rules.specs.Step.{State, further_tree, settle_tree, finished}
use Rattle.contracts.specs.Contract.{made}

-- c is the record before the fetch, with the step counted; o is the instruction's answer, with memory and entries; size is the length of memory
-- an instruction's end in the machine's mode, from its end by document 01's table
unfoldable pub furthered : Cpu → Result Out → Result Out
unfolding further_tree
furthered c o = made (interpret translator c.space c.system.user (further_tree c o.answer) o.mem o.buffer [])

-- the rest of the step, from the former
unfoldable pub completed : (size : ℕ) → Cpu → (con : List ℕ) → Result Out → State Kept
unfolding settle_tree finished
completed size c con o =
    finished translator c.regs.count c.space c.written con
    (interpret translator c.space c.system.user (settle_tree size (length con) c o.answer) o.mem o.buffer [])

-- and from the latter
unfoldable pub settled : (size : ℕ) → Cpu → (con : List ℕ) → Result Out → State Kept
unfolding furthered completed
settled size c con o = completed size c con (furthered c o)
