-- Document 01, "One step": an instruction's tree and the rest of the step is, in code, the instruction's answer and the rest of the step from it.
use Prim.Native.Nat.{ℕ}
use mathlib.Core.List.{List, []}
use mathlib.Core.Path.{◌≡◌, refl, ap, ◌∙◌}
use Rattle.paging.specs.declared.TrapCode.TheVariants.{Finst}
use Rattle.mmu.specs.Translates.{Kept, Result, translator}
use Rattle.rules.specs.declared.Cpu.{Cpu}
use Rattle.rules.specs.Tree.{Tree, bind, Grant, store_all, interpret}
use Rattle.rules.specs.Outcome.{Out, fine, unfetched, trap, refused, system, floated, undecoded}
use Rattle.rules.specs.Trap.{next_pc}
use Rattle.rules.specs.Step.{State, finished, settle_tree}
use Rattle.contracts.specs.Contract.{made_by, made}
use Rattle.contracts.proofs.Trees.{bind_law}
use Rattle.rules.proofs.StepTree.{every_trap, every_fault, every_system}
use Rattle.system.proofs.OlderGrants.{ends, run, fresh_shapes}

module _ (size console_size : ℕ) (c : Cpu) (con : List ℕ) where
  -- the rest of a step, from the code's answer
  abbrev rest : Result Out → State Kept
  rest d = run c con (settle_tree size console_size c d.answer) d.mem d.buffer []

  settle_by : (o : Out) (gs : List Grant) (m : List ℕ) (es : Kept) → run c con (settle_tree size console_size c o) m es gs ≡ rest (made_by o gs m es)
  unfolding settle_tree made_by interpret finished store_all
  settle_by (fine r vs) gs m es = refl
  settle_by (unfetched f) gs m es = (every_fault (fresh_shapes c con size console_size) c f c.regs.pc tt).fresh m es gs
  settle_by (trap code) gs m es = (every_trap (fresh_shapes c con size console_size) c code (next_pc c) tt).fresh m es gs
  settle_by (refused f) gs m es = (every_fault (fresh_shapes c con size console_size) c f (next_pc c) tt).fresh m es gs
  settle_by (system op) gs m es = (every_system (fresh_shapes c con size console_size) op c tt).fresh m es gs
  settle_by (floated r v vs) gs m es = refl
  settle_by (undecoded w) gs m es = (every_trap (fresh_shapes c con size console_size) c Finst (next_pc c) tt).fresh m es gs

  -- an instruction's tree and the rest, from any memory and buffer
  pub settle_law : (t : Tree Out) (m : List ℕ) (es : Kept)
      → run c con (bind t (settle_tree size console_size c)) m es [] ≡ rest (made (interpret translator c.space c.system.user t m es []))
  unfolding finished
  settle_law t m es =
      let e = interpret translator c.space c.system.user t m es [] in
      ap (ends c con) (bind_law translator c.space c.system.user (settle_tree size console_size c) t m es []) ∙ settle_by e.leaf e.grants e.mem e.buffer
