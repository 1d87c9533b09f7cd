-- Document 01, "Traps", and document 02, items 1 and 4: delivery, and the stops. c is the record before the fetch or delivery: its count is raised, and a
-- denied access has set vadr and the cause.
use Rattle.std.specs.Prelude.{ℕ, false, List, [], ◌∷◌, if◌then◌else◌}
use Rattle.word.specs.Word.{sum, difference}
use Rattle.paging.specs.declared.Space.{Space}
use Rattle.paging.specs.declared.Fault.{Fault}
use Rattle.paging.specs.TrapCode.{code_number, USER}
use Rattle.rules.specs.declared.Stop.TheVariants.{Masked, NoFrame}
use Rattle.rules.specs.declared.Cpu.{Cpu}
use Rattle.rules.specs.declared.Pending.{Pending}
use Rattle.rules.specs.Record.{with_sp, with_pc, with_regs, with_system, with_stop, with_fault, with_usp, with_user, with_iena, put_pending}
use Rattle.rules.specs.Tree.{Reply, got, denied, Tree, ask, done, slots}

-- what a step does beyond the record and memory: nothing; PDIR or SPAG set the address space; a trap frame is delivered, with its code; a byte goes
-- to the console
pub data Effect : Type 0 where
  none : Effect
  set_space : Space → Effect
  deliver : ℕ → Effect
  print : ℕ → Effect

-- the end of a step: the record, the values stored, the effect
pub record Final : Type 0 where
  pub cpu : Cpu
  pub values : List ℕ
  pub effect : Effect

abbrev pub final : Cpu → List ℕ → Effect → Tree Final
final c vs e = done (record { cpu = c; values = vs; effect = e })

-- the record changes, and nothing else
abbrev pub ended : Cpu → Tree Final
ended c = final c [] none

-- the stack of the trap: "from user mode usp = sp, sp = ksp"
abbrev pub kernel_sp : Cpu → ℕ
kernel_sp c = if c.system.user then c.system.ksp else c.regs.sp

-- "16 is added from user mode"
abbrev pub code_of : Cpu → ℕ → ℕ
code_of c code = if c.system.user then sum code USER else code

abbrev pub saved_usp : Cpu → ℕ
saved_usp c = if c.system.user then c.regs.sp else c.system.usp

-- "from user mode usp = sp, sp = ksp, user = 0 .. Then sp falls by 16, iena = 0, pc = ivec"
abbrev pub entered : Cpu → Cpu
entered c =
    with_regs (with_pc c.system.ivec (with_sp (difference (kernel_sp c) 16) c.regs))
    (with_system (with_usp (saved_usp c) (with_user false (with_iena false c.system))) c)

-- left is what a delivery leaves pending. A stop "leaves registers, user, iena and pc as before the fetch or delivery"; document 02: "a stop with 3 keeps" the mark
abbrev pub framed : Cpu → Pending → ℕ → ℕ → Reply → Tree Final
framed c left code pc (got x) = final (entered (put_pending left c)) (pc ∷ code_of c code ∷ []) (deliver code)
framed c left code pc (denied f) = ended (with_stop NoFrame c)

-- "Slots sp-8 (pc) and sp-16 (code) are both translated for kernel writing, in that order, before either is stored; a refusal stops with 3"
unfoldable pub deliver_tree : Cpu → Pending → ℕ → ℕ → Tree Final
deliver_tree c left code pc = ask (slots (difference (kernel_sp c) 8) (difference (kernel_sp c) 16)) (framed c left code pc)

-- "If iena = 0 a fault or TRAP stops with 2"
unfoldable pub trap_tree : Cpu → ℕ → ℕ → Tree Final
unfolding deliver_tree
trap_tree c code pc = if c.system.iena then deliver_tree c c.clock.pending code pc else ended (with_stop Masked c)

-- "The pc stored is the next instruction's for faults in execution and TRAP"
abbrev pub next_pc : Cpu → ℕ
next_pc c = sum c.regs.pc 4

-- a denied access sets vadr and the cause; a refused slot, above, sets neither
unfoldable pub fault_tree : Cpu → Fault → ℕ → Tree Final
unfolding trap_tree
fault_tree c f pc = trap_tree (with_fault f c) (code_number f.code) pc
