-- Document 02, item 6, "never more than five in a step": the translations of what follows an instruction, and so of a whole step.
use Rattle.std.proofs.Common.{Option, Some, None}
use Prim.Native.Nat.{ℕ, suc}
use native.Mathlib.Omega.{arith}
use lib.Dec.{ltb}
use Rattle.decode.specs.declared.SysOp.{SysOp}
use Rattle.decode.specs.declared.SysOp.TheVariants.{Plain, Rti, Bout, Pdir, Spag}
use Rattle.paging.specs.declared.Cause.TheVariants.{AddressBeyondMemory}
use Rattle.paging.specs.TrapCode.{code_number}
use Rattle.paging.specs.declared.TrapCode.TheVariants.{Fmem}
use Rattle.paging.specs.declared.Access.TheVariants.{Read}
use Rattle.paging.specs.declared.Fault.{Fault}
use Rattle.rules.specs.declared.Interrupt.{Interrupt}
use Rattle.rules.specs.declared.Key.{Key}
use Rattle.paging.specs.declared.TrapCode.TheVariants.{Finst, Fpriv}
use Rattle.rules.specs.declared.Cpu.{Cpu}
use Rattle.rules.specs.declared.Pending.{Pending}
use Rattle.rules.specs.Record.{with_regs, with_fault}
use Rattle.rules.specs.Tree.{access, Reply, got, denied, Tree, ask, done}
use Rattle.rules.specs.Outcome.{Out, fine, unfetched, trap, refused, system, floated, undecoded}
use Rattle.rules.specs.Execute.{moved}
use Rattle.rules.specs.Trap.{Final, framed, deliver_tree, trap_tree, fault_tree, next_pc}
use Rattle.rules.specs.System.{or_fault, privileged_tree, system_tree}
use Rattle.rules.specs.Clock.{ticked, interrupt_code, due_of, cleared}
use Rattle.rules.specs.Step.{settle_tree, awake, due_tree, step_tree}
use Rattle.walk_bounds.proofs.Within.{Within, within_leaf, within_ask, within_more, within_if, within_then}
use Rattle.walk_bounds.proofs.FiveInstruction.{rest_of}
use Rattle.walk_bounds.proofs.FiveFloating.{executed_within}

-- a tree that ends the step: nothing is left to its leaf
abbrev AtMost : ℕ → Tree Final → Type 0
AtMost n t = Within (λ e. 0) n t

-- it ends
ends_within : {n : ℕ} {e : Final} → AtMost n (done e)
ends_within = within_leaf (omega arith)

-- the two slots of a frame
deliver_within : (c : Cpu) (left : Pending) (code pc : ℕ) → AtMost 2 (deliver_tree c left code pc)
unfolding deliver_tree
deliver_within c left code pc = within_ask 0 (omega arith) go
  where
    go : (r : Reply) → AtMost 0 (framed c left code pc r)
    go (got x) = ends_within
    go (denied f) = ends_within

-- a trap, or a stop with 2
trap_within : (c : Cpu) (code pc : ℕ) → AtMost 2 (trap_tree c code pc)
unfolding trap_tree
trap_within c code pc = within_if c.system.iena (deliver_within c c.clock.pending code pc) ends_within

fault_within : (c : Cpu) (f : Fault) (pc : ℕ) → AtMost 2 (fault_tree c f pc)
unfolding fault_tree
fault_within c f pc = trap_within (with_fault f c) (code_number f.code) pc

-- a word that RTI reads; denied, a frame has two slots
read_within : (c : Cpu) {n va : ℕ} {k : ℕ → Tree Final} → ((v : ℕ) → AtMost (suc (suc n)) (k v)) → AtMost (suc (suc (suc n))) (ask (access Read 4 va) (or_fault c k))
read_within c {n} {k = k} h = within_ask (suc (suc n)) (omega arith) go
  where
    go : (r : Reply) → AtMost (suc (suc n)) (or_fault c k r)
    go (got v) = h v
    go (denied f) = within_more 2 (suc (suc n)) (omega arith) (fault_within c f (next_pc c))

-- each privileged instruction
privileged_within : (size console_size : ℕ) (op : SysOp) (old c : Cpu) → AtMost 4 (privileged_tree size console_size op old c)
unfolding privileged_tree
privileged_within size console_size (Plain op) old c = ends_within
privileged_within size console_size Rti old c = read_within old (λ code. read_within old (λ pc. ends_within))
privileged_within size console_size Bout old c = within_if (ltb c.written console_size) ends_within ends_within
privileged_within size console_size Pdir old c =
    within_if (ltb c.regs.a size) ends_within
    (within_more 2 4 (omega arith) (fault_within old (record { code = Fmem; cause = AddressBeyondMemory; address = c.regs.a }) (next_pc old)))
privileged_within size console_size Spag old c = ends_within

system_within : (size console_size : ℕ) (op : SysOp) (c : Cpu) → AtMost 4 (system_tree size console_size op c)
unfolding system_tree
system_within size console_size op c =
    within_if c.system.user (within_more 2 4 (omega arith) (trap_within c (code_number Fpriv) (next_pc c))) (privileged_within size console_size op c (with_regs (moved c.regs) c))

-- whatever the instruction came to
settle_within : (size console_size : ℕ) (c : Cpu) (x : Out) → AtMost (rest_of x) (settle_tree size console_size c x)
unfolding settle_tree
settle_within size console_size c (fine r vs) = ends_within
settle_within size console_size c (unfetched f) = fault_within c f c.regs.pc
settle_within size console_size c (trap code) = trap_within c (code_number code) (next_pc c)
settle_within size console_size c (refused f) = fault_within c f (next_pc c)
settle_within size console_size c (system op) = system_within size console_size op c
settle_within size console_size c (floated r v vs) = ends_within
settle_within size console_size c (undecoded w) = within_more 2 3 (omega arith) (trap_within c (code_number Finst) (next_pc c))

-- an interrupt is due, or nothing
due_within : (due : Option Interrupt) (size console_size : ℕ) (c : Cpu) → AtMost 5 (due_tree due size console_size c)
unfolding due_tree
due_within (Some i) size console_size c = within_more 2 5 (omega arith) (deliver_within (awake c) (cleared i c.clock.pending) (code_number (interrupt_code i)) c.regs.pc)
due_within None size console_size c =
    within_if c.system.waiting ends_within (within_then 5 (settle_tree size console_size c) (executed_within c) (settle_within size console_size c))

-- a step: fetch, two operands and the two slots of a frame; or fetch, RTI's two reads and the two slots; a floating instruction has one operand
pub step_within : (next : Option Key) (size console_size : ℕ) (c : Cpu) → Within (λ e. 0) 5 (step_tree next size console_size c)
unfolding step_tree
step_within next size console_size c = due_within (due_of (ticked next c)) size console_size (ticked next c)
