-- One induction over a step's tree, with the predicate open: T says something of a tree, G of a record. Given what holds of each shape of tree (`Shapes`), T holds
-- of all that a step can come to from a record with G. A claim on every step answers the shapes, and no case for an instruction.
use Rattle.std.proofs.Common.{if◌then◌else◌, Option, Some, None}
use Prim.Native.Nat.{ℕ}
use mathlib.Core.Path.{◌≡◌, refl}
use mathlib.Core.Bool.{Bool, true, false}
use mathlib.Core.List.{List}
use lib.Dec.{ltb}
use Rattle.decode.specs.declared.PlainOp.{PlainOp}
use Rattle.decode.specs.declared.SysOp.{SysOp}
use Rattle.decode.specs.declared.SysOp.TheVariants.{Plain, Rti, Bout, Pdir, Spag}
use Rattle.paging.specs.declared.Access.TheVariants.{Read}
use Rattle.paging.specs.declared.Cause.TheVariants.{AddressBeyondMemory}
use Rattle.paging.specs.declared.Fault.{Fault}
use Rattle.paging.specs.declared.TrapCode.{TrapCode}
use Rattle.paging.specs.declared.TrapCode.TheVariants.{Finst, Fmem, Fpriv}
use Rattle.paging.specs.TrapCode.{code_number}
use Rattle.rules.specs.declared.Cpu.{Cpu}
use Rattle.rules.specs.declared.Interrupt.{Interrupt}
use Rattle.rules.specs.declared.Regs.{Regs}
use Rattle.rules.specs.declared.Floats.{Floats}
use Rattle.rules.specs.declared.Stop.TheVariants.{Masked}
use Rattle.rules.specs.Record.{with_regs, with_fault, with_stop, with_floats, put_a}
use Rattle.rules.specs.Tree.{Reply, got, denied, Tree, ask, access}
use Rattle.rules.specs.Outcome.{Out, fine, unfetched, trap, refused, system, floated, undecoded}
use Rattle.rules.specs.Execute.{moved}
use Rattle.rules.specs.Trap.{none as nothing, Final, ended, deliver_tree, trap_tree, next_pc, fault_tree}
use Rattle.rules.specs.System.{computed, returned, or_fault, appended, directed, spag_tree, privileged_tree, system_tree}
use Rattle.rules.specs.Step.{settle_tree, executed_tree, interrupt_tree, due_tree}
use Rattle.rules.proofs.Leaves.{Leaves, at_leaf, leaves_then, leaves_if}

-- ---- what is asked of T and G

pub record Shapes (size console_size : ℕ) (T : Tree Final → Type 0) (G : Cpu → Type 0) : Type 0 where
  -- G is kept where a fault sets vadr and the cause, and where pc moves on
  pub on_fault : (c : Cpu) (f : Fault) → G c → G (with_fault f c)
  pub on_moved : (c : Cpu) → G c → G (with_regs (moved c.regs) c)
  -- the record alone changes: a step that only waits, a stop with 2, a privileged instruction that computes, RTI, a full console
  pub waits : (c : Cpu) → G c → T (ended c)
  pub masks : (c : Cpu) → G c → T (ended (with_stop Masked c))
  pub computes : (c : Cpu) (op : PlainOp) → G c → T (ended (computed size op c))
  pub returns : (c : Cpu) (code pc : ℕ) → G c → T (ended (returned c code pc))
  pub fills : (c : Cpu) → G c → T (ended (put_a 0xffffffff c))
  -- the other ends: BOUT's byte, PDIR and SPAG
  pub prints : (c : Cpu) → G c → ltb c.written console_size ≡ true → T (appended c)
  pub directs : (c : Cpu) → G c → ltb c.regs.a size ≡ true → T (directed c)
  pub pages : (c : Cpu) → G c → T (spag_tree c)
  -- accesses: a fault's or TRAP's frame, stored or not; RTI's reads
  pub delivers : (c : Cpu) (code : TrapCode) (pc : ℕ) → G c → T (deliver_tree c c.clock.pending (code_number code) pc)
  pub reads : {va : ℕ} {rest : Reply → Tree Final} → ((r : Reply) → T (rest r)) → T (ask (access Read 4 va) rest)

-- a choice of two trees, whose test may tell something
choice : (T : Tree Final → Type 0) (b : Bool) {x y : Tree Final} → (b ≡ true → T x) → T y → T (if b then x else y)
choice T true l r = l refl
choice T false l r = r

-- ---- what follows an instruction

module _ {size console_size : ℕ} {T : Tree Final → Type 0} {G : Cpu → Type 0} (shapes : Shapes size console_size T G) where
  -- a trap of any number, where T holds of its delivery, or a stop with 2
  pub numbered_trap : (c : Cpu) (code pc : ℕ) → T (deliver_tree c c.clock.pending code pc) → G c → T (trap_tree c code pc)
  unfolding trap_tree
  numbered_trap c code pc d g = choice T c.system.iena (λ e. d) (shapes.masks c g)

  -- a trap by its code
  pub every_trap : (c : Cpu) (code : TrapCode) (pc : ℕ) → G c → T (trap_tree c (code_number code) pc)
  every_trap c code pc g = numbered_trap c (code_number code) pc (shapes.delivers c code pc g) g

  -- a fault with its address
  pub every_fault : (c : Cpu) (f : Fault) (pc : ℕ) → G c → T (fault_tree c f pc)
  unfolding fault_tree
  every_fault c f pc g = every_trap (with_fault f c) f.code pc (shapes.on_fault c f g)

  -- what follows a reply of RTI's reads
  or_fault_lem : (c : Cpu) {k : ℕ → Tree Final} → G c → ((v : ℕ) → T (k v)) → (r : Reply) → T (or_fault c k r)
  or_fault_lem c g l (got v) = l v
  or_fault_lem c g l (denied f) = every_fault c f (next_pc c) g

  -- each privileged instruction: `old` is the record before the fetch, c has pc moved on
  every_privileged : (op : SysOp) (old c : Cpu) → G old → G c → T (privileged_tree size console_size op old c)
  unfolding privileged_tree
  every_privileged (Plain op) old c o g = shapes.computes c op g
  every_privileged Rti old c o g = shapes.reads (or_fault_lem old o (λ code. shapes.reads (or_fault_lem old o (λ pc. shapes.returns old code pc o))))
  every_privileged Bout old c o g = choice T (ltb c.written console_size) (shapes.prints c g) (shapes.fills c g)
  every_privileged Pdir old c o g =
      choice T (ltb c.regs.a size) (shapes.directs c g) (every_fault old (record { code = Fmem; cause = AddressBeyondMemory; address = c.regs.a }) (next_pc old) o)
  every_privileged Spag old c o g = shapes.pages c g

  -- with their privilege
  pub every_system : (op : SysOp) (c : Cpu) → G c → T (system_tree size console_size op c)
  unfolding system_tree
  every_system op c g =
      choice T c.system.user (λ e. every_trap c Fpriv (next_pc c) g) (every_privileged op c (with_regs (moved c.regs) c) g (shapes.on_moved c g))

-- ---- a whole step, where T claims P of every leaf, and O is known of how the instruction ends

module _ {size console_size : ℕ} {P : Final → Type 0} {G : Cpu → Type 0} (O : Out → Type 0) (shapes : Shapes size console_size (Leaves P) G)
    (completes : (c : Cpu) (r : Regs) (vs : List ℕ) → G c → O (fine r vs) → P (record { cpu = with_regs r c; values = vs; effect = nothing }))
    (floats : (c : Cpu) (r : Regs) (v : Floats) (vs : List ℕ) → G c → O (floated r v vs) → P (record { cpu = with_floats v (with_regs r c); values = vs; effect = nothing })) where
  -- whatever the instruction came to
  every_settle : (c : Cpu) → G c → (x : Out) → O x → Leaves P (settle_tree size console_size c x)
  unfolding settle_tree
  every_settle c g (fine r vs) o = at_leaf (completes c r vs g o)
  every_settle c g (unfetched f) o = every_fault shapes c f c.regs.pc g
  every_settle c g (trap code) o = every_trap shapes c code (next_pc c) g
  every_settle c g (refused f) o = every_fault shapes c f (next_pc c) g
  every_settle c g (system op) o = every_system shapes op c g
  every_settle c g (floated r v vs) o = at_leaf (floats c r v vs g o)
  every_settle c g (undecoded w) o = every_trap shapes c Finst (next_pc c) g

  -- an interrupt is due, or nothing; c is the record after rules 1 to 3
  pub every_step : (due : Option Interrupt) (c : Cpu) → G c → ((i : Interrupt) → due ≡ Some i → Leaves P (interrupt_tree i c)) → Leaves O (executed_tree c)
      → Leaves P (due_tree due size console_size c)
  unfolding due_tree
  every_step (Some i) c g delivers l = delivers i refl
  every_step None c g delivers l = leaves_if c.system.waiting (shapes.waits c g) (leaves_then (settle_tree size console_size c) l (every_settle c g))
