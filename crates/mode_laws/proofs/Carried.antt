-- Document 02, item 7: the record with another mode, f and g. What follows an instruction, unless that was a floating one, does with such a record what it does with
-- the first, and hands the mode, f and g on: trees whose leaves differ in them alone (`Carried`). A machine comes with such trees to the same end but for them.
use Rattle.std.proofs.Common.{if◌then◌else◌}
use Prim.Native.Nat.{ℕ}
use mathlib.Core.Path.{◌≡◌, refl, ap}
use mathlib.Core.Bool.{Bool, true, false}
use mathlib.Core.List.{List, []}
use lib.Dec.{eqb, ltb}
use Rattle.decode.specs.declared.PlainOp.{PlainOp}
use Rattle.decode.specs.declared.PlainOp.TheVariants.{Halt, Cli, Sti, Bin, Ssp, Ivec, Time, Lvad, Lusp, Susp, Msiz, Idle}
use Rattle.decode.specs.declared.SysOp.{SysOp}
use Rattle.decode.specs.declared.SysOp.TheVariants.{Plain, Rti, Bout, Pdir, Spag}
use Rattle.paging.specs.declared.Fault.{Fault}
use Rattle.paging.specs.declared.Space.{Space}
use Rattle.paging.specs.Translate.{Translator}
use Rattle.paging.specs.declared.Cause.TheVariants.{AddressBeyondMemory}
use Rattle.paging.specs.declared.TrapCode.TheVariants.{Finst, Fmem, Fpriv}
use Rattle.paging.specs.TrapCode.{code_number, USER}
use Rattle.paging.specs.Walk.{bit}
use Rattle.rules.specs.declared.Cpu.{Cpu}
use Rattle.rules.specs.declared.Floats.{Floats}
use Rattle.rules.specs.declared.Model.{Model}
use Rattle.rules.specs.declared.Pending.{Pending}
use Rattle.rules.specs.Record.{with_regs, with_clock, with_fault, with_timeout}
use Rattle.rules.specs.Tree.{Ask, Reply, got, denied, Tree, ask, done, bind, Grant, Ended, after, answered, interpret}
use Rattle.rules.specs.Outcome.{Out, fine, unfetched, trap, refused, system, floated, undecoded}
use Rattle.rules.specs.Execute.{moved}
use Rattle.rules.specs.Trap.{none as nothing, Final, ended, framed, deliver_tree, trap_tree, fault_tree, next_pc}
use Rattle.rules.specs.System.{computed, back_to, returned, or_fault, privileged_tree, system_tree}
use Rattle.rules.specs.Step.{settle_tree}
use Rattle.rules.proofs.Leaves.{Leaves, at_leaf, at_ask}
use Rattle.mode_laws.proofs.Known.{Known}

-- the record with this mode, f and g
abbrev pub in_mode : Model → Floats → Cpu → Cpu
in_mode m v c = record {
  regs = c.regs;
  clock = c.clock;
  vadr = c.vadr;
  space = c.space;
  system = c.system;
  cause = c.cause;
  stop = c.stop;
  written = c.written;
  model = m;
  floats = v;
}

-- the end of a step with them
abbrev final_in : Model → Floats → Final → Final
final_in m v f = record { cpu = in_mode m v f.cpu; values = f.values; effect = f.effect }

abbrev pub ended_in : {B : Type 0} → Model → Floats → Ended B Final → Ended B Final
ended_in m v e = record { leaf = final_in m v e.leaf; mem = e.mem; buffer = e.buffer; grants = e.grants; events = e.events }

module _ (m : Model) (v : Floats) where
  -- the same accesses, and each leaf of the first tree is the second's with this mode, f and g
  pub data Carried : Tree Final → Tree Final → Type 0 where
    leaf : {e f : Final} → e ≡ final_in m v f → Carried (done e) (done f)
    asks : {q : Ask} {k l : Reply → Tree Final} → ((r : Reply) → Carried (k r) (l r)) → Carried (ask q k) (ask q l)

  -- a machine's end
  pub carried_ends : {B : Type 0} (tr : Translator B) (s : Space) (user : Bool) {t u : Tree Final} → Carried t u → (mem : List ℕ) (b : B) (gs : List Grant)
      → interpret tr s user t mem b gs ≡ ended_in m v (interpret tr s user u mem b gs)
  unfolding interpret
  carried_ends tr s user (leaf e) mem b gs = ap (λ x. record { leaf = x; mem = mem; buffer = b; grants = gs; events = [] }) e
  carried_ends tr s user (asks {q = q} h) mem b gs =
      let o = answered tr s user q mem b in
      ap (after o.events) (carried_ends tr s user (h o.answer.reply) o.mem o.buffer _)

  -- a choice of two trees
  pub carried_if : (b : Bool) {t t' u u' : Tree Final} → Carried t t' → Carried u u' → Carried (if b then t else u) (if b then t' else u')
  carried_if true l r = l
  carried_if false l r = r

  -- ---- what follows an instruction

  -- a frame, stored or not
  frame_carried : (c : Cpu) (left : Pending) (code pc : ℕ) (r : Reply) → Carried (framed (in_mode m v c) left code pc r) (framed c left code pc r)
  frame_carried c left code pc (got x) = leaf refl
  frame_carried c left code pc (denied f) = leaf refl

  pub deliver_carried : (c : Cpu) (left : Pending) (code pc : ℕ) → Carried (deliver_tree (in_mode m v c) left code pc) (deliver_tree c left code pc)
  unfolding deliver_tree
  deliver_carried c left code pc = asks (frame_carried c left code pc)

  trap_carried : (c : Cpu) (code pc : ℕ) → Carried (trap_tree (in_mode m v c) code pc) (trap_tree c code pc)
  unfolding trap_tree
  trap_carried c code pc = carried_if c.system.iena (deliver_carried c c.clock.pending code pc) (leaf refl)

  fault_carried : (c : Cpu) (f : Fault) (pc : ℕ) → Carried (fault_tree (in_mode m v c) f pc) (fault_tree c f pc)
  unfolding fault_tree
  fault_carried c f pc = trap_carried (with_fault f c) (code_number f.code) pc

  -- the privileged instructions that compute; TIME does something or nothing
  pub computed_carried : (size : ℕ) (op : PlainOp) (c : Cpu) → computed size op (in_mode m v c) ≡ in_mode m v (computed size op c)
  computed_carried size Halt c = refl
  computed_carried size Cli c = refl
  computed_carried size Sti c = refl
  computed_carried size Bin c = refl
  computed_carried size Ssp c = refl
  computed_carried size Ivec c = refl
  computed_carried size (Time i) c = go (eqb i 0)
    where
      go : (b : Bool) → (if b then in_mode m v (with_clock (with_timeout c.regs.a c.clock) c) else in_mode m v c)
          ≡ in_mode m v (if b then with_clock (with_timeout c.regs.a c.clock) c else c)
      go true = refl
      go false = refl
  computed_carried size Lvad c = refl
  computed_carried size Lusp c = refl
  computed_carried size Susp c = refl
  computed_carried size Msiz c = refl
  computed_carried size Idle c = refl

  -- RTI, back to user mode or not
  back_carried : (b : Bool) (c : Cpu) → back_to b (in_mode m v c) ≡ in_mode m v (back_to b c)
  back_carried true c = refl
  back_carried false c = refl

  pub returned_carried : (c : Cpu) (code pc : ℕ) → returned (in_mode m v c) code pc ≡ in_mode m v (returned c code pc)
  returned_carried c code pc = back_carried (bit USER code) _

  -- a word that RTI reads
  read_carried : (c : Cpu) {k l : ℕ → Tree Final} → ((x : ℕ) → Carried (k x) (l x)) → (r : Reply) → Carried (or_fault (in_mode m v c) k r) (or_fault c l r)
  read_carried c h (got x) = h x
  read_carried c h (denied f) = fault_carried c f (next_pc c)

  -- a record that ends a step
  ended_carried : {x y : Cpu} → x ≡ in_mode m v y → Carried (ended x) (ended y)
  ended_carried e = leaf (ap (λ z. record { cpu = z; values = []; effect = nothing }) e)

  privileged_carried : (size console_size : ℕ) (op : SysOp) (old c : Cpu)
      → Carried (privileged_tree size console_size op (in_mode m v old) (in_mode m v c)) (privileged_tree size console_size op old c)
  unfolding privileged_tree
  privileged_carried size console_size (Plain op) old c = ended_carried (computed_carried size op c)
  privileged_carried size console_size Rti old c = asks (read_carried old (λ code. asks (read_carried old (λ pc. ended_carried (returned_carried old code pc)))))
  privileged_carried size console_size Bout old c = carried_if (ltb c.written console_size) (leaf refl) (leaf refl)
  privileged_carried size console_size Pdir old c =
      carried_if (ltb c.regs.a size) (leaf refl) (fault_carried old (record { code = Fmem; cause = AddressBeyondMemory; address = c.regs.a }) (next_pc old))
  privileged_carried size console_size Spag old c = leaf refl

  system_carried : (size console_size : ℕ) (op : SysOp) (c : Cpu) → Carried (system_tree size console_size op (in_mode m v c)) (system_tree size console_size op c)
  unfolding system_tree
  system_carried size console_size op c =
      carried_if c.system.user (trap_carried c (code_number Fpriv) (next_pc c)) (privileged_carried size console_size op c (with_regs (moved c.regs) c))

  -- whatever the instruction came to, unless it was a floating one
  settle_carried : (illegal : Bool) (size console_size : ℕ) (c : Cpu) (o : Out) → Known illegal o
      → Carried (settle_tree size console_size (in_mode m v c) o) (settle_tree size console_size c o)
  unfolding settle_tree
  settle_carried illegal size console_size c (fine r vs) k = leaf refl
  settle_carried illegal size console_size c (unfetched f) k = fault_carried c f c.regs.pc
  settle_carried illegal size console_size c (trap code) k = trap_carried c (code_number code) (next_pc c)
  settle_carried illegal size console_size c (refused f) k = fault_carried c f (next_pc c)
  settle_carried illegal size console_size c (system op) k = system_carried size console_size op c
  settle_carried illegal size console_size c (floated r x vs) k = absurd k
  settle_carried illegal size console_size c (undecoded w) k = trap_carried c (code_number Finst) (next_pc c)

  -- after every leaf of an instruction's tree
  pub rest_carried : {illegal : Bool} (size console_size : ℕ) (c : Cpu) {t : Tree Out} → Leaves (Known illegal) t
      → Carried (bind t (settle_tree size console_size (in_mode m v c))) (bind t (settle_tree size console_size c))
  unfolding bind
  rest_carried {illegal} size console_size c (at_leaf {a = o} k) = settle_carried illegal size console_size c o k
  rest_carried size console_size c (at_ask h) = asks (λ r. rest_carried size console_size c (h r))
