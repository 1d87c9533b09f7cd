-- Document 01, "Numbers returned": a step leaves an acceptable record, whatever the replies to its accesses. pc and ivec stay multiples of 4, sp, usp and ksp of 8,
-- pdir a multiple of 4,096 below M; the keys taken stay within the list, and the console count within the console.
use Rattle.std.proofs.Common.{if◌then◌else◌, Option, Some, None, IsSome, get_or, true≢false}
use Prim.Native.Nat.{ℕ, ◌+◌, ◌≤◌, ◌<◌}
use mathlib.Core.Path.{◌≡◌, refl, sym}
use mathlib.Core.Bool.{Bool, true, false}
use mathlib.Core.List.{List, []}
use native.Mathlib.Omega.{arith}
use lib.ListN.{length, length-set}
use lib.Dec.{eqb, ltb}
use borrow.Author.Tests.{ltb-true}
use Rattle.word.specs.Word.{difference, sum, cut}
use Rattle.decode.specs.declared.PlainOp.{PlainOp}
use Rattle.decode.specs.declared.PlainOp.TheVariants.{Halt, Cli, Sti, Bin, Ssp, Ivec, Time, Lvad, Lusp, Susp, Msiz, Idle}
use Rattle.paging.specs.declared.Space.{Space}
use Rattle.paging.specs.TrapCode.{USER}
use Rattle.paging.specs.Translate.{Translator}
use Rattle.paging.specs.Walk.{bit}
use Rattle.rules.specs.declared.Clock.{Clock}
use Rattle.rules.specs.declared.Cpu.{Cpu}
use Rattle.rules.specs.declared.Floats.{Floats}
use Rattle.rules.specs.declared.Interrupt.{Interrupt}
use Rattle.rules.specs.declared.Key.{Key}
use Rattle.rules.specs.declared.Pending.{Pending}
use Rattle.rules.specs.declared.Regs.{Regs}
use Rattle.rules.specs.Record.{set_pc, set_sp, with_regs, with_system, with_iena, with_clock, with_timeout, with_written, with_floats, put_pending}
use Rattle.rules.specs.Tree.{Reply, got, denied, Tree, interpret}
use Rattle.rules.specs.Outcome.{fine, floated}
use Rattle.rules.specs.Execute.{moved}
use Rattle.rules.specs.Trap.{Effect, none as nothing, set_space, deliver, print, Final, ended, entered, framed, deliver_tree}
use Rattle.rules.specs.System.{computed, back_to, returned, appended, directed}
use Rattle.rules.specs.Clock.{next_of, key_comes, keyed, ticked, due_of}
use Rattle.rules.specs.Step.{awake, interrupt_tree, step_tree, State, space_after, console_after, step}
use Rattle.rules.proofs.Leaves.{Leaves, at_leaf, at_ask, leaf_at}
use Rattle.rules.proofs.StepTree.{Shapes, every_step}
use Rattle.rules.proofs.PendingLaws.{timed_pending}
use Rattle.rules.proofs.AcceptableRecord.{Tested, Passes, Directory, Acceptable}
use Rattle.acceptable.proofs.AlignedInstruction.{OutAligned}
use Rattle.acceptable.proofs.AlignedFloating.{executed_aligned}

-- the end of a step from the address space s
pub record FinalAcceptable (size keys console_size : ℕ) (s : Space) (f : Final) : Type 0 where
  pub passes : Passes keys console_size f.cpu
  pub directory : Directory size (space_after s f.effect).pdir

module _ (size keys console_size : ℕ) (s : Space) (d : Directory size s.pdir) where
  -- every leaf of a tree
  abbrev AllAcceptable : Tree Final → Type 0
  AllAcceptable t = Leaves (FinalAcceptable size keys console_size s) t

  -- the record alone changes
  ended_acceptable : {c : Cpu} → Passes keys console_size c → AllAcceptable (ended c)
  unfolding space_after
  ended_acceptable p = at_leaf (record { passes = p; directory = d })

  -- "usp = sp, sp = ksp .. sp falls by 16 .. pc = ivec"
  entered_passes : (c : Cpu) → Passes keys console_size c → Passes keys console_size (entered c)
  entered_passes c p = go c.system.user
    where
      go : (user : Bool)
          → Tested keys console_size c.system.ivec c.system.ivec (difference (if user then c.system.ksp else c.regs.sp) 16)
          (if user then c.regs.sp else c.system.usp) c.system.ksp c.clock.taken c.written
      go true = omega arith
      go false = omega arith

  -- a trap frame, stored or not
  frame_acceptable : (c : Cpu) (left : Pending) (code pc : ℕ) → Passes keys console_size c → (r : Reply) → AllAcceptable (framed c left code pc r)
  unfolding space_after
  frame_acceptable c left code pc p (got x) = at_leaf (record { passes = entered_passes (put_pending left c) p; directory = d })
  frame_acceptable c left code pc p (denied f) = ended_acceptable p

  -- an interrupt's
  interrupt_acceptable : (i : Interrupt) (c : Cpu) → Passes keys console_size c → AllAcceptable (interrupt_tree i c)
  unfolding deliver_tree
  interrupt_acceptable i c p = at_ask (frame_acceptable (awake c) _ _ _ p)

  -- RTI: "ksp = sp, sp = usp"
  back_passes : (b : Bool) (c : Cpu) → Passes keys console_size c → Passes keys console_size (back_to b c)
  back_passes true c p = omega arith
  back_passes false c p = p

  -- "sp rises by 16, iena = 1", and pc is v
  returned_passes : (c : Cpu) (code v : ℕ) → Passes keys console_size c → Passes keys console_size (returned c code v)
  returned_passes c code v p =
      back_passes (bit USER code) (with_regs (set_pc v (set_sp (sum c.regs.sp 16) c.regs)) (with_system (with_iena true c.system) c)) (omega arith)

  -- TIME does something or nothing
  time_passes : (b : Bool) (c : Cpu) → Passes keys console_size c → Passes keys console_size (if b then with_clock (with_timeout c.regs.a c.clock) c else c)
  time_passes true c p = p
  time_passes false c p = p

  -- SSP, SUSP and IVEC drop low bits; the others leave what is tested
  computed_passes : (op : PlainOp) (c : Cpu) → Passes keys console_size c → Passes keys console_size (computed size op c)
  computed_passes Halt c p = p
  computed_passes Cli c p = p
  computed_passes Sti c p = p
  computed_passes Bin c p = p
  computed_passes Ssp c p = omega arith
  computed_passes Ivec c p = omega arith
  computed_passes (Time i) c p = time_passes (eqb i 0) c p
  computed_passes Lvad c p = p
  computed_passes Lusp c p = p
  computed_passes Susp c p = omega arith
  computed_passes Msiz c p = p
  computed_passes Idle c p = p

  -- BOUT, with room
  appended_acceptable : (c : Cpu) → Passes keys console_size c → ltb c.written console_size ≡ true → AllAcceptable (appended c)
  unfolding space_after
  appended_acceptable c p e =
      let room : Passes keys console_size (with_written (c.written + 1) c) = omega (arith, ltb-true c.written console_size e) in
      at_leaf (record { passes = room; directory = d })

  -- PDIR, below M: "low twelve bits drop"
  directed_acceptable : (c : Cpu) → Passes keys console_size c → ltb c.regs.a size ≡ true → AllAcceptable (directed c)
  unfolding space_after
  directed_acceptable c p e =
      let below : Directory size (cut 4096 c.regs.a) = omega (arith, ltb-true c.regs.a size e) in
      at_leaf (record { passes = p; directory = below })

  -- "pc moves 4 on"
  moved_acceptable : (c : Cpu) → Acceptable size keys console_size c → Acceptable size keys console_size (with_regs (moved c.regs) c)
  moved_acceptable c g = record { passes = omega (arith, g.passes); directory = g.directory }

  acceptable : Shapes size console_size AllAcceptable (Acceptable size keys console_size)
  unfolding deliver_tree space_after
  acceptable = record {
    on_fault = λ c address g. record { passes = g.passes; directory = g.directory };
    on_moved = λ c g. moved_acceptable c g;
    waits = λ c g. ended_acceptable g.passes;
    masks = λ c g. ended_acceptable g.passes;
    computes = λ c op g. ended_acceptable (computed_passes op c g.passes);
    returns = λ c code pc g. ended_acceptable (returned_passes c code pc g.passes);
    fills = λ c g. ended_acceptable g.passes;
    prints = λ c g e. appended_acceptable c g.passes e;
    directs = λ c g e. directed_acceptable c g.passes e;
    pages = λ c g. at_leaf (record { passes = g.passes; directory = g.directory });
    delivers = λ c code pc g. at_ask (frame_acceptable c c.clock.pending _ pc g.passes);
    reads = λ l. at_ask l;
  }

  -- an instruction's registers
  fine_acceptable : (c : Cpu) (r : Regs) (vs : List ℕ) → Acceptable size keys console_size c → OutAligned (fine r vs)
      → FinalAcceptable size keys console_size s (record { cpu = with_regs r c; values = vs; effect = nothing })
  unfolding space_after
  fine_acceptable c r vs g h = record { passes = omega (arith, g.passes); directory = d }

  -- a floating instruction's
  floated_acceptable : (c : Cpu) (r : Regs) (v : Floats) (vs : List ℕ) → Acceptable size keys console_size c → OutAligned (floated r v vs)
      → FinalAcceptable size keys console_size s (record { cpu = with_floats v (with_regs r c); values = vs; effect = nothing })
  unfolding space_after
  floated_acceptable c r v vs g h = record { passes = omega (arith, g.passes); directory = d }

-- ---- rules 1 to 3

-- a key is taken only if there is one
keyed_listed : (keys : ℕ) (k : Option Key) (comes : Bool) (t : Clock) → (IsSome k → t.taken < keys) → t.taken ≤ keys → (keyed k comes t).taken ≤ keys
keyed_listed keys None comes t more h = h
keyed_listed keys (Some k) true t more h = omega (arith, more refl)
keyed_listed keys (Some k) false t more h = h

-- the record after them
ticked_acceptable : {size keys console_size : ℕ} (k : Option Key) (c : Cpu) → (IsSome k → c.clock.taken < keys)
    → Acceptable size keys console_size c → Acceptable size keys console_size (ticked k c)
unfolding ticked
ticked_acceptable {keys = keys} k c more g =
    let l = keyed_listed keys k (key_comes k c) c.clock more g.passes.listed in
    record { passes = omega (arith, g.passes, l, (timed_pending (keyed k (key_comes k c) c.clock)).1); directory = g.directory }

-- a whole step: k is the next key of a list of `keys`
step_acceptable : {size keys console_size : ℕ} (k : Option Key) (c : Cpu) → (IsSome k → c.clock.taken < keys) → Acceptable size keys console_size c
    → Leaves (FinalAcceptable size keys console_size c.space) (step_tree k size console_size c)
unfolding step_tree
step_acceptable {size} {keys} {console_size} k c more g =
    let t = ticked_acceptable k c more g in
    every_step OutAligned (acceptable size keys console_size c.space g.directory) (fine_acceptable size keys console_size c.space g.directory)
    (floated_acceptable size keys console_size c.space g.directory) (due_of (ticked k c)) (ticked k c) t
    (λ i e. interrupt_acceptable size keys console_size c.space g.directory i (ticked k c) t.passes)
    (executed_aligned (ticked k c) (omega (arith, t.passes)))

-- ---- as a step of a machine

-- there is a next key only where not all are taken
next_listed : (ks : List Key) (n : ℕ) → IsSome (next_of ks n) → n < length ks
unfolding next_of
next_listed ks n = go (ltb n (length ks)) refl
  where
    go : (b : Bool) → ltb n (length ks) ≡ b → IsSome (if b then Some (get_or ks n (record { step = 0; byte = 0 })) else None) → n < length ks
    go true e s = ltb-true n (length ks) e
    go false e s = absurd (true≢false (sym s))

-- BOUT keeps the console's length
console_length : (con : List ℕ) (n : ℕ) (e : Effect) → length (console_after con n e) ≡ length con
unfolding console_after
console_length con n nothing = refl
console_length con n (set_space t) = refl
console_length con n (deliver code) = refl
console_length con n (print x) = length-set con n x

-- the record of a state, with this list of keys
abbrev pub StateAcceptable : {B : Type 0} → List Key → State B → Type 0
StateAcceptable ks s = Acceptable (length s.mem) (length ks) (length s.console) s.cpu

module _ {B : Type 0} (tr : Translator B) (ks : List Key) where
  -- the record is acceptable for the memory and the console that the step began with, whatever the translator
  pub step_record : (s : State B) → StateAcceptable ks s → Acceptable (length s.mem) (length ks) (length s.console) (step tr ks s).state.cpu
  unfolding step
  step_record s g =
      let k = next_of ks s.cpu.clock.taken in
      let l = leaf_at tr s.cpu.space s.cpu.system.user (step_acceptable k s.cpu (next_listed ks s.cpu.clock.taken) g) s.mem s.buffer [] in
      record { passes = l.passes; directory = l.directory }

  -- the console keeps its length
  pub step_console : (s : State B) → length (step tr ks s).state.console ≡ length s.console
  unfolding step
  step_console s =
      let x = step_tree (next_of ks s.cpu.clock.taken) (length s.mem) (length s.console) s.cpu in
      console_length s.console s.cpu.written (interpret tr s.cpu.space s.cpu.system.user x s.mem s.buffer []).leaf.effect
