-- Document 02, item 7, "a mode of the machine .. the old mode keeps document 01's table, and facts common to both are shown once": laws on steps, for any translator,
-- so for both machines. In the old mode the instruction is document 01's, every other word traps FINST, and a step neither reads nor changes f and g (`old_executed`,
-- `old_undecoded`, `old_step`, `old_floats`). A word with a row in that table does in each mode the same, and changes neither f nor g (`listed_same`, `listed_step`,
-- `listed_floats`). No step changes the mode (`mode_kept`).
use Rattle.std.proofs.Common.{if◌then◌else◌, Option, Some, None}
use Prim.Native.Nat.{ℕ}
use mathlib.Core.Path.{◌≡◌, refl, sym, ap, ◌∙◌}
use mathlib.Core.Bool.{Bool, true, false, true≢false}
use mathlib.Core.List.{List, [], ◌++◌}
use lib.ListN.{length}
use Rattle.decode.specs.Opcodes.{decode_of, is_illegal}
use Rattle.decode.specs.declared.Instr.{Instr}
use Rattle.decode.specs.declared.Instr.TheVariants.{Illegal}
use Rattle.paging.specs.declared.Access.TheVariants.{Fetch}
use Rattle.paging.specs.declared.Fault.{Fault}
use Rattle.paging.specs.declared.TrapCode.TheVariants.{Finst}
use Rattle.paging.specs.TrapCode.{code_number}
use Rattle.paging.specs.Translate.{Translator}
use Rattle.rules.specs.declared.Interrupt.{Interrupt}
use Rattle.rules.specs.declared.Cpu.{Cpu}
use Rattle.rules.specs.declared.Floats.{Floats}
use Rattle.rules.specs.declared.Key.{Key}
use Rattle.rules.specs.declared.Model.{Model}
use Rattle.rules.specs.declared.Pending.{Pending}
use Rattle.rules.specs.declared.Regs.{Regs}
use Rattle.rules.specs.Tree.{Reply, got, denied, Tree, ask, done, access, bind, after, answered, interpret, Ended}
use Rattle.rules.specs.Outcome.{Out, fine, unfetched, trap, refused, system, floated, undecoded}
use Rattle.rules.specs.Execute.{execute_tree, moved, fetched, instruction_tree}
use Rattle.rules.specs.Trap.{Final, framed, deliver_tree, trap_tree, next_pc}
use Rattle.rules.specs.Clock.{next_of, ticked, due_of}
use Rattle.rules.specs.Step.{further_tree, executed_tree, settle_tree, awake, due_tree, State, Stepped, stepped_by, step}
use Rattle.rules.proofs.Leaves.{Leaves, at_leaf, at_ask, leaves_all, leaf_at}
use Rattle.rules.proofs.OldMode.{old_further}
use Rattle.rules.proofs.StepTree.{Shapes, every_step}
use Rattle.mode_laws.proofs.Known.{Known, execute_known}
use Rattle.mode_laws.proofs.Carried.{in_mode, ended_in, Carried, leaf, carried_ends, carried_if, deliver_carried, computed_carried, returned_carried, rest_carried}

-- ---- instructions

-- what follows a tree, where it only ends as each leaf does
bind_ends : {A : Type 0} {Q : A → Type 0} (f : A → Tree A) {t : Tree A} → Leaves Q t → ((a : A) → Q a → f a ≡ done a) → bind t f ≡ t
unfolding bind
bind_ends f (at_leaf {a = a} q) h = h a q
bind_ends f (at_ask {q = q} l) h = λ i. ask q (λ r. bind_ends f (l r) h i)

-- in the old mode nothing is decided further (`old_further`), so that the instruction of a step is document 01's
pub old_executed : (c : Cpu) → c.model.doubles ≡ false → executed_tree c ≡ instruction_tree c.regs
unfolding executed_tree
old_executed c e = bind_ends (further_tree c) (leaves_all (instruction_tree c.regs)) (λ o u. old_further c e o)

-- and a word without a row in its table traps FINST
pub old_undecoded : (size console_size w : ℕ) (c : Cpu) → c.model.doubles ≡ false → decode_of w ≡ Illegal
    → bind (bind (execute_tree w (decode_of w) (moved c.regs)) (further_tree c)) (settle_tree size console_size c) ≡ trap_tree c (code_number Finst) (next_pc c)
unfolding bind execute_tree settle_tree
old_undecoded size console_size w c e d =
    ap (λ (i : Instr). bind (bind (execute_tree w i (moved c.regs)) (further_tree c)) (settle_tree size console_size c)) d
    ∙ ap (λ (t : Tree Out). bind t (settle_tree size console_size c)) (old_further c e (undecoded w))

-- a word with a row: it comes to no further decision
known_further : (c : Cpu) (o : Out) → Known false o → further_tree c o ≡ done o
unfolding further_tree
known_further c (fine r vs) k = refl
known_further c (unfetched f) k = refl
known_further c (trap code) k = refl
known_further c (refused f) k = refl
known_further c (system op) k = refl
known_further c (floated r v vs) k = refl
known_further c (undecoded w) k = absurd (true≢false (sym k))

listed_known : (w : ℕ) (r : Regs) → is_illegal (decode_of w) ≡ false → Leaves (Known false) (execute_tree w (decode_of w) r)
listed_known w r e = execute_known false w (decode_of w) r (λ q. sym e ∙ q)

-- so that in each mode, with any f and g, it is that row's instruction
pub listed_same : (c : Cpu) (w : ℕ) (r : Regs) → is_illegal (decode_of w) ≡ false
    → bind (execute_tree w (decode_of w) r) (further_tree c) ≡ execute_tree w (decode_of w) r
listed_same c w r e = bind_ends (further_tree c) (listed_known w r e) (known_further c)

-- ---- steps: the machine with another mode, f and g

abbrev pub state_in : {B : Type 0} → Model → Floats → State B → State B
state_in m v s = record { cpu = in_mode m v s.cpu; mem = s.mem; console = s.console; buffer = s.buffer }

abbrev pub stepped_in : {B : Type 0} → Model → Floats → Stepped B → Stepped B
stepped_in m v t = record { state = state_in m v t.state; events = t.events }

-- the instructions of document 01's table never end as floating ones
instruction_known : (r : Regs) → Leaves (Known true) (instruction_tree r)
unfolding instruction_tree
instruction_known r = at_ask go
  where
    go : (x : Reply) → Leaves (Known true) (fetched r x)
    go (got w) = execute_known true w (decode_of w) (moved r) (λ e. refl)
    go (denied f) = at_leaf tt

unfetched_known : (f : Fault) → Leaves (Known true) (done (unfetched f))
unfetched_known f = at_leaf tt

-- in the old mode
old_due : (v : Floats) (size console_size : ℕ) (c : Cpu) → c.model.doubles ≡ false → (due : Option Interrupt)
    → Carried c.model v (due_tree due size console_size (in_mode c.model v c)) (due_tree due size console_size c)
unfolding due_tree
old_due v size console_size c e (Some i) = deliver_carried c.model v (awake c) _ _ _
old_due v size console_size c e None =
    carried_if c.model v c.system.waiting (leaf refl)
    (rw (old_executed (in_mode c.model v c) e, old_executed c e) (rest_carried c.model v size console_size c (instruction_known c.regs)))

-- ---- a word of document 01's table, in any mode

-- what the fetch of a step gives
abbrev pub fetch_of : {B : Type 0} → Translator B → Cpu → List ℕ → B → Reply
fetch_of tr c mem b = (answered tr c.space c.system.user (access Fetch 4 c.regs.pc) mem b).answer.reply

-- a word with a row, or a fault
abbrev pub Listed : Reply → Type 0
Listed (got w) = is_illegal (decode_of w) ≡ false
Listed (denied f) = Unit

module _ (m : Model) (v : Floats) (size console_size : ℕ) (c : Cpu) where
  -- what follows the fetch
  listed_carried : (x : Reply) → Listed x
      → Carried m v (bind (bind (fetched c.regs x) (further_tree (in_mode m v c))) (settle_tree size console_size (in_mode m v c)))
      (bind (bind (fetched c.regs x) (further_tree c)) (settle_tree size console_size c))
  unfolding bind further_tree
  listed_carried (got w) e =
      rw (listed_same (in_mode m v c) w (moved c.regs) e, listed_same c w (moved c.regs) e)
      (rest_carried m v size console_size c (listed_known w (moved c.regs) e))
  listed_carried (denied f) e = rest_carried m v size console_size c (unfetched_known f)

  module _ {B : Type 0} (tr : Translator B) (mem : List ℕ) (b : B) where
    abbrev ends : Tree Final → Ended B Final
    ends t = interpret tr c.space c.system.user t mem b []

    -- two trees end alike
    record Same (t u : Tree Final) : Type 0 where
      same : ends t ≡ ended_in m v (ends u)

    same_carried : {t u : Tree Final} → Carried m v t u → Same t u
    same_carried h = record { same = carried_ends m v tr c.space c.system.user h mem b [] }

    same_if : (x : Bool) {t t' u u' : Tree Final} → Same t t' → Same u u' → Same (if x then t else u) (if x then t' else u')
    same_if true l r = l
    same_if false l r = r

    -- the fetch, and what follows it
    same_executed : Listed (fetch_of tr c mem b)
        → Same (bind (executed_tree (in_mode m v c)) (settle_tree size console_size (in_mode m v c))) (bind (executed_tree c) (settle_tree size console_size c))
    unfolding bind executed_tree interpret
    same_executed e =
        let o = answered tr c.space c.system.user (access Fetch 4 c.regs.pc) mem b in
        let x = carried_ends m v tr c.space c.system.user (listed_carried o.answer.reply e) o.mem o.buffer (o.answer.grants ++ []) in
        record { same = ap (after o.events) x }

    listed_due : Listed (fetch_of tr c mem b) → (due : Option Interrupt) → Same (due_tree due size console_size (in_mode m v c)) (due_tree due size console_size c)
    unfolding due_tree
    listed_due e (Some i) = same_carried (deliver_carried m v (awake c) _ _ _)
    listed_due e None = same_if c.system.waiting (same_carried (leaf refl)) (same_executed e)

-- rules 1 to 3 are the same in each mode
ticked_in : (m : Model) (v : Floats) (k : Option Key) (c : Cpu) → ticked k (in_mode m v c) ≡ in_mode m v (ticked k c)
unfolding ticked
ticked_in m v None c = refl
ticked_in m v (Some k) c = refl

module _ {B : Type 0} (tr : Translator B) (ks : List Key) (s : State B) where
  abbrev next : Option Key
  next = next_of ks s.cpu.clock.taken

  -- the record after rules 1 to 3
  abbrev clocked : Cpu
  clocked = ticked next s.cpu

  -- the step from the record that rules 1 to 3 give
  after_clock : Cpu → Stepped B
  after_clock t =
      stepped_by tr s.cpu s.console
      (interpret tr s.cpu.space s.cpu.system.user (due_tree (due_of t) (length s.mem) (length s.console) t) s.mem s.buffer [])

  -- a step in the old mode neither reads f and g ..
  pub old_step : (v : Floats) → s.cpu.model.doubles ≡ false → step tr ks (state_in s.cpu.model v s) ≡ stepped_in s.cpu.model v (step tr ks s)
  unfolding step ticked due_of after_clock
  old_step v e =
      ap after_clock (ticked_in s.cpu.model v next s.cpu)
      ∙ ap (stepped_by tr s.cpu s.console)
      (carried_ends s.cpu.model v tr s.cpu.space s.cpu.system.user (old_due v (length s.mem) (length s.console) clocked e (due_of clocked)) s.mem s.buffer [])

  -- .. nor changes them
  pub old_floats : s.cpu.model.doubles ≡ false → (step tr ks s).state.cpu.floats ≡ s.cpu.floats
  old_floats e = ap (λ t. t.state.cpu.floats) (old_step s.cpu.floats e)

  -- a step on a word of document 01's table does in each mode, with any f and g, the same ..
  pub listed_step : (m : Model) (v : Floats) → Listed (fetch_of tr s.cpu s.mem s.buffer) → step tr ks (state_in m v s) ≡ stepped_in m v (step tr ks s)
  unfolding step ticked due_of after_clock
  listed_step m v e =
      ap after_clock (ticked_in m v next s.cpu)
      ∙ ap (stepped_by tr s.cpu s.console) (listed_due m v (length s.mem) (length s.console) clocked tr s.mem s.buffer e (due_of clocked)).same

  -- .. and changes neither f nor g
  pub listed_floats : Listed (fetch_of tr s.cpu s.mem s.buffer) → (step tr ks s).state.cpu.floats ≡ s.cpu.floats
  listed_floats e = ap (λ t. t.state.cpu.floats) (listed_step s.cpu.model s.cpu.floats e)

-- ---- no step changes the mode

module _ (c : Cpu) where
  -- the mode of a step's end
  abbrev ModeKept : Final → Type 0
  ModeKept f = f.cpu.model ≡ c.model

  -- a frame, stored or not
  frame_mode : (x : Cpu) (left : Pending) (code pc : ℕ) → x.model ≡ c.model → (r : Reply) → Leaves ModeKept (framed x left code pc r)
  frame_mode x left code pc g (got y) = at_leaf g
  frame_mode x left code pc g (denied f) = at_leaf g

  keeping : (size console_size : ℕ) → Shapes size console_size (Leaves ModeKept) (λ x. x.model ≡ c.model)
  unfolding deliver_tree
  keeping size console_size = record {
    on_fault = λ x f g. g;
    on_moved = λ x g. g;
    waits = λ x g. at_leaf g;
    masks = λ x g. at_leaf g;
    computes = λ x op g. at_leaf (ap (λ (y : Cpu). y.model) (computed_carried x.model x.floats size op x) ∙ g);
    returns = λ x code pc g. at_leaf (ap (λ (y : Cpu). y.model) (returned_carried x.model x.floats x code pc) ∙ g);
    fills = λ x g. at_leaf g;
    prints = λ x g e. at_leaf g;
    directs = λ x g e. at_leaf g;
    pages = λ x g. at_leaf g;
    delivers = λ x code pc g. at_ask (frame_mode x x.clock.pending _ pc g);
    reads = λ l. at_ask l;
  }

  every_mode : (size console_size : ℕ) → Leaves ModeKept (due_tree (due_of c) size console_size c)
  unfolding deliver_tree
  every_mode size console_size =
      every_step (λ o. Unit {0}) (keeping size console_size) (λ x r vs g o. g) (λ x r v vs g o. g) (due_of c) c refl
      (λ i e. at_ask (frame_mode (awake c) _ _ _ refl)) (leaves_all _)

-- a step of any machine, floating instructions and all
pub mode_kept : {B : Type 0} (tr : Translator B) (ks : List Key) (s : State B) → (step tr ks s).state.cpu.model ≡ s.cpu.model
unfolding step ticked
mode_kept tr ks s =
    leaf_at tr s.cpu.space s.cpu.system.user (every_mode (ticked (next_of ks s.cpu.clock.taken) s.cpu) (length s.mem) (length s.console)) s.mem
    s.buffer []
