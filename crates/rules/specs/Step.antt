-- Document 01, "One step", and document 02, items 1 and 7: a step of the machine with the page buffer and of the table reader, by one rule.
use Rattle.std.specs.Prelude.{ℕ, ◌+◌, false, List, [], ◌∷◌, ◌++◌, length, set, if◌then◌else◌, Option, Some, None}
use Rattle.paging.specs.declared.Space.{Space}
use Rattle.floating_decode.specs.Opcodes.{floating_decode_of}
use Rattle.paging.specs.declared.TrapCode.TheVariants.{Finst}
use Rattle.paging.specs.TrapCode.{code_number}
use Rattle.paging.specs.Event.{Event, delivered}
use Rattle.paging.specs.Translate.{Translator}
use Rattle.rules.specs.declared.Cpu.{Cpu}
use Rattle.rules.specs.declared.Interrupt.{Interrupt}
use Rattle.rules.specs.declared.Key.{Key}
use Rattle.rules.specs.Record.{with_count, with_regs, with_space, with_system, with_floats, with_waiting}
use Rattle.rules.specs.Tree.{Tree, done, bind, Ended, store_all, store_events, interpret}
use Rattle.rules.specs.Outcome.{Out, fine, unfetched, trap, refused, system, floated, undecoded}
use Rattle.rules.specs.Execute.{moved, instruction_tree}
use Rattle.rules.specs.Floating.{float_tree}
use Rattle.rules.specs.Trap.{Effect, none as nothing, set_space, deliver, print, Final, final, ended, deliver_tree, trap_tree, fault_tree, next_pc}
use Rattle.rules.specs.System.{system_tree}
use Rattle.rules.specs.Clock.{next_of, ticked, interrupt_code, due_of, cleared}

-- document 02, item 7: "This is a mode of the machine"; "the old mode keeps document 01's table": a word that has no row there is a floating instruction in the
-- new mode; c is the record before the fetch
unfoldable pub further_tree : Cpu → Out → Tree Out
unfolding float_tree
further_tree c (fine r vs) = done (fine r vs)
further_tree c (unfetched f) = done (unfetched f)
further_tree c (trap code) = done (trap code)
further_tree c (refused f) = done (refused f)
further_tree c (system op) = done (system op)
further_tree c (floated r v vs) = done (floated r v vs)
further_tree c (undecoded w) = if c.model.doubles then float_tree (floating_decode_of w) (moved c.regs) c.floats else done (undecoded w)

-- the instruction of a step, in the machine's mode
unfoldable pub executed_tree : Cpu → Tree Out
unfolding instruction_tree further_tree
executed_tree c = bind (instruction_tree c.regs) (further_tree c)

-- the rest of a step after its instruction: c is the record before the fetch, its count raised, size and console_size the lengths of memory and console
unfoldable pub settle_tree : (size console_size : ℕ) → Cpu → Out → Tree Final
unfolding fault_tree trap_tree system_tree
settle_tree size console_size c (fine r vs) = final (with_regs r c) vs nothing
settle_tree size console_size c (unfetched f) = fault_tree c f c.regs.pc
settle_tree size console_size c (trap code) = trap_tree c (code_number code) (next_pc c)
settle_tree size console_size c (refused f) = fault_tree c f (next_pc c)
settle_tree size console_size c (system op) = system_tree size console_size op c
settle_tree size console_size c (floated r v vs) = final (with_floats v (with_regs r c)) vs nothing
settle_tree size console_size c (undecoded w) = trap_tree c (code_number Finst) (next_pc c)

-- "waiting ends"
abbrev pub awake : Cpu → Cpu
awake c = with_system (with_waiting false c.system) c

-- c is the record after rules 1 to 3
-- an interrupt: "waiting ends and the trap is delivered"; "its delivery clears its mark"
abbrev pub interrupt_tree : Interrupt → Cpu → Tree Final
interrupt_tree i c = deliver_tree (awake c) (cleared i c.clock.pending) (code_number (interrupt_code i)) c.regs.pc

-- rules 4 and 5: "If something is due, waiting ends and the trap is delivered; the step ends. If waiting, the step ends. Else fetch"
unfoldable pub due_tree : Option Interrupt → (size console_size : ℕ) → Cpu → Tree Final
unfolding settle_tree executed_tree
due_tree (Some i) size console_size c = interrupt_tree i c
due_tree None size console_size c = if c.system.waiting then ended c else bind (executed_tree c) (settle_tree size console_size c)

-- a step, from the record before it
unfoldable pub step_tree : Option Key → (size console_size : ℕ) → Cpu → Tree Final
unfolding due_tree
step_tree next size console_size c =
    let t = ticked next c in
    due_tree (due_of t) size console_size t

-- ---- the machines

-- a machine between two steps: B is what its translator holds
pub record State (B : Type 0) : Type 0 where
  pub cpu : Cpu
  pub mem : List ℕ
  pub console : List ℕ
  pub buffer : B

-- a state after a step, with the step's events
pub record Stepped (B : Type 0) : Type 0 where
  pub state : State B
  pub events : List Event

-- PDIR and SPAG set the address space
unfoldable pub space_after : Space → Effect → Space
space_after s nothing = s
space_after s (set_space t) = t
space_after s (deliver code) = s
space_after s (print x) = s

-- BOUT's byte is appended: n bytes are written already
unfoldable pub console_after : List ℕ → ℕ → Effect → List ℕ
console_after con n nothing = con
console_after con n (set_space t) = con
console_after con n (deliver code) = con
console_after con n (print x) = set con n x

module _ {B : Type 0} (tr : Translator B) where
  -- "PDIR and SPAG, unless they fault, empty the buffer"
  unfoldable pub buffer_after : B → Effect → B
  buffer_after b nothing = b
  buffer_after b (set_space t) = tr.empty b
  buffer_after b (deliver code) = b
  buffer_after b (print x) = b

  unfoldable pub effect_events : Effect → List Event
  effect_events nothing = []
  effect_events (set_space t) = tr.empty_events
  effect_events (deliver code) = delivered code ∷ []
  effect_events (print x) = []

  -- where a tree's end leaves the machine, with the step count n: count and address space are set here, and no rule can set them otherwise
  unfoldable pub finished : ℕ → Space → ℕ → List ℕ → Ended B Final → State B
  unfolding space_after console_after buffer_after
  finished n s written con e = record {
    cpu = with_space (space_after s e.leaf.effect) (with_regs (with_count n e.leaf.cpu.regs) e.leaf.cpu);
    mem = store_all e.grants e.leaf.values e.mem;
    console = console_after con written e.leaf.effect;
    buffer = buffer_after e.buffer e.leaf.effect;
  }

  unfoldable pub finished_events : Ended B Final → List Event
  unfolding effect_events
  finished_events e = e.events ++ store_events e.grants e.leaf.values ++ effect_events e.leaf.effect

  -- a tree's end as a step from the record c
  unfoldable pub stepped_by : Cpu → List ℕ → Ended B Final → Stepped B
  unfolding finished finished_events
  stepped_by c con e = record { state = finished (c.regs.count + 1) c.space c.written con e; events = finished_events e }

  unfoldable pub step_by : Option Key → State B → Stepped B
  unfolding step_tree stepped_by
  step_by next s =
      stepped_by s.cpu s.console
      (interpret tr s.cpu.space s.cpu.system.user (step_tree next (length s.mem) (length s.console) s.cpu) s.mem s.buffer [])

  -- one step, with a list of keys
  unfoldable pub step : List Key → State B → Stepped B
  unfolding step_by
  step ks s = step_by (next_of ks s.cpu.clock.taken) s
