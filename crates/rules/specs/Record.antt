-- Document 01, "The record and the loaded program", and document 02, items 1, 4 and 7: the numbers of stop reasons and causes, and the record with one part put in place.
use Rattle.std.specs.Prelude.{ℕ, Bool, true, false, Option, Some, None}
use Rattle.word.specs.Word.{cut}
use Rattle.paging.specs.declared.Cause.{Cause}
use Rattle.paging.specs.declared.Cause.TheVariants.{AddressBeyondMemory, DirectoryAbsent, DirectoryBeyondMemory, TableAbsent, NoUserRight, NoWriteRight, FrameBeyondMemory}
use Rattle.paging.specs.declared.Fault.{Fault}
use Rattle.paging.specs.declared.Space.{Space}
use Rattle.rules.specs.declared.Regs.{Regs}
use Rattle.rules.specs.declared.Clock.{Clock}
use Rattle.rules.specs.declared.Pending.{Pending}
use Rattle.rules.specs.declared.System.{System}
use Rattle.rules.specs.declared.Stop.{Stop}
use Rattle.rules.specs.declared.Stop.TheVariants.{Running, Halted, Masked, NoFrame}
use Rattle.rules.specs.declared.Floats.{Floats}
use Rattle.rules.specs.declared.Cpu.{Cpu}

-- "Stop reasons: 0 running, 1 halted, 2 trap while iena = 0, 3 trap frame cannot be stored"
abbrev pub stop_number : Stop → ℕ
stop_number Running = 0
stop_number Halted = 1
stop_number Masked = 2
stop_number NoFrame = 3

-- document 02, item 5: "cause (0 none, then item 4's order)"
abbrev pub cause_number : Option Cause → ℕ
cause_number None = 0
cause_number (Some AddressBeyondMemory) = 1
cause_number (Some DirectoryAbsent) = 2
cause_number (Some DirectoryBeyondMemory) = 3
cause_number (Some TableAbsent) = 4
cause_number (Some NoUserRight) = 5
cause_number (Some NoWriteRight) = 6
cause_number (Some FrameBeyondMemory) = 7

abbrev pub is_running : Stop → Bool
is_running Running = true
is_running Halted = false
is_running Masked = false
is_running NoFrame = false

-- ---- the registers of ordinary instructions

abbrev pub with_a : ℕ → Regs → Regs
with_a x r = record { a = x; b = r.b; c = r.c; sp = r.sp; pc = r.pc; count = r.count }

abbrev pub with_b : ℕ → Regs → Regs
with_b x r = record { a = r.a; b = x; c = r.c; sp = r.sp; pc = r.pc; count = r.count }

abbrev pub with_c : ℕ → Regs → Regs
with_c x r = record { a = r.a; b = r.b; c = x; sp = r.sp; pc = r.pc; count = r.count }

abbrev pub with_sp : ℕ → Regs → Regs
with_sp x r = record { a = r.a; b = r.b; c = r.c; sp = x; pc = r.pc; count = r.count }

abbrev pub with_pc : ℕ → Regs → Regs
with_pc x r = record { a = r.a; b = r.b; c = r.c; sp = r.sp; pc = x; count = r.count }

abbrev pub with_count : ℕ → Regs → Regs
with_count x r = record { a = r.a; b = r.b; c = r.c; sp = r.sp; pc = r.pc; count = x }

-- "sp, usp and ksp, set by any instruction, drop their low three bits, pc and ivec their low two"
abbrev pub set_sp : ℕ → Regs → Regs
set_sp x r = with_sp (cut 8 x) r

abbrev pub set_pc : ℕ → Regs → Regs
set_pc x r = with_pc (cut 4 x) r

-- ---- the groups of the record

abbrev pub with_regs : Regs → Cpu → Cpu
with_regs r c = record { regs = r; clock = c.clock; vadr = c.vadr; space = c.space; system = c.system; cause = c.cause; stop = c.stop; written = c.written; model = c.model; floats = c.floats }

abbrev pub with_clock : Clock → Cpu → Cpu
with_clock clock c = record {
  regs = c.regs;
  clock = clock;
  vadr = c.vadr;
  space = c.space;
  system = c.system;
  cause = c.cause;
  stop = c.stop;
  written = c.written;
  model = c.model;
  floats = c.floats;
}

-- a fault sets vadr and, "whenever vadr is", the cause
abbrev pub with_fault : Fault → Cpu → Cpu
with_fault f c = record {
  regs = c.regs;
  clock = c.clock;
  vadr = f.address;
  space = c.space;
  system = c.system;
  cause = Some f.cause;
  stop = c.stop;
  written = c.written;
  model = c.model;
  floats = c.floats;
}

abbrev pub with_space : Space → Cpu → Cpu
with_space s c = record { regs = c.regs; clock = c.clock; vadr = c.vadr; space = s; system = c.system; cause = c.cause; stop = c.stop; written = c.written; model = c.model; floats = c.floats }

abbrev pub with_system : System → Cpu → Cpu
with_system y c = record { regs = c.regs; clock = c.clock; vadr = c.vadr; space = c.space; system = y; cause = c.cause; stop = c.stop; written = c.written; model = c.model; floats = c.floats }

abbrev pub with_stop : Stop → Cpu → Cpu
with_stop x c = record { regs = c.regs; clock = c.clock; vadr = c.vadr; space = c.space; system = c.system; cause = c.cause; stop = x; written = c.written; model = c.model; floats = c.floats }

abbrev pub with_written : ℕ → Cpu → Cpu
with_written x c = record { regs = c.regs; clock = c.clock; vadr = c.vadr; space = c.space; system = c.system; cause = c.cause; stop = c.stop; written = x; model = c.model; floats = c.floats }

-- document 02, item 7: f and g
abbrev pub with_floats : Floats → Cpu → Cpu
with_floats x c = record { regs = c.regs; clock = c.clock; vadr = c.vadr; space = c.space; system = c.system; cause = c.cause; stop = c.stop; written = c.written; model = c.model; floats = x }

-- ---- within the groups

abbrev pub with_timer : ℕ → Clock → Clock
with_timer x clock = record { timer = x; timeout = clock.timeout; kbchar = clock.kbchar; taken = clock.taken; pending = clock.pending }

abbrev pub with_timeout : ℕ → Clock → Clock
with_timeout x clock = record { timer = clock.timer; timeout = x; kbchar = clock.kbchar; taken = clock.taken; pending = clock.pending }

abbrev pub with_kbchar : ℕ → Clock → Clock
with_kbchar x clock = record { timer = clock.timer; timeout = clock.timeout; kbchar = x; taken = clock.taken; pending = clock.pending }

abbrev pub with_taken : ℕ → Clock → Clock
with_taken x clock = record { timer = clock.timer; timeout = clock.timeout; kbchar = clock.kbchar; taken = x; pending = clock.pending }

abbrev pub with_pending : Pending → Clock → Clock
with_pending x clock = record { timer = clock.timer; timeout = clock.timeout; kbchar = clock.kbchar; taken = clock.taken; pending = x }

abbrev pub with_key_pending : Bool → Pending → Pending
with_key_pending x p = record { key = x; timer = p.timer }

abbrev pub with_timer_pending : Bool → Pending → Pending
with_timer_pending x p = record { key = p.key; timer = x }

abbrev pub with_pdir : ℕ → Space → Space
with_pdir x s = record { pdir = x; paging = s.paging }

abbrev pub with_paging : Bool → Space → Space
with_paging x s = record { pdir = s.pdir; paging = x }

abbrev pub with_usp : ℕ → System → System
with_usp x y = record { usp = x; ksp = y.ksp; ivec = y.ivec; user = y.user; iena = y.iena; waiting = y.waiting }

abbrev pub with_ksp : ℕ → System → System
with_ksp x y = record { usp = y.usp; ksp = x; ivec = y.ivec; user = y.user; iena = y.iena; waiting = y.waiting }

abbrev pub with_ivec : ℕ → System → System
with_ivec x y = record { usp = y.usp; ksp = y.ksp; ivec = x; user = y.user; iena = y.iena; waiting = y.waiting }

abbrev pub with_user : Bool → System → System
with_user x y = record { usp = y.usp; ksp = y.ksp; ivec = y.ivec; user = x; iena = y.iena; waiting = y.waiting }

abbrev pub with_iena : Bool → System → System
with_iena x y = record { usp = y.usp; ksp = y.ksp; ivec = y.ivec; user = y.user; iena = x; waiting = y.waiting }

abbrev pub with_waiting : Bool → System → System
with_waiting x y = record { usp = y.usp; ksp = y.ksp; ivec = y.ivec; user = y.user; iena = y.iena; waiting = x }

abbrev pub with_f : ℕ → Floats → Floats
with_f x v = record { f = x; g = v.g }

abbrev pub with_g : ℕ → Floats → Floats
with_g x v = record { f = v.f; g = x }

-- register a of a record, set
abbrev pub put_a : ℕ → Cpu → Cpu
put_a x c = with_regs (with_a x c.regs) c

-- what is pending, set
abbrev pub put_pending : Pending → Cpu → Cpu
put_pending p c = with_clock (with_pending p c.clock) c
