-- Document 01, "One step", rules 1 to 3, and document 02, item 1: the step count, keys, the timer; the marks of their events, and what is due.
use Rattle.std.specs.Prelude.{ℕ, ◌+◌, Bool, true, false, not, ◌&&◌, List, length, get_or, eqb, ltb, leb, if◌then◌else◌, Option, Some, None}
use Rattle.paging.specs.declared.TrapCode.{TrapCode}
use Rattle.paging.specs.declared.TrapCode.TheVariants.{Ftimer, Fkeybd}
use Rattle.rules.specs.declared.Clock.{Clock}
use Rattle.rules.specs.declared.Cpu.{Cpu}
use Rattle.rules.specs.declared.Interrupt.{Interrupt}
use Rattle.rules.specs.declared.Interrupt.TheVariants.{Keyboard, Timer}
use Rattle.rules.specs.declared.Key.{Key}
use Rattle.rules.specs.declared.Pending.{Pending}
use Rattle.rules.specs.Record.{with_count, with_regs, with_clock, with_timer, with_kbchar, with_taken, with_pending, with_key_pending, with_timer_pending}

-- the next key: the first that has not been taken
unfoldable pub next_of : List Key → ℕ → Option Key
next_of ks taken = if ltb taken (length ks) then Some (get_or ks taken (record { step = 0; byte = 0 })) else None

-- "Step count rises by 1"
abbrev pub step_counted : Cpu → Cpu
step_counted c = with_regs (with_count (c.regs.count + 1) c.regs) c

-- "If the next key's step number is at most the count": the count already raised
abbrev pub key_comes : Option Key → Cpu → Bool
key_comes None c = false
key_comes (Some k) c = leb k.step (c.regs.count + 1)

-- "take that one key: kbchar = byte"; "a key .. event always sets its mark"
abbrev pub keyed : Option Key → Bool → Clock → Clock
keyed None comes t = t
keyed (Some k) comes t = if comes then with_pending (with_key_pending true t.pending) (with_kbchar k.byte (with_taken (t.taken + 1) t)) else t

-- "If timeout is not 0: where timer + 1 > timeout as whole numbers"
abbrev pub timer_fires : Clock → Bool
timer_fires t = not (eqb t.timeout 0) && ltb t.timeout (t.timer + 1)

-- "timer = 0 ..; else timer rises by 1"; "a .. timer event always sets its mark"
abbrev pub timed : Clock → Clock
timed t =
    if timer_fires t
    then with_pending (with_timer_pending true t.pending) (with_timer 0 t)
    else (if eqb t.timeout 0 then t else with_timer (t.timer + 1) t)

-- the record after rules 1 to 3
unfoldable pub ticked : Option Key → Cpu → Cpu
ticked next c = with_clock (timed (keyed next (key_comes next c) c.clock)) (step_counted c)

-- the trap that an interrupt is delivered as
abbrev pub interrupt_code : Interrupt → TrapCode
interrupt_code Keyboard = Fkeybd
interrupt_code Timer = Ftimer

-- "in a step with iena = 1 the first marked one, key before timer, is due, one a step": of the record after rules 1 to 3
unfoldable pub due_of : Cpu → Option Interrupt
due_of c =
    if c.system.iena
    then (if c.clock.pending.key then Some Keyboard else (if c.clock.pending.timer then Some Timer else None))
    else None

-- "its delivery clears its mark"
abbrev pub cleared : Interrupt → Pending → Pending
cleared Keyboard p = with_key_pending false p
cleared Timer p = with_timer_pending false p
