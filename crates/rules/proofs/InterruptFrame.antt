-- Document 01, "Traps": "The pc stored is .. the fetch address for interrupts", by computing: 32 bytes of memory, sp 32, pc 4, in kernel mode.
use Prim.Native.Nat.{ℕ}
use mathlib.Core.Path.{◌≡◌, refl}
use mathlib.Core.Bool.{true}
use mathlib.Core.List.{List, [], ◌∷◌}
use lib.ListN.{replicate}
use Rattle.memory.specs.Memory.{load_n, store_n}
use Rattle.paging.specs.Translate.{direct, translate_by, buffered}
use Rattle.rules.specs.declared.Cpu.{Cpu}
use Rattle.rules.specs.declared.Key.{Key}
use Rattle.rules.specs.Record.{with_clock, with_system, with_timer, with_timeout, with_iena}
use Rattle.rules.specs.Clock.{next_of, ticked, due_of}
use Rattle.rules.specs.Load.{fresh_cpu}
use Rattle.rules.specs.Tree.{store_all, store_events, answered, interpret}
use Rattle.rules.specs.Step.{step}

-- interrupts are on
enabled : Cpu
enabled = let c = fresh_cpu 32 4 in with_system (with_iena true c.system) c

-- a step's memory
after : List Key → Cpu → List ℕ
unfolding enabled load_n store_n direct translate_by next_of ticked due_of store_all store_events answered interpret step
after ks c = (step buffered ks (record { cpu = c; mem = replicate 32 0; console = []; buffer = [] })).state.mem

-- a key of step 1: the code, FKEYBD, at sp-16, and the pc at sp-8
key_frame : (load_n 4 (after (record { step = 1; byte = 65 } ∷ []) enabled) 16 ≡ 2) × (load_n 4 (after (record { step = 1; byte = 65 } ∷ []) enabled) 24 ≡ 4)
unfolding after
key_frame = (refl, refl)

-- the timer, at its timeout
timed : Cpu
unfolding enabled
timed = with_clock (with_timer 1 (with_timeout 1 enabled.clock)) enabled

timer_frame : (load_n 4 (after [] timed) 16 ≡ 1) × (load_n 4 (after [] timed) 24 ≡ 4)
unfolding after timed
timer_frame = (refl, refl)
