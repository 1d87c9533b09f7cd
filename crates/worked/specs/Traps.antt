-- Document 01, "One step" and "Traps": keys, the timer, TRAP, RTI and faults, delivered. ivec is 0x40, sp 0x100, ksp 0x80.
use Rattle.std.specs.Prelude.{ℕ, List, [], ◌∷◌}
use Rattle.rules.specs.declared.Cpu.{Cpu}
use Rattle.rules.specs.Record.{put_a}
use Rattle.worked.specs.Start.{fresh, put_sp, put_pc, put_usp, put_ksp, put_ivec, put_timer, in_user, enabled, key, ◌holds◌, memory, small}
use Rattle.worked.specs.Line.{a, sp, pc, usp, ksp, vadr, timer, kbchar, taken, user, iena, waiting, word, ◌is◌, Line, line, keyed, Both, Hold, done, ◌also◌}

-- interrupts on, in kernel mode; and in user mode
abbrev kernel : Cpu
kernel = enabled (put_ivec 0x40 (put_ksp 0x80 (put_sp 0x100 fresh)))

abbrev program : Cpu
program = in_user kernel

-- TRAP at 0, RTI at 0x40
abbrev there_and_back : List ℕ
there_and_back = memory 4096 (0 holds (0xa9 ∷ []) ∷ 0x40 holds (0x98 ∷ []) ∷ [])

abbrev pub lines : List Line
lines =
    -- a key of step 2: "kbchar = byte"; "16 is added from user mode"; stored is "the fetch address for interrupts"
    keyed (key 2 65 ∷ []) program (small (0x9b ∷ 0x9b ∷ [])) 2
    (word 0x70 is 18 ∷ word 0x78 is 4 ∷ sp is 0x70 ∷ pc is 0x40 ∷ usp is 0x100 ∷ user is 0 ∷ iena is 0 ∷ kbchar is 65 ∷ taken is 1 ∷ []) ∷
    -- "take that one key"
    keyed (key 0 65 ∷ key 0 66 ∷ []) fresh (small (0x9b ∷ 0x9b ∷ [])) 1 (kbchar is 65 ∷ taken is 1 ∷ []) ∷
    -- the timer: timeout 1, so that it rises in step 1, and in step 2 "timer + 1 > timeout"
    line (put_timer 0 1 kernel) (small (0x9b ∷ 0x9b ∷ [])) 1 (timer is 1 ∷ pc is 4 ∷ []) ∷
    line (put_timer 0 1 kernel) (small (0x9b ∷ 0x9b ∷ [])) 2 (word 0xf0 is 1 ∷ word 0xf8 is 4 ∷ sp is 0xf0 ∷ pc is 0x40 ∷ timer is 0 ∷ iena is 0 ∷ []) ∷
    -- IDLE: "waiting = iena"; "If waiting, the step ends"
    line kernel (small (0xd1 ∷ 0x9b ∷ [])) 3 (waiting is 1 ∷ pc is 4 ∷ []) ∷
    -- a key of step 3: "waiting ends and the trap is delivered"
    keyed (key 3 65 ∷ []) kernel (small (0xd1 ∷ 0x9b ∷ [])) 3 (waiting is 0 ∷ pc is 0x40 ∷ word 0xf0 is 2 ∷ word 0xf8 is 4 ∷ []) ∷
    -- TRAP from user mode: FSYS 5 and 16; "from user mode usp = sp, sp = ksp, user = 0"; "the next instruction's for .. TRAP"
    line program there_and_back 1
    (word 0x70 is 21 ∷ word 0x78 is 4 ∷ sp is 0x70 ∷ pc is 0x40 ∷ usp is 0x100 ∷ ksp is 0x80 ∷ user is 0 ∷ iena is 0 ∷ []) ∷
    -- then RTI: "if the code contains the mark of value 16, ksp = sp, sp = usp, user = 1"
    line program there_and_back 2 (pc is 4 ∷ sp is 0x100 ∷ ksp is 0x80 ∷ usp is 0x100 ∷ user is 1 ∷ iena is 1 ∷ []) ∷
    -- TRAP from kernel mode, then RTI: "sp rises by 16, iena = 1", and no more
    line (put_usp 0x600 kernel) there_and_back 1 (word 0xf0 is 5 ∷ word 0xf8 is 4 ∷ sp is 0xf0 ∷ usp is 0x600 ∷ iena is 0 ∷ []) ∷
    line (put_usp 0x600 kernel) there_and_back 2 (pc is 4 ∷ sp is 0x100 ∷ ksp is 0x80 ∷ usp is 0x600 ∷ user is 0 ∷ iena is 1 ∷ []) ∷
    -- RTI in user mode: FPRIV 3 and 16
    line program (small (0x98 ∷ [])) 1 (word 0x70 is 19 ∷ word 0x78 is 4 ∷ user is 0 ∷ pc is 0x40 ∷ []) ∷
    -- a byte without a line in 000 is illegal: FINST 4
    line kernel (small (0xff ∷ [])) 1 (word 0xf0 is 4 ∷ word 0xf8 is 4 ∷ pc is 0x40 ∷ []) ∷
    -- a fetch not below M: FMEM 0, "the fetch address for .. fetch faults". The slot of the code is not 0 before
    line (put_pc 0x2000 kernel) (memory 4096 (0xf0 holds (0xffffffff ∷ []) ∷ [])) 1
    (word 0xf0 is 0 ∷ word 0xf8 is 0x2000 ∷ vadr is 0x2000 ∷ pc is 0x40 ∷ []) ∷
    -- a read not below M: FMEM, "the next instruction's for faults in execution"
    line (put_a 0x1003 kernel) (memory 4096 (0 holds (0x1c ∷ []) ∷ 0xf0 holds (0xffffffff ∷ []) ∷ [])) 1
    (word 0xf0 is 0 ∷ word 0xf8 is 4 ∷ vadr is 0x1003 ∷ a is 0x1003 ∷ pc is 0x40 ∷ []) ∷
    []

pub traps : Hold lines
unfolding Both
traps =
    (tt, tt) also  -- a key
    (tt, tt) also  -- one key a step
    (tt, tt) also  -- the timer rises
    (tt, tt) also  -- the timer's trap
    (tt, tt) also  -- IDLE
    (tt, tt) also  -- a key ends waiting
    (tt, tt) also  -- TRAP from user mode
    (tt, tt) also  -- RTI to user mode
    (tt, tt) also  -- TRAP from kernel mode
    (tt, tt) also  -- RTI to kernel mode
    (tt, tt) also  -- RTI in user mode
    (tt, tt) also  -- an illegal opcode
    (tt, tt) also  -- a fetch fault
    (tt, tt) also  -- a read fault
    done
