-- Document 01, "Opcodes": "Privileged: the source's fifteen, and SSP", and what some of them do.
use Rattle.std.specs.Prelude.{ℕ, List, [], ◌∷◌}
use Rattle.rules.specs.Record.{put_a}
use Rattle.worked.specs.Start.{fresh, put_b, put_ksp, in_user, enabled, key, small}
use Rattle.worked.specs.Line.{a, pc, usp, ksp, pdir, vadr, timer, timeout, kbchar, stop, waiting, written, output, word, ◌is◌, Line, line, keyed, shown, Both, Hold, done, ◌also◌}

-- an instruction in user mode, iena 1, ksp 0x80: its frame's code is FPRIV and 16, 19
abbrev forbidden : ℕ → Line
forbidden w = line (in_user (enabled (put_ksp 0x80 fresh))) (small (w ∷ [])) 1 (word 0x70 is 19 ∷ word 0x78 is 4 ∷ ksp is 0x80 ∷ stop is 0 ∷ [])

abbrev pub privileged : List Line
privileged =
    forbidden 0x00 ∷ forbidden 0x96 ∷ forbidden 0x97 ∷ forbidden 0x98 ∷ forbidden 0x99 ∷ forbidden 0x9a ∷ forbidden 0x9c ∷ forbidden 0xa4
    ∷ forbidden 0xa5 ∷ forbidden 0xa6 ∷ forbidden 0xa7 ∷ forbidden 0xa8 ∷ forbidden 0xaa ∷ forbidden 0xab ∷ forbidden 0xb0 ∷ forbidden 0xd1 ∷ []

pub privileged_hold : Hold privileged
unfolding Both
privileged_hold =
    (tt, tt) also  -- HALT
    (tt, tt) also  -- CLI
    (tt, tt) also  -- STI
    (tt, tt) also  -- RTI
    (tt, tt) also  -- BIN
    (tt, tt) also  -- BOUT
    (tt, tt) also  -- SSP
    (tt, tt) also  -- IVEC
    (tt, tt) also  -- PDIR
    (tt, tt) also  -- SPAG
    (tt, tt) also  -- TIME
    (tt, tt) also  -- LVAD
    (tt, tt) also  -- LUSP
    (tt, tt) also  -- SUSP
    (tt, tt) also  -- MSIZ
    (tt, tt) also  -- IDLE
    done

abbrev pub devices : List Line
devices =
    -- "SSP and SUSP set ksp and usp", which "drop their low three bits"
    line (put_a 0x80f fresh) (small (0x9c ∷ 0xab ∷ [])) 2 (ksp is 0x808 ∷ usp is 0x808 ∷ []) ∷
    -- "PDIR: a not below M is FMEM with vadr = a"; else "low twelve bits drop"
    line (put_a 0x1000 fresh) (small (0xa5 ∷ [])) 1 (stop is 2 ∷ vadr is 0x1000 ∷ pdir is 0 ∷ pc is 0 ∷ []) ∷
    line (put_a 0xfff fresh) (small (0xa5 ∷ [])) 1 (stop is 0 ∷ pdir is 0 ∷ pc is 4 ∷ []) ∷
    -- "BIN: a = kbchar, then kbchar = 0xFFFFFFFF"
    keyed (key 1 65 ∷ []) fresh (small (0x99 ∷ [])) 1 (a is 65 ∷ kbchar is 0xffffffff ∷ []) ∷
    -- "BOUT: b's low byte appended, a = 1; console full, a = 0xFFFFFFFF": a console of one byte
    shown (0 ∷ []) (put_b 0x1ff fresh) (small (0x9a ∷ [])) 1 (a is 1 ∷ output 0 is 0xff ∷ written is 1 ∷ []) ∷
    shown (0 ∷ []) (put_b 0x1ff fresh) (small (0x9a ∷ 0x9a ∷ [])) 2 (a is 0xffffffff ∷ output 0 is 0xff ∷ written is 1 ∷ stop is 0 ∷ []) ∷
    -- "TIME with imm not 0 does nothing"
    line (put_a 9 fresh) (small (0xa7 ∷ [])) 1 (timeout is 9 ∷ timer is 0 ∷ []) ∷
    line (put_a 9 fresh) (small (0x1a7 ∷ [])) 1 (timeout is 0 ∷ pc is 4 ∷ []) ∷
    -- "IDLE: waiting = iena": iena 0
    line fresh (small (0xd1 ∷ [])) 1 (waiting is 0 ∷ pc is 4 ∷ []) ∷
    -- MSIZ gives M
    line fresh (small (0xb0 ∷ [])) 1 (a is 4096 ∷ []) ∷
    []

pub devices_hold : Hold devices
unfolding Both
devices_hold =
    (tt, tt) also  -- SSP, SUSP
    (tt, tt) also  -- PDIR, refused
    (tt, tt) also  -- PDIR
    (tt, tt) also  -- BIN
    (tt, tt) also  -- BOUT
    (tt, tt) also  -- BOUT, console full
    (tt, tt) also  -- TIME 0
    (tt, tt) also  -- TIME 1
    (tt, tt) also  -- IDLE
    (tt, tt) also  -- MSIZ
    done
