-- Document 02, item 4: why a page was refused, in both machines. Causes: 1 address beyond memory, 2 directory absent, 3 directory beyond memory, 4 table absent,
-- 5 no user right, 6 no write right, 7 frame beyond memory; 0 none. Memory and records with paging on are those of Pages: page 0x803 has its directory word at 8 and
-- its table word at 12.
use Rattle.std.specs.Prelude.{List, [], ◌∷◌}
use Rattle.paging.specs.declared.Cause.TheVariants.{NoWriteRight}
use Rattle.rules.specs.declared.Cpu.{Cpu}
use Rattle.rules.specs.Record.{put_a}
use Rattle.worked.specs.Start.{fresh, put_b, put_sp, put_pc, put_ivec, in_user, enabled, after_fault, key, small}
use Rattle.worked.specs.Line.{a, sp, pc, vadr, cause, stop, word, ◌is◌, Line, line, keyed, Both, Hold, done, ◌also◌}
use Rattle.worked.specs.Pages.{kernel, program, tables}

-- a record that has a cause and vadr from an earlier fault
abbrev faulted : Cpu
faulted = after_fault NoWriteRight 0x44 fresh

abbrev pub lines : List Line
lines =
    -- "none at first": NOP
    line fresh (small (0x9b ∷ [])) 1 (pc is 4 ∷ vadr is 0 ∷ cause is 0 ∷ []) ∷
    -- "address beyond memory", paging off: a fetch; a read, LX 0; a write, SX 0
    line (put_pc 0x1000 fresh) (small []) 1 (stop is 2 ∷ vadr is 0x1000 ∷ cause is 1 ∷ []) ∷
    line (put_a 0x1003 fresh) (small (0x1c ∷ [])) 1 (stop is 2 ∷ vadr is 0x1003 ∷ cause is 1 ∷ []) ∷
    line (put_b 0x1000 fresh) (small (0x4a ∷ [])) 1 (stop is 2 ∷ vadr is 0x1000 ∷ cause is 1 ∷ []) ∷
    -- "PDIR's own fault counts as address beyond memory"
    line (put_a 0x1000 fresh) (small (0xa5 ∷ [])) 1 (stop is 2 ∷ vadr is 0x1000 ∷ cause is 1 ∷ []) ∷
    -- "directory absent", whatever else is wrong with its word: a fetch, FIPAGE 7
    line (put_pc 0x803000 kernel) (tables 0x06 0x07 0) 1 (word 0x1f0 is 7 ∷ vadr is 0x803000 ∷ cause is 2 ∷ []) ∷
    line (put_a 0x803000 program) (tables 0x1000 0x07 0x1c) 1 (word 0x1f0 is 25 ∷ vadr is 0x803000 ∷ cause is 2 ∷ []) ∷
    -- "directory beyond memory", FMEM 0: before the rights that its word lacks; a user's write, SX 0
    line (put_b 0x803000 program) (tables 0x1001 0x07 0x4a) 1 (word 0x1f0 is 16 ∷ vadr is 0x803000 ∷ cause is 3 ∷ []) ∷
    -- "table absent": before its rights and its frame; a user's write, FWPAGE 8 and 16
    line (put_b 0x803000 program) (tables 0x07 0x1000 0x4a) 1 (word 0x1f0 is 24 ∷ vadr is 0x803000 ∷ cause is 4 ∷ []) ∷
    -- "no user right", in the table word or in the directory word: a read, FRPAGE 9 and 16
    line (put_a 0x803003 program) (tables 0x07 0x03 0x1c) 1 (word 0x1f0 is 25 ∷ vadr is 0x803003 ∷ cause is 5 ∷ []) ∷
    line (put_a 0x803003 program) (tables 0x03 0x07 0x1c) 1 (word 0x1f0 is 25 ∷ vadr is 0x803003 ∷ cause is 5 ∷ []) ∷
    -- before the write right and the frame: a user's write to a page with neither right, its frame beyond memory
    line (put_b 0x803000 program) (tables 0x07 0x1001 0x4a) 1 (word 0x1f0 is 24 ∷ vadr is 0x803000 ∷ cause is 5 ∷ []) ∷
    -- "no write right", in the table word or in the directory word: the kernel's write, FWPAGE 8; a user's
    line (put_b 0x803000 kernel) (tables 0x07 0x05 0x4a) 1 (word 0x1f0 is 8 ∷ vadr is 0x803000 ∷ cause is 6 ∷ []) ∷
    line (put_b 0x803000 kernel) (tables 0x05 0x07 0x4a) 1 (word 0x1f0 is 8 ∷ vadr is 0x803000 ∷ cause is 6 ∷ []) ∷
    line (put_b 0x803000 program) (tables 0x07 0x05 0x4a) 1 (word 0x1f0 is 24 ∷ vadr is 0x803000 ∷ cause is 6 ∷ []) ∷
    -- before the frame: the kernel's write, W clear and the frame beyond memory
    line (put_b 0x803000 kernel) (tables 0x07 0x1001 0x4a) 1 (word 0x1f0 is 8 ∷ vadr is 0x803000 ∷ cause is 6 ∷ []) ∷
    -- "frame beyond memory", FMEM 0: the kernel's read there
    line (put_a 0x803000 kernel) (tables 0x07 0x1001 0x1c) 1 (word 0x1f0 is 0 ∷ vadr is 0x803000 ∷ cause is 7 ∷ []) ∷
    -- "set whenever vadr is": a stop with 3 has the fault's, not the refused slot's; the second read of RTI
    line (enabled (put_sp 0 (put_a 0x1003 fresh))) (small (0x1c ∷ [])) 1 (stop is 3 ∷ vadr is 0x1003 ∷ cause is 1 ∷ []) ∷
    line (put_sp 0xff8 faulted) (small (0x98 ∷ [])) 1 (stop is 2 ∷ sp is 0xff8 ∷ vadr is 0x1000 ∷ cause is 1 ∷ []) ∷
    -- the latest: an older one is replaced
    line (put_a 0x1003 faulted) (small (0x1c ∷ [])) 1 (stop is 2 ∷ vadr is 0x1003 ∷ cause is 1 ∷ []) ∷
    -- what doesn't set vadr keeps both: a refused slot, TRAP; FSYS, FINST, FPRIV and FARITH, DIV by 0; LVAD
    line (enabled (put_sp 0 faulted)) (small (0xa9 ∷ [])) 1 (stop is 3 ∷ vadr is 0x44 ∷ cause is 6 ∷ []) ∷
    line (enabled (put_ivec 0x40 faulted)) (small (0xa9 ∷ [])) 1 (word 0xff0 is 5 ∷ pc is 0x40 ∷ vadr is 0x44 ∷ cause is 6 ∷ []) ∷
    line faulted (small (0xff ∷ [])) 1 (stop is 2 ∷ vadr is 0x44 ∷ cause is 6 ∷ []) ∷
    line (in_user faulted) (small (0x00 ∷ [])) 1 (stop is 2 ∷ vadr is 0x44 ∷ cause is 6 ∷ []) ∷
    line faulted (small (0x5c ∷ [])) 1 (stop is 2 ∷ vadr is 0x44 ∷ cause is 6 ∷ []) ∷
    line faulted (small (0xa8 ∷ [])) 1 (stop is 0 ∷ a is 0x44 ∷ vadr is 0x44 ∷ cause is 6 ∷ []) ∷
    -- and an interrupt: a key
    keyed (key 1 65 ∷ []) (enabled (put_ivec 0x40 faulted)) (small []) 1 (word 0xff0 is 2 ∷ pc is 0x40 ∷ vadr is 0x44 ∷ cause is 6 ∷ []) ∷
    []

pub causes : Hold lines
unfolding Both
causes =
    (tt, tt) also  -- none at first
    (tt, tt) also  -- 1, a fetch
    (tt, tt) also  -- 1, a read
    (tt, tt) also  -- 1, a write
    (tt, tt) also  -- PDIR's own fault
    (tt, tt) also  -- 2, a fetch
    (tt, tt) also  -- 2 before 3
    (tt, tt) also  -- 3 before the rights
    (tt, tt) also  -- 4 before the rights and the frame
    (tt, tt) also  -- 5, in the table word
    (tt, tt) also  -- 5, in the directory word
    (tt, tt) also  -- 5 before 6 and 7
    (tt, tt) also  -- 6, in the table word
    (tt, tt) also  -- 6, in the directory word
    (tt, tt) also  -- 6, a user's write
    (tt, tt) also  -- 6 before 7
    (tt, tt) also  -- 7
    (tt, tt) also  -- a stop with 3 after a fault
    (tt, tt) also  -- the second read of RTI
    (tt, tt) also  -- an older cause replaced
    (tt, tt) also  -- kept by a refused slot
    (tt, tt) also  -- kept by FSYS
    (tt, tt) also  -- kept by FINST
    (tt, tt) also  -- kept by FPRIV
    (tt, tt) also  -- kept by FARITH
    (tt, tt) also  -- kept by LVAD
    (tt, tt) also  -- kept by an interrupt
    done
