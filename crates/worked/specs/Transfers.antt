-- Document 01, "Opcodes": loads, stores, pushes and jumps.
use Rattle.std.specs.Prelude.{ℕ, List, [], ◌∷◌}
use Rattle.rules.specs.Record.{put_a}
use Rattle.worked.specs.Start.{fresh, put_b, put_sp, put_pc, ◌holds◌, memory, small}
use Rattle.worked.specs.Line.{a, sp, pc, vadr, stop, word, ◌is◌, Line, line, Both, Hold, done, ◌also◌}

-- the instruction at 0, and ones in the eight bytes from 0x200 on
abbrev ones : ℕ → List ℕ
ones w = memory 4096 (0 holds (w ∷ []) ∷ 0x200 holds (0xffffffff ∷ 0xffffffff ∷ []) ∷ [])

-- the instruction at 0, and 0x8081 at 0x200
abbrev signs : ℕ → List ℕ
signs w = memory 4096 (0 holds (w ∷ []) ∷ 0x200 holds (0x8081 ∷ []) ∷ [])

abbrev pub lines : List Line
lines =
    -- "SLB, SGB, SXB store one byte": at sp + 0, at pc + 0x1fc, at b + 0
    line (put_a 0x11223344 (put_sp 0x200 fresh)) (ones 0x42) 1 (word 0x200 is 0xffffff44 ∷ []) ∷
    line (put_a 0x11223344 fresh) (ones 0x1fc47) 1 (word 0x200 is 0xffffff44 ∷ []) ∷
    line (put_a 0x11223344 (put_b 0x200 fresh)) (ones 0x4c) 1 (word 0x200 is 0xffffff44 ∷ []) ∷
    -- "S and C forms extend the sign, H and B don't": LXS, LXH, LXC, LXB
    line (put_a 0x200 fresh) (signs 0x1d) 1 (a is 0xffff8081 ∷ []) ∷
    line (put_a 0x200 fresh) (signs 0x1e) 1 (a is 0x8081 ∷ []) ∷
    line (put_a 0x200 fresh) (signs 0x1f) 1 (a is 0xffffff81 ∷ []) ∷
    line (put_a 0x200 fresh) (signs 0x20) 1 (a is 0x81 ∷ []) ∷
    -- "Pushes lower sp first .. a push stores four bytes and keeps the other four": PSHA
    line (put_a 5 (put_sp 0x208 fresh)) (ones 0x9d) 1 (word 0x200 is 5 ∷ word 0x204 is 0xffffffff ∷ sp is 0x200 ∷ []) ∷
    -- a refused push changes no register: sp 0
    line (put_a 5 (put_sp 0 fresh)) (ones 0x9d) 1 (stop is 2 ∷ sp is 0 ∷ vadr is 0xfffffff8 ∷ []) ∷
    -- "JMPI is pc + imm + (a shifted right by 2, unsigned)": 4 + 0x10 + 0x20
    line (put_a 0x83 fresh) (small (0x1004 ∷ [])) 1 (pc is 0x34 ∷ []) ∷
    -- JMP -4 goes to itself; LEAG 8 is counted from the moved pc
    line (put_pc 0x100 fresh) (memory 4096 (0x100 holds (0xfffffc03 ∷ []) ∷ [])) 1 (pc is 0x100 ∷ []) ∷
    line (put_pc 0x100 fresh) (memory 4096 (0x100 holds (0x0808 ∷ []) ∷ [])) 1 (a is 0x10c ∷ []) ∷
    []

pub transfers : Hold lines
unfolding Both
transfers =
    (tt, tt) also  -- SLB
    (tt, tt) also  -- SGB
    (tt, tt) also  -- SXB
    (tt, tt) also  -- LXS
    (tt, tt) also  -- LXH
    (tt, tt) also  -- LXC
    (tt, tt) also  -- LXB
    (tt, tt) also  -- PSHA
    (tt, tt) also  -- PSHA, refused
    (tt, tt) also  -- JMPI
    (tt, tt) also  -- JMP
    (tt, tt) also  -- LEAG
    done
