-- Document 01, "Addresses": what a walk marks and refuses, in both machines.
-- Memory is 4,096 bytes and pdir 0. The directory is its own table, so the word at 4 × n is page n's; page 1 holds code and stack, at frame 0.
-- Addresses from 0x800000 on have their directory word at 8. A trap frame lies at 0x1f0 (code) and 0x1f8 (pc).
use Rattle.std.specs.Prelude.{ℕ, List, [], ◌∷◌}
use Rattle.rules.specs.declared.Cpu.{Cpu}
use Rattle.rules.specs.Record.{put_a}
use Rattle.worked.specs.Start.{fresh, put_b, put_sp, put_pc, put_ksp, put_ivec, in_user, enabled, paged_from, ◌holds◌, memory}
use Rattle.worked.specs.Line.{a, sp, pc, usp, vadr, user, iena, stop, word, ◌is◌, Line, line, Both, Hold, done, ◌also◌}

abbrev pub kernel : Cpu
kernel = paged_from 0 (enabled (put_ivec 0x1180 (put_pc 0x1100 (put_sp 0x1200 fresh))))

abbrev pub program : Cpu
program = in_user (put_ksp 0x1200 (put_sp 0x1400 kernel))

-- the words of pages 0 to 3, an instruction at 0x1100, and a frame's place that holds other bytes
abbrev pub tables : (page2 page3 instruction : ℕ) → List ℕ
tables two three w = memory 4096 (0 holds (0x07 ∷ 0x07 ∷ two ∷ three ∷ []) ∷ 0x100 holds (w ∷ []) ∷ 0x1f0 holds (0xffffffff ∷ []) ∷ 0x300 holds (0x77 ∷ []) ∷ [])

abbrev pub lines : List Line
lines =
    -- "Without P: page fault", and no mark: a fetch, FIPAGE 7
    line (put_pc 0x803000 kernel) (tables 0x06 0x07 0) 1
    (word 0x1f0 is 7 ∷ word 0x1f8 is 0x803000 ∷ vadr is 0x803000 ∷ word 8 is 0x06 ∷ word 12 is 0x07 ∷ pc is 0x1180 ∷ sp is 0x11f0 ∷ []) ∷
    -- "Set A there", and then the table word has no P: a fetch
    line (put_pc 0x803000 kernel) (tables 0x07 0x06 0) 1 (word 0x1f0 is 7 ∷ word 0x1f8 is 0x803000 ∷ word 8 is 0x27 ∷ word 12 is 0x06 ∷ []) ∷
    -- the same for a read, FRPAGE 9; "the address asked, before low bits drop": LX 0
    line (put_a 0x803003 kernel) (tables 0x07 0x06 0x1c) 1
    (word 0x1f0 is 9 ∷ word 0x1f8 is 0x1104 ∷ vadr is 0x803003 ∷ word 8 is 0x27 ∷ word 12 is 0x06 ∷ a is 0x803003 ∷ []) ∷
    -- "for a write W in both words", FWPAGE 8: not in the table word, not in the directory word; SX 0
    line (put_b 0x803000 kernel) (tables 0x07 0x05 0x4a) 1 (word 0x1f0 is 8 ∷ vadr is 0x803000 ∷ word 8 is 0x27 ∷ word 12 is 0x05 ∷ word 0 is 0x27 ∷ []) ∷
    line (put_b 0x803000 kernel) (tables 0x05 0x07 0x4a) 1 (word 0x1f0 is 8 ∷ vadr is 0x803000 ∷ word 8 is 0x25 ∷ word 12 is 0x07 ∷ []) ∷
    -- "in user mode U in both words": FRPAGE 9 and 16
    line (put_a 0x803000 program) (tables 0x07 0x03 0x1c) 1 (word 0x1f0 is 25 ∷ word 8 is 0x27 ∷ word 12 is 0x03 ∷ user is 0 ∷ usp is 0x1400 ∷ []) ∷
    line (put_a 0x803000 program) (tables 0x03 0x07 0x1c) 1 (word 0x1f0 is 25 ∷ word 8 is 0x23 ∷ word 12 is 0x07 ∷ user is 0 ∷ usp is 0x1400 ∷ []) ∷
    -- the kernel reads there: "Set A" in both words
    line (put_a 0x803300 kernel) (tables 0x03 0x03 0x1c) 1 (a is 0x77 ∷ word 8 is 0x23 ∷ word 12 is 0x23 ∷ stop is 0 ∷ pc is 0x1104 ∷ []) ∷
    -- "if its frame address is not below M, FMEM": of the directory word, after its A
    line (put_a 0x803000 kernel) (tables 0x1007 0x07 0x1c) 1 (word 0x1f0 is 0 ∷ vadr is 0x803000 ∷ word 8 is 0x1027 ∷ word 12 is 0x07 ∷ []) ∷
    -- "for a write A and D. If its frame is not below M, FMEM"
    line (put_b 0x3000 kernel) (tables 0 0x1007 0x4a) 1 (word 0x1f0 is 0 ∷ vadr is 0x3000 ∷ word 12 is 0x1067 ∷ word 0 is 0x27 ∷ []) ∷
    -- bits 3, 4 and 7 to 11 mean nothing and stay
    line (put_a 0x3300 kernel) (tables 0 0xf9f 0x1c) 1 (a is 0x77 ∷ word 12 is 0xfbf ∷ []) ∷
    -- a refused slot: the first lies on page 4, the second on page 3, which has no W. "walk marks and entries stay"; nothing is stored; TRAP
    line (put_sp 0x4008 kernel) (memory 4096 (0 holds (0x07 ∷ 0x07 ∷ 0 ∷ 0x05 ∷ 0x07 ∷ []) ∷ 0x100 holds (0xa9 ∷ []) ∷ [])) 1
    (stop is 3 ∷ vadr is 0 ∷ sp is 0x4008 ∷ pc is 0x1100 ∷ iena is 1 ∷ word 0 is 0x27 ∷ word 16 is 0x67 ∷ word 12 is 0x05 ∷ []) ∷
    []

pub pages : Hold lines
unfolding Both
pages =
    (tt, tt) also  -- a fetch, no P in the directory word
    (tt, tt) also  -- a fetch, no P in the table word
    (tt, tt) also  -- a read, no P in the table word
    (tt, tt) also  -- a write, no W in the table word
    (tt, tt) also  -- a write, no W in the directory word
    (tt, tt) also  -- a user read, no U in the table word
    (tt, tt) also  -- a user read, no U in the directory word
    (tt, tt) also  -- a kernel read without U
    (tt, tt) also  -- the directory's frame not below M
    (tt, tt) also  -- the frame not below M
    (tt, tt) also  -- bits without meaning
    (tt, tt) also  -- a refused slot
    done
