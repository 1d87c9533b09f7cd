-- Document 01, "Opcodes": its decisions on arithmetic and comparisons.
use Rattle.std.specs.Prelude.{ℕ, List, [], ◌∷◌}
use Rattle.rules.specs.declared.Cpu.{Cpu}
use Rattle.rules.specs.Record.{put_a}
use Rattle.worked.specs.Start.{fresh, put_b, put_sp, put_count, enabled, ◌holds◌, memory, small}
use Rattle.worked.specs.Line.{a, b, pc, vadr, stop, word, ◌is◌, Line, line, Both, Hold, done, ◌also◌}

-- a and b; sp is 0x100
abbrev operands : (a b : ℕ) → Cpu
operands x y = put_a x (put_b y (put_sp 0x100 fresh))

abbrev pub lines : List Line
lines =
    -- "LHI and LBHI give register × 2^24 plus the unsigned field, unshifted": the register's upper bits fall out
    line (put_a 0xabcdef12 fresh) (small (0xf4567824 ∷ [])) 1 (a is 0x12f45678 ∷ []) ∷
    line (put_b 0xabcdef12 fresh) (small (0xf456783c ∷ [])) 1 (b is 0x12f45678 ∷ []) ∷
    -- "GE, GEU, BGE, BGEU are ≥": a = b; and a = -1, b = 1, signed and not
    line (operands 7 7) (small (0x82 ∷ [])) 1 (a is 1 ∷ []) ∷
    line (operands 7 7) (small (0x1090 ∷ [])) 1 (pc is 0x14 ∷ []) ∷
    line (operands 0xffffffff 1) (small (0x81 ∷ [])) 1 (a is 0 ∷ []) ∷
    line (operands 0xffffffff 1) (small (0x82 ∷ [])) 1 (a is 1 ∷ []) ∷
    line (operands 0xffffffff 1) (small (0x108f ∷ [])) 1 (pc is 4 ∷ []) ∷
    line (operands 0xffffffff 1) (small (0x1090 ∷ [])) 1 (pc is 0x14 ∷ []) ∷
    -- "SUBL reads memory": 10 less the word at sp + 8
    line (operands 10 0) (memory 4096 (0 holds (0x0858 ∷ []) ∷ 0x108 holds (3 ∷ []) ∷ [])) 1 (a is 7 ∷ []) ∷
    -- ".. the word at sp+imm": a fault of that access is FMEM, not the difference; sp 0x1000
    line (put_a 10 fresh) (small (0x0858 ∷ [])) 1 (stop is 2 ∷ vadr is 0x1008 ∷ a is 10 ∷ []) ∷
    -- "-2^31 by -1 gives 0x80000000 and 0": DIV, MOD
    line (operands 0x80000000 0xffffffff) (small (0x5c ∷ [])) 1 (a is 0x80000000 ∷ []) ∷
    line (operands 0x80000000 0xffffffff) (small (0x62 ∷ [])) 1 (a is 0 ∷ []) ∷
    -- "Zero divisor: FARITH": 6 in the frame, and a stays
    line (enabled (operands 7 0)) (small (0x5c ∷ [])) 1 (word 0xf0 is 6 ∷ word 0xf8 is 4 ∷ a is 7 ∷ []) ∷
    -- "Shift counts are taken modulo 32": SHL by 33
    line (operands 5 33) (small (0x71 ∷ [])) 1 (a is 10 ∷ []) ∷
    -- "All 32-bit sums, differences and products wrap": ADDI -1, SUB, MUL
    line (operands 0 1) (small (0xffffff54 ∷ [])) 1 (a is 0xffffffff ∷ []) ∷
    line (operands 0 1) (small (0x56 ∷ [])) 1 (a is 0xffffffff ∷ []) ∷
    line (operands 0x10001 0x10001) (small (0x59 ∷ [])) 1 (a is 0x20001 ∷ []) ∷
    -- "CYC: a = low 32 bits of step count", as this step raised it
    line (put_count 0x100000005 fresh) (small (0x09 ∷ [])) 1 (a is 6 ∷ []) ∷
    []

pub operations : Hold lines
unfolding Both
operations =
    (tt, tt) also  -- LHI
    (tt, tt) also  -- LBHI
    (tt, tt) also  -- GEU, equal
    (tt, tt) also  -- BGEU, equal
    (tt, tt) also  -- GE, signed
    (tt, tt) also  -- GEU, unsigned
    (tt, tt) also  -- BGE, signed
    (tt, tt) also  -- BGEU, unsigned
    (tt, tt) also  -- SUBL
    (tt, tt) also  -- SUBL, its access refused
    (tt, tt) also  -- DIV of -2^31 by -1
    (tt, tt) also  -- MOD of -2^31 by -1
    (tt, tt) also  -- a zero divisor
    (tt, tt) also  -- SHL by 33
    (tt, tt) also  -- ADDI -1
    (tt, tt) also  -- SUB
    (tt, tt) also  -- MUL
    (tt, tt) also  -- CYC
    done
