-- Document 01, "Opcodes": "Block opcodes do one byte a step". P10 is MCPY's line.
use Rattle.std.specs.Prelude.{ℕ, List, [], ◌∷◌}
use Rattle.rules.specs.declared.Cpu.{Cpu}
use Rattle.rules.specs.Record.{put_a}
use Rattle.worked.specs.Start.{fresh, put_b, put_c, ◌holds◌, memory}
use Rattle.worked.specs.Line.{a, b, c, pc, word, ◌is◌, Line, line, Both, Hold, done, ◌also◌}

-- bytes 1 2 3 0 at 0x100, 1 2 4 0 at 0x200
abbrev two : ℕ → List ℕ
two w = memory 4096 (0 holds (w ∷ []) ∷ 0x100 holds (0x030201 ∷ []) ∷ 0x200 holds (0x040201 ∷ []) ∷ [])

abbrev block : ℕ → Cpu
block n = put_a 0x100 (put_b 0x200 (put_c n fresh))

abbrev pub lines : List Line
lines =
    -- "with c = 0 they finish (MCMP, MCHR: a = 0)"
    line (block 0) (two 0x0b) 1 (a is 0 ∷ b is 0x200 ∷ pc is 4 ∷ []) ∷
    line (block 0) (two 0x0c) 1 (a is 0 ∷ pc is 4 ∷ []) ∷
    line (block 0) (two 0x0a) 1 (a is 0x100 ∷ pc is 4 ∷ []) ∷
    -- MCMP: "pc returns to the instruction unless the loop broke"; it breaks at the third byte, 4 - 3; b += c
    line (block 9) (two 0x0b) 2 (a is 0x102 ∷ b is 0x202 ∷ c is 7 ∷ pc is 0 ∷ []) ∷
    line (block 9) (two 0x0b) 3 (a is 1 ∷ b is 0x209 ∷ c is 0 ∷ pc is 4 ∷ []) ∷
    -- "MCHR and MSET use b's low byte"
    line (put_b 0x302 (block 9)) (two 0x0c) 2 (a is 0x101 ∷ c is 0 ∷ pc is 4 ∷ []) ∷
    line (put_b 0x302 (block 1)) (two 0x0d) 2 (word 0x100 is 0x030202 ∷ a is 0x101 ∷ c is 0 ∷ pc is 4 ∷ []) ∷
    []

pub blocks : Hold lines
unfolding Both
blocks =
    (tt, tt) also  -- MCMP, c = 0
    (tt, tt) also  -- MCHR, c = 0
    (tt, tt) also  -- MCPY, c = 0
    (tt, tt) also  -- MCMP, equal bytes
    (tt, tt) also  -- MCMP, the loop breaks
    (tt, tt) also  -- MCHR
    (tt, tt) also  -- MSET
    done
