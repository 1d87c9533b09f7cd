-- The privileged opcode bytes, written out. Document 01, "Opcodes": "Privileged: the source's fifteen, and SSP".
use Rattle.std.specs.Prelude.{List, [], ◌∷◌, ℕ}

-- the opcodes that are refused in user mode
abbrev pub privileged : List ℕ
privileged =
    0x00 ∷  -- HALT
    0x96 ∷  -- CLI
    0x97 ∷  -- STI
    0x98 ∷  -- RTI
    0x99 ∷  -- BIN
    0x9a ∷  -- BOUT
    0x9c ∷  -- SSP
    0xa4 ∷  -- IVEC
    0xa5 ∷  -- PDIR
    0xa6 ∷  -- SPAG
    0xa7 ∷  -- TIME
    0xa8 ∷  -- LVAD
    0xaa ∷  -- LUSP
    0xab ∷  -- SUSP
    0xb0 ∷  -- MSIZ
    0xd1 ∷  -- IDLE
    []
