-- Document 01, "Worked lines": P1 to P12 as one list, computed over the rules for the machine with the page buffer and for the table reader.
-- Memory is 4,096 bytes, and 16,384 in P11 and P12. The words are the instructions' own, by the opcode tables of source 000.
use Rattle.std.specs.Prelude.{ℕ, List, [], ◌∷◌}
use Rattle.rules.specs.declared.Cpu.{Cpu}
use Rattle.rules.specs.Record.{put_a}
use Rattle.worked.specs.Start.{fresh, put_b, put_c, put_sp, put_pc, put_ksp, put_ivec, in_user, enabled, paged_from, ◌holds◌, memory, small}
use Rattle.worked.specs.Line.{a, b, c, sp, pc, usp, vadr, user, iena, stop, byte, word, ◌is◌, Line, line, Both, Hold, done, ◌also◌}

-- "P1 LI 0, LHI 0x927C00: a = 9,600,000". Register a is not 0 before, so that LI is seen
abbrev pub P1 : Line
P1 = line (put_a 0xabcdef12 fresh) (small (0x00000023 ∷ 0x927c0024 ∷ [])) 2 (a is 9600000 ∷ [])

pub P1_holds : Both P1
unfolding Both
P1_holds = (tt, tt)

-- "P2 LI 0xFFFFFF: a = 0xFFFFFFFF"
abbrev pub P2 : Line
P2 = line fresh (small (0xffffff23 ∷ [])) 1 (a is 0xffffffff ∷ [])

pub P2_holds : Both P2
unfolding Both
P2_holds = (tt, tt)

-- "P3 a = 0xFFFFFFF9, b = 2: DIV 0xFFFFFFFD, MOD 0xFFFFFFFF, DVU 2,147,483,644"
abbrev P3_from : Cpu
P3_from = put_a 0xfffffff9 (put_b 2 fresh)

abbrev pub P3_DIV : Line
P3_DIV = line P3_from (small (0x5c ∷ [])) 1 (a is 0xfffffffd ∷ [])

pub P3_DIV_holds : Both P3_DIV
unfolding Both
P3_DIV_holds = (tt, tt)

abbrev pub P3_MOD : Line
P3_MOD = line P3_from (small (0x62 ∷ [])) 1 (a is 0xffffffff ∷ [])

pub P3_MOD_holds : Both P3_MOD
unfolding Both
P3_MOD_holds = (tt, tt)

abbrev pub P3_DVU : Line
P3_DVU = line P3_from (small (0x5f ∷ [])) 1 (a is 2147483644 ∷ [])

pub P3_DVU_holds : Both P3_DVU
unfolding Both
P3_DVU_holds = (tt, tt)

-- "P4 a = 0x80000000: SHRI 31 gives 0xFFFFFFFF, SRUI 31 gives 1, SHRI 32 no change"
abbrev P4_from : Cpu
P4_from = put_a 0x80000000 fresh

abbrev pub P4_SHRI_31 : Line
P4_SHRI_31 = line P4_from (small (0x1f75 ∷ [])) 1 (a is 0xffffffff ∷ [])

pub P4_SHRI_31_holds : Both P4_SHRI_31
unfolding Both
P4_SHRI_31_holds = (tt, tt)

abbrev pub P4_SRUI_31 : Line
P4_SRUI_31 = line P4_from (small (0x1f78 ∷ [])) 1 (a is 1 ∷ [])

pub P4_SRUI_31_holds : Both P4_SRUI_31
unfolding Both
P4_SRUI_31_holds = (tt, tt)

abbrev pub P4_SHRI_32 : Line
P4_SHRI_32 = line P4_from (small (0x2075 ∷ [])) 1 (a is 0x80000000 ∷ [])

pub P4_SHRI_32_holds : Both P4_SHRI_32
unfolding Both
P4_SHRI_32_holds = (tt, tt)

-- "P5 word 0xFFFFE805 at 0x14, sp 0x1000: 0x18 stored at 0xFF8, sp 0xFF8, pc 0"
abbrev P5_from : Cpu
P5_from = put_pc 0x14 (put_sp 0x1000 fresh)

abbrev P5_mem : List ℕ
P5_mem = memory 4096 (0 holds (2 ∷ []) ∷ 0x14 holds (0xffffe805 ∷ []) ∷ [])

abbrev pub P5 : Line
P5 = line P5_from P5_mem 1 (word 0xff8 is 0x18 ∷ sp is 0xff8 ∷ pc is 0 ∷ [])

pub P5_holds : Both P5
unfolding Both
P5_holds = (tt, tt)

-- "P6 then word 2: pc 0x18, sp 0x1000"
abbrev pub P6 : Line
P6 = line P5_from P5_mem 2 (pc is 0x18 ∷ sp is 0x1000 ∷ [])

pub P6_holds : Both P6
unfolding Both
P6_holds = (tt, tt)

-- "P7 a = b: GE 1, BGE taken": BGE 0x10 at 0 goes to 0x14
abbrev P7_from : Cpu
P7_from = put_a 7 (put_b 7 fresh)

abbrev pub P7_GE : Line
P7_GE = line P7_from (small (0x81 ∷ [])) 1 (a is 1 ∷ [])

pub P7_GE_holds : Both P7_GE
unfolding Both
P7_GE_holds = (tt, tt)

abbrev pub P7_BGE : Line
P7_BGE = line P7_from (small (0x108f ∷ [])) 1 (pc is 0x14 ∷ [])

pub P7_BGE_holds : Both P7_BGE
unfolding Both
P7_BGE_holds = (tt, tt)

-- "P8 a = 0x11223344, b = 0x103, SX 0: bytes 0x100 on are 44 33 22 11". The bytes beside them stay
abbrev pub P8 : Line
P8 =
    line (put_a 0x11223344 (put_b 0x103 fresh)) (memory 4096 (0 holds (0x4a ∷ []) ∷ 0xfc holds (0xffffffff ∷ 0xffffffff ∷ 0xffffffff ∷ []) ∷ [])) 1
    (byte 0xff is 0xff ∷ byte 0x100 is 0x44 ∷ byte 0x101 is 0x33 ∷ byte 0x102 is 0x22 ∷ byte 0x103 is 0x11 ∷ byte 0x104 is 0xff ∷ [])

pub P8_holds : Both P8
unfolding Both
P8_holds = (tt, tt)

-- "P9 STI in user mode, iena 1: code 19": in the frame, below ksp
abbrev pub P9 : Line
P9 =
    line (in_user (enabled (put_ksp 0x80 (put_ivec 0x40 fresh)))) (small (0x97 ∷ [])) 1
    (word 0x70 is 19 ∷ word 0x78 is 4 ∷ sp is 0x70 ∷ pc is 0x40 ∷ usp is 4096 ∷ user is 0 ∷ iena is 0 ∷ stop is 0 ∷ [])

pub P9_holds : Both P9
unfolding Both
P9_holds = (tt, tt)

-- "P10 MCPY with c = 2: three steps": two for the bytes, and one that finds c = 0 and goes on
abbrev P10_from : Cpu
P10_from = put_a 0x100 (put_b 0x200 (put_c 2 fresh))

abbrev P10_mem : List ℕ
P10_mem = memory 4096 (0 holds (0x0a ∷ []) ∷ 0x200 holds (0x332211 ∷ []) ∷ [])

abbrev pub P10_two : Line
P10_two = line P10_from P10_mem 2 (pc is 0 ∷ c is 0 ∷ a is 0x102 ∷ b is 0x202 ∷ word 0x100 is 0x2211 ∷ [])

pub P10_two_holds : Both P10_two
unfolding Both
P10_two_holds = (tt, tt)

abbrev pub P10_three : Line
P10_three = line P10_from P10_mem 3 (pc is 4 ∷ c is 0 ∷ a is 0x102 ∷ b is 0x202 ∷ word 0x100 is 0x2211 ∷ [])

pub P10_three_holds : Both P10_three
unfolding Both
P10_three_holds = (tt, tt)

-- "P11 M 16,384, pdir 0x1000, word there 0x2007, word at 0x2000 0x3007". The code lies at 0x400100, physical address 0x100: its words are those at
-- 0x1004 and at 0, so that a fetch marks neither word of the access
abbrev P11_from : Cpu
P11_from = paged_from 0x1000 (put_pc 0x400100 fresh)

-- its memory, by the second word and the words from 0x100 on
abbrev P11_mem : (second : ℕ) → List ℕ → List ℕ
P11_mem w code =
    memory 16384
    (0 holds (0x0007 ∷ []) ∷ 0x100 holds code ∷ 0x1000 holds (0x2007 ∷ 0x0007 ∷ []) ∷ 0x2000 holds (w ∷ []) ∷ 0x3010 holds (0x1234 ∷ []) ∷ [])

-- "kernel read of 0x10 is at 0x3010, words become 0x2027, 0x3027": LX 0x10
abbrev pub P11_read : Line
P11_read = line P11_from (P11_mem 0x3007 (0x101c ∷ [])) 1 (a is 0x1234 ∷ word 0x1000 is 0x2027 ∷ word 0x2000 is 0x3027 ∷ [])

pub P11_read_holds : Both P11_read
unfolding Both
P11_read_holds = (tt, tt)

-- "a write makes the second 0x3067": SX 0x14, as the first access
abbrev pub P11_write : Line
P11_write =
    line (put_a 0x5678 P11_from) (P11_mem 0x3007 (0x144a ∷ [])) 1 (word 0x3014 is 0x5678 ∷ word 0x1000 is 0x2027 ∷ word 0x2000 is 0x3067 ∷ [])

pub P11_write_holds : Both P11_write
unfolding Both
P11_write_holds = (tt, tt)

-- and after the read: LX 0x10, SX 0x14
abbrev pub P11_read_write : Line
P11_read_write =
    line P11_from (P11_mem 0x3007 (0x101c ∷ 0x144a ∷ [])) 2 (word 0x3014 is 0x1234 ∷ word 0x1000 is 0x2027 ∷ word 0x2000 is 0x3067 ∷ [])

pub P11_read_write_holds : Both P11_read_write
unfolding Both
P11_read_write_holds = (tt, tt)

-- "P12 as P11, second word 0x4007: FMEM, word 0x4027": LX 0, a = 0x10. The stack lies on the code's page; the slot of the code, FMEM, is not 0 before
abbrev pub P12 : Line
P12 =
    line (enabled (put_a 0x10 (put_sp 0x400118 P11_from))) (P11_mem 0x4007 (0x1c ∷ 0 ∷ 0xffffffff ∷ [])) 1
    (word 0x108 is 0 ∷ word 0x110 is 0x400104 ∷ vadr is 0x10 ∷ a is 0x10 ∷ word 0x1000 is 0x2027 ∷ word 0x2000 is 0x4027 ∷ [])

pub P12_holds : Both P12
unfolding Both
P12_holds = (tt, tt)

abbrev pub lines : List Line
lines =
    P1 ∷ P2 ∷ P3_DIV ∷ P3_MOD ∷ P3_DVU ∷ P4_SHRI_31 ∷ P4_SRUI_31 ∷ P4_SHRI_32 ∷ P5 ∷ P6 ∷ P7_GE ∷ P7_BGE
    ∷ P8 ∷ P9 ∷ P10_two ∷ P10_three ∷ P11_read ∷ P11_write ∷ P11_read_write ∷ P12 ∷ []

-- P1 to P12, each in both machines
pub worked : Hold lines
worked =
    P1_holds also
    P2_holds also
    P3_DIV_holds also
    P3_MOD_holds also
    P3_DVU_holds also
    P4_SHRI_31_holds also
    P4_SRUI_31_holds also
    P4_SHRI_32_holds also
    P5_holds also
    P6_holds also
    P7_GE_holds also
    P7_BGE_holds also
    P8_holds also
    P9_holds also
    P10_two_holds also
    P10_three_holds also
    P11_read_holds also
    P11_write_holds also
    P11_read_write_holds also
    P12_holds also
    done
