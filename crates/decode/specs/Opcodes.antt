-- The opcode table: document 01, "Opcodes", and the opcode tables of source 000.
-- A byte that has no row is illegal: its line in 000 names f, g, rf, rg, double or float, or 000 has no line for it.
use Rattle.std.specs.Prelude.{List, [], ◌∷◌, Bool, true, false, ℕ, ◌/◌, ◌%◌, eqb, if◌then◌else◌}
use Rattle.word.specs.Word.{extend}
use Rattle.memory.specs.declared.Size.TheVariants.{Word, Half, Byte}
use Rattle.decode.specs.declared.Operand.TheVariants.{RegB, Imm, Stack}
use Rattle.decode.specs.declared.AluOp.TheVariants.{Add, Sub, Mul, Div, Dvu, Mod, Mdu, And, Or, Xor, Shl, Shr, Sru}
use Rattle.decode.specs.declared.Test.TheVariants.{Eq, Ne, Lt, Ltu, Ge, Geu}
use Rattle.decode.specs.declared.Reg.TheVariants as reg
use Rattle.decode.specs.declared.Base.TheVariants as base
use Rattle.decode.specs.declared.Format.TheVariants.{Uint, Short, Ushort, Char, Uchar}
use Rattle.decode.specs.declared.BlockOp.TheVariants.{Mcpy, Mcmp, Mchr, Mset}
use Rattle.decode.specs.declared.PlainOp.TheVariants.{Halt, Cli, Sti, Bin, Ssp, Ivec, Time, Lvad, Lusp, Susp, Msiz, Idle}
use Rattle.decode.specs.declared.SysOp.TheVariants.{Plain, Rti, Bout, Pdir, Spag}
use Rattle.decode.specs.declared.Instr.{Instr}
use Rattle.decode.specs.declared.Instr.TheVariants.{Illegal, Nop, Trap, Cyc, Jsra, Lba, Lca, Ent, Lev, Jmp, Jmpi, Jsr, Lea, Leag, Block, Load}
use Rattle.decode.specs.declared.Instr.TheVariants.{Store, LoadImm, LoadHigh, Alu, Compare, Bz, Bnz, Branch, Push, Pshi, Pop, Sys}

-- an opcode byte and the instruction that it stands for
pub record Row : Type 0 where
  pub code : ℕ
  pub means : Instr

infix 70 ◌is◌
-- a row, as the table writes it
abbrev pub ◌is◌ : ℕ → Instr → Row
k is i = record { code = k; means = i }

-- what the row of this opcode byte means; a byte without a row is illegal
abbrev pub find : ℕ → List Row → Instr
find op [] = Illegal
find op (r ∷ t) = let rest = find op t in if eqb op r.code then r.means else rest

-- the rows, by opcode byte; imm is the word's upper 24 bits with their sign, field the same bits without
unfoldable pub table : ℕ → ℕ → List Row
table imm field =
    0x00 is Sys (Plain Halt) ∷  -- HALT
    0x01 is Ent imm ∷  -- ENT
    0x02 is Lev imm ∷  -- LEV
    0x03 is Jmp imm ∷  -- JMP
    0x04 is Jmpi imm ∷  -- JMPI
    0x05 is Jsr imm ∷  -- JSR
    0x06 is Jsra ∷  -- JSRA
    0x07 is Lea imm ∷  -- LEA
    0x08 is Leag imm ∷  -- LEAG
    0x09 is Cyc ∷  -- CYC
    0x0a is Block Mcpy ∷  -- MCPY
    0x0b is Block Mcmp ∷  -- MCMP
    0x0c is Block Mchr ∷  -- MCHR
    0x0d is Block Mset ∷  -- MSET
    0x0e is Load reg.A base.Sp Uint imm ∷  -- LL
    0x0f is Load reg.A base.Sp Short imm ∷  -- LLS
    0x10 is Load reg.A base.Sp Ushort imm ∷  -- LLH
    0x11 is Load reg.A base.Sp Char imm ∷  -- LLC
    0x12 is Load reg.A base.Sp Uchar imm ∷  -- LLB
    0x15 is Load reg.A base.Pc Uint imm ∷  -- LG
    0x16 is Load reg.A base.Pc Short imm ∷  -- LGS
    0x17 is Load reg.A base.Pc Ushort imm ∷  -- LGH
    0x18 is Load reg.A base.Pc Char imm ∷  -- LGC
    0x19 is Load reg.A base.Pc Uchar imm ∷  -- LGB
    0x1c is Load reg.A base.A Uint imm ∷  -- LX
    0x1d is Load reg.A base.A Short imm ∷  -- LXS
    0x1e is Load reg.A base.A Ushort imm ∷  -- LXH
    0x1f is Load reg.A base.A Char imm ∷  -- LXC
    0x20 is Load reg.A base.A Uchar imm ∷  -- LXB
    0x23 is LoadImm reg.A imm ∷  -- LI
    0x24 is LoadHigh reg.A field ∷  -- LHI
    0x26 is Load reg.B base.Sp Uint imm ∷  -- LBL
    0x27 is Load reg.B base.Sp Short imm ∷  -- LBLS
    0x28 is Load reg.B base.Sp Ushort imm ∷  -- LBLH
    0x29 is Load reg.B base.Sp Char imm ∷  -- LBLC
    0x2a is Load reg.B base.Sp Uchar imm ∷  -- LBLB
    0x2d is Load reg.B base.Pc Uint imm ∷  -- LBG
    0x2e is Load reg.B base.Pc Short imm ∷  -- LBGS
    0x2f is Load reg.B base.Pc Ushort imm ∷  -- LBGH
    0x30 is Load reg.B base.Pc Char imm ∷  -- LBGC
    0x31 is Load reg.B base.Pc Uchar imm ∷  -- LBGB
    0x34 is Load reg.B base.B Uint imm ∷  -- LBX
    0x35 is Load reg.B base.B Short imm ∷  -- LBXS
    0x36 is Load reg.B base.B Ushort imm ∷  -- LBXH
    0x37 is Load reg.B base.B Char imm ∷  -- LBXC
    0x38 is Load reg.B base.B Uchar imm ∷  -- LBXB
    0x3b is LoadImm reg.B imm ∷  -- LBI
    0x3c is LoadHigh reg.B field ∷  -- LBHI
    0x3e is Lba ∷  -- LBA
    0x40 is Store base.Sp Word imm ∷  -- SL
    0x41 is Store base.Sp Half imm ∷  -- SLH
    0x42 is Store base.Sp Byte imm ∷  -- SLB
    0x45 is Store base.Pc Word imm ∷  -- SG
    0x46 is Store base.Pc Half imm ∷  -- SGH
    0x47 is Store base.Pc Byte imm ∷  -- SGB
    0x4a is Store base.B Word imm ∷  -- SX
    0x4b is Store base.B Half imm ∷  -- SXH
    0x4c is Store base.B Byte imm ∷  -- SXB
    0x53 is Alu Add RegB ∷  -- ADD
    0x54 is Alu Add (Imm imm) ∷  -- ADDI
    0x55 is Alu Add (Stack imm) ∷  -- ADDL
    0x56 is Alu Sub RegB ∷  -- SUB
    0x57 is Alu Sub (Imm imm) ∷  -- SUBI
    0x58 is Alu Sub (Stack imm) ∷  -- SUBL
    0x59 is Alu Mul RegB ∷  -- MUL
    0x5a is Alu Mul (Imm imm) ∷  -- MULI
    0x5b is Alu Mul (Stack imm) ∷  -- MULL
    0x5c is Alu Div RegB ∷  -- DIV
    0x5d is Alu Div (Imm imm) ∷  -- DIVI
    0x5e is Alu Div (Stack imm) ∷  -- DIVL
    0x5f is Alu Dvu RegB ∷  -- DVU
    0x60 is Alu Dvu (Imm imm) ∷  -- DVUI
    0x61 is Alu Dvu (Stack imm) ∷  -- DVUL
    0x62 is Alu Mod RegB ∷  -- MOD
    0x63 is Alu Mod (Imm imm) ∷  -- MODI
    0x64 is Alu Mod (Stack imm) ∷  -- MODL
    0x65 is Alu Mdu RegB ∷  -- MDU
    0x66 is Alu Mdu (Imm imm) ∷  -- MDUI
    0x67 is Alu Mdu (Stack imm) ∷  -- MDUL
    0x68 is Alu And RegB ∷  -- AND
    0x69 is Alu And (Imm imm) ∷  -- ANDI
    0x6a is Alu And (Stack imm) ∷  -- ANDL
    0x6b is Alu Or RegB ∷  -- OR
    0x6c is Alu Or (Imm imm) ∷  -- ORI
    0x6d is Alu Or (Stack imm) ∷  -- ORL
    0x6e is Alu Xor RegB ∷  -- XOR
    0x6f is Alu Xor (Imm imm) ∷  -- XORI
    0x70 is Alu Xor (Stack imm) ∷  -- XORL
    0x71 is Alu Shl RegB ∷  -- SHL
    0x72 is Alu Shl (Imm imm) ∷  -- SHLI
    0x73 is Alu Shl (Stack imm) ∷  -- SHLL
    0x74 is Alu Shr RegB ∷  -- SHR
    0x75 is Alu Shr (Imm imm) ∷  -- SHRI
    0x76 is Alu Shr (Stack imm) ∷  -- SHRL
    0x77 is Alu Sru RegB ∷  -- SRU
    0x78 is Alu Sru (Imm imm) ∷  -- SRUI
    0x79 is Alu Sru (Stack imm) ∷  -- SRUL
    0x7a is Compare Eq ∷  -- EQ
    0x7c is Compare Ne ∷  -- NE
    0x7e is Compare Lt ∷  -- LT
    0x7f is Compare Ltu ∷  -- LTU
    0x81 is Compare Ge ∷  -- GE
    0x82 is Compare Geu ∷  -- GEU
    0x84 is Bz imm ∷  -- BZ
    0x86 is Bnz imm ∷  -- BNZ
    0x88 is Branch Eq imm ∷  -- BE
    0x8a is Branch Ne imm ∷  -- BNE
    0x8c is Branch Lt imm ∷  -- BLT
    0x8d is Branch Ltu imm ∷  -- BLTU
    0x8f is Branch Ge imm ∷  -- BGE
    0x90 is Branch Geu imm ∷  -- BGEU
    0x96 is Sys (Plain Cli) ∷  -- CLI
    0x97 is Sys (Plain Sti) ∷  -- STI
    0x98 is Sys Rti ∷  -- RTI
    0x99 is Sys (Plain Bin) ∷  -- BIN
    0x9a is Sys Bout ∷  -- BOUT
    0x9b is Nop ∷  -- NOP
    0x9c is Sys (Plain Ssp) ∷  -- SSP
    0x9d is Push reg.A ∷  -- PSHA
    0x9e is Pshi imm ∷  -- PSHI
    0xa0 is Push reg.B ∷  -- PSHB
    0xa1 is Pop reg.B ∷  -- POPB
    0xa3 is Pop reg.A ∷  -- POPA
    0xa4 is Sys (Plain Ivec) ∷  -- IVEC
    0xa5 is Sys Pdir ∷  -- PDIR
    0xa6 is Sys Spag ∷  -- SPAG
    0xa7 is Sys (Plain (Time field)) ∷  -- TIME
    0xa8 is Sys (Plain Lvad) ∷  -- LVAD
    0xa9 is Trap ∷  -- TRAP
    0xaa is Sys (Plain Lusp) ∷  -- LUSP
    0xab is Sys (Plain Susp) ∷  -- SUSP
    0xac is Load reg.C base.Sp Uint imm ∷  -- LCL
    0xad is Lca ∷  -- LCA
    0xae is Push reg.C ∷  -- PSHC
    0xaf is Pop reg.C ∷  -- POPC
    0xb0 is Sys (Plain Msiz) ∷  -- MSIZ
    0xd1 is Sys (Plain Idle) ∷  -- IDLE
    []

-- the instruction of an opcode byte
unfoldable pub opcode_of : ℕ → ℕ → ℕ → Instr
opcode_of op imm field = find op (table imm field)

-- the instruction of a word: the opcode is its low eight bits, the operand its upper 24
unfoldable pub decode_of : ℕ → Instr
decode_of w = opcode_of (w % 256) (extend 24 (w / 256)) (w / 256)

-- one value for the illegal instruction, one for the privileged ones and one for the others
abbrev pub by_class : {A : Type 0} → A → A → A → Instr → A
by_class x y z Illegal = x
by_class x y z Nop = z
by_class x y z Trap = z
by_class x y z Cyc = z
by_class x y z Jsra = z
by_class x y z Lba = z
by_class x y z Lca = z
by_class x y z (Ent _) = z
by_class x y z (Lev _) = z
by_class x y z (Jmp _) = z
by_class x y z (Jmpi _) = z
by_class x y z (Jsr _) = z
by_class x y z (Lea _) = z
by_class x y z (Leag _) = z
by_class x y z (Block _) = z
by_class x y z (Load _ _ _ _) = z
by_class x y z (Store _ _ _) = z
by_class x y z (LoadImm _ _) = z
by_class x y z (LoadHigh _ _) = z
by_class x y z (Alu _ _) = z
by_class x y z (Compare _) = z
by_class x y z (Bz _) = z
by_class x y z (Bnz _) = z
by_class x y z (Branch _ _) = z
by_class x y z (Push _) = z
by_class x y z (Pshi _) = z
by_class x y z (Pop _) = z
by_class x y z (Sys _) = y

-- the instructions that are refused in every mode
abbrev pub is_illegal : Instr → Bool
is_illegal i = by_class true false false i

-- the instructions that are refused in user mode
abbrev pub is_privileged : Instr → Bool
is_privileged i = by_class false true false i
