-- The table of the floating opcodes: document 02, item 7, and the opcode tables of source 000. "Loads to a, and stores, mean f; loads to b mean g."
-- It is asked only where document 01's table has no row, and has none where that one has.
use Rattle.std.specs.Prelude.{List, [], ◌∷◌, ℕ, ◌/◌, ◌%◌, eqb, if◌then◌else◌}
use Rattle.word.specs.Word.{extend}
use Rattle.decode.specs.declared.Base.TheVariants as base
use Rattle.floating_decode.specs.declared.FloatReg.TheVariants.{F, G}
use Rattle.floating_decode.specs.declared.Precision.TheVariants.{Double, Single}
use Rattle.floating_decode.specs.declared.FloatOp.TheVariants.{Add, Sub, Mul, Div}
use Rattle.floating_decode.specs.declared.FloatTest.TheVariants.{Eq, Ne, Lt, Ge}
use Rattle.floating_decode.specs.declared.FloatInstr.{FloatInstr}
use Rattle.floating_decode.specs.declared.FloatInstr.TheVariants.{Unlisted, Load, Store, LoadImm, Lbad, Arith, Compare, Bzf, Bnzf, Branch, Cid, Cud, Cdi, Cdu, Push, Pop, Fabs, Flor, Ceil}

-- an opcode byte and the instruction that it stands for
pub record FloatRow : Type 0 where
  pub code : ℕ
  pub means : FloatInstr

infix 70 ◌is◌
-- a row, as the table writes it
abbrev pub ◌is◌ : ℕ → FloatInstr → FloatRow
k is i = record { code = k; means = i }

-- what the row of this opcode byte means
abbrev pub find : ℕ → List FloatRow → FloatInstr
find op [] = Unlisted
find op (r ∷ t) = let rest = find op t in if eqb op r.code then r.means else rest

-- the rows, by opcode byte; imm is the word's upper 24 bits with their sign
unfoldable pub floating_table : ℕ → List FloatRow
floating_table imm =
    0x13 is Load F base.Sp Double imm ∷  -- LLD
    0x14 is Load F base.Sp Single imm ∷  -- LLF
    0x1a is Load F base.Pc Double imm ∷  -- LGD
    0x1b is Load F base.Pc Single imm ∷  -- LGF
    0x21 is Load F base.A Double imm ∷  -- LXD
    0x22 is Load F base.A Single imm ∷  -- LXF
    0x25 is LoadImm F imm ∷  -- LIF
    0x2b is Load G base.Sp Double imm ∷  -- LBLD
    0x2c is Load G base.Sp Single imm ∷  -- LBLF
    0x32 is Load G base.Pc Double imm ∷  -- LBGD
    0x33 is Load G base.Pc Single imm ∷  -- LBGF
    0x39 is Load G base.B Double imm ∷  -- LBXD
    0x3a is Load G base.B Single imm ∷  -- LBXF
    0x3d is LoadImm G imm ∷  -- LBIF
    0x3f is Lbad ∷  -- LBAD
    0x43 is Store base.Sp Double imm ∷  -- SLD
    0x44 is Store base.Sp Single imm ∷  -- SLF
    0x48 is Store base.Pc Double imm ∷  -- SGD
    0x49 is Store base.Pc Single imm ∷  -- SGF
    0x4d is Store base.B Double imm ∷  -- SXD
    0x4e is Store base.B Single imm ∷  -- SXF
    0x4f is Arith Add ∷  -- ADDF
    0x50 is Arith Sub ∷  -- SUBF
    0x51 is Arith Mul ∷  -- MULF
    0x52 is Arith Div ∷  -- DIVF
    0x7b is Compare Eq ∷  -- EQF
    0x7d is Compare Ne ∷  -- NEF
    0x80 is Compare Lt ∷  -- LTF
    0x83 is Compare Ge ∷  -- GEF
    0x85 is Bzf imm ∷  -- BZF
    0x87 is Bnzf imm ∷  -- BNZF
    0x89 is Branch Eq imm ∷  -- BEF
    0x8b is Branch Ne imm ∷  -- BNEF
    0x8e is Branch Lt imm ∷  -- BLTF
    0x91 is Branch Ge imm ∷  -- BGEF
    0x92 is Cid ∷  -- CID
    0x93 is Cud ∷  -- CUD
    0x94 is Cdi ∷  -- CDI
    0x95 is Cdu ∷  -- CDU
    0x9f is Push F ∷  -- PSHF
    0xa2 is Pop F ∷  -- POPF
    0xb1 is Push G ∷  -- PSHG
    0xb2 is Pop G ∷  -- POPG
    0xbe is Fabs ∷  -- FABS
    0xc4 is Flor ∷  -- FLOR
    0xc5 is Ceil ∷  -- CEIL
    []

-- the instruction of an opcode byte
unfoldable pub floating_opcode_of : ℕ → ℕ → FloatInstr
floating_opcode_of op imm = find op (floating_table imm)

-- the instruction of a word: the opcode is its low eight bits, the operand its upper 24
unfoldable pub floating_decode_of : ℕ → FloatInstr
floating_decode_of w = floating_opcode_of (w % 256) (extend 24 (w / 256))
