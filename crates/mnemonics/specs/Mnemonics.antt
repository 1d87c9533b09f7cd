-- Document 02, item 2: "mnemonic, signed operand in decimal where 000 writes i or imme, but for JMP, JSR and branches only the target". Source 000's
-- lines in their order, but for those of illegal opcodes: "Illegal opcodes list as data", "the name `data`, without operand".
use Rattle.std.specs.Prelude.{ℕ, List, [], ◌∷◌, eqb, if◌then◌else◌}
use Prim.Native.String.{String}
use Rattle.text.specs.Ascii.{ascii}
use Rattle.mnemonics.specs.declared.OperandForm.{OperandForm}
use Rattle.mnemonics.specs.declared.OperandForm.TheVariants.{Nothing, Immediate, Target}

-- what is printed of an instruction: its name, and what its operand is
pub record Form : Type 0 where
  pub name : List ℕ
  pub operand : OperandForm

-- an opcode and its form
pub record Row : Type 0 where
  pub form : Form
  pub code : ℕ

-- a row, in the order of 000's lines: `HALT 0xiiiiii00`
abbrev pub is : String → OperandForm → ℕ → Row
is name operand code = record { form = record { name = ascii name; operand = operand }; code = code }

abbrev pub data_form : Form
data_form = record { name = ascii "data"; operand = Nothing }

-- the form in the first row that has the code; that of data where there is none
abbrev pub find : ℕ → List Row → Form
find op [] = data_form
find op (r ∷ t) = if eqb op r.code then r.form else find op t

unfoldable pub mnemonics : List Row
mnemonics =
    -- privileged
    is "HALT" Immediate 0x00 ∷
    is "CLI" Nothing 0x96 ∷
    is "STI" Nothing 0x97 ∷
    is "RTI" Nothing 0x98 ∷
    is "BIN" Nothing 0x99 ∷
    is "BOUT" Nothing 0x9a ∷
    is "LUSP" Nothing 0xaa ∷
    is "SUSP" Nothing 0xab ∷
    is "IVEC" Nothing 0xa4 ∷
    is "PDIR" Nothing 0xa5 ∷
    is "SPAG" Nothing 0xa6 ∷
    is "TIME" Immediate 0xa7 ∷
    is "LVAD" Nothing 0xa8 ∷
    is "IDLE" Nothing 0xd1 ∷
    is "MSIZ" Nothing 0xb0 ∷
    -- system extended
    is "ENT" Immediate 0x01 ∷
    is "LEV" Immediate 0x02 ∷
    is "JMP" Target 0x03 ∷
    is "JMPI" Immediate 0x04 ∷
    is "JSR" Target 0x05 ∷
    is "JSRA" Nothing 0x06 ∷
    is "LEA" Immediate 0x07 ∷
    is "LEAG" Immediate 0x08 ∷
    is "CYC" Nothing 0x09 ∷
    is "MCPY" Nothing 0x0a ∷
    is "MCMP" Nothing 0x0b ∷
    is "MCHR" Nothing 0x0c ∷
    is "MSET" Nothing 0x0d ∷
    -- load to register a
    is "LL" Immediate 0x0e ∷
    is "LLS" Immediate 0x0f ∷
    is "LLH" Immediate 0x10 ∷
    is "LLC" Immediate 0x11 ∷
    is "LLB" Immediate 0x12 ∷
    is "LG" Immediate 0x15 ∷
    is "LGS" Immediate 0x16 ∷
    is "LGH" Immediate 0x17 ∷
    is "LGC" Immediate 0x18 ∷
    is "LGB" Immediate 0x19 ∷
    is "LX" Immediate 0x1c ∷
    is "LXS" Immediate 0x1d ∷
    is "LXH" Immediate 0x1e ∷
    is "LXC" Immediate 0x1f ∷
    is "LXB" Immediate 0x20 ∷
    is "LI" Immediate 0x23 ∷
    is "LHI" Immediate 0x24 ∷
    -- load to register b
    is "LBL" Immediate 0x26 ∷
    is "LBLS" Immediate 0x27 ∷
    is "LBLH" Immediate 0x28 ∷
    is "LBLC" Immediate 0x29 ∷
    is "LBLB" Immediate 0x2a ∷
    is "LBG" Immediate 0x2d ∷
    is "LBGS" Immediate 0x2e ∷
    is "LBGH" Immediate 0x2f ∷
    is "LBGC" Immediate 0x30 ∷
    is "LBGB" Immediate 0x31 ∷
    is "LBX" Immediate 0x34 ∷
    is "LBXS" Immediate 0x35 ∷
    is "LBXH" Immediate 0x36 ∷
    is "LBXC" Immediate 0x37 ∷
    is "LBXB" Immediate 0x38 ∷
    is "LBI" Immediate 0x3b ∷
    is "LBHI" Immediate 0x3c ∷
    is "LBA" Nothing 0x3e ∷
    -- store register a to memory
    is "SL" Immediate 0x40 ∷
    is "SLH" Immediate 0x41 ∷
    is "SLB" Immediate 0x42 ∷
    is "SG" Immediate 0x45 ∷
    is "SGH" Immediate 0x46 ∷
    is "SGB" Immediate 0x47 ∷
    is "SX" Immediate 0x4a ∷
    is "SXH" Immediate 0x4b ∷
    is "SXB" Immediate 0x4c ∷
    -- arithmetic
    is "ADD" Nothing 0x53 ∷
    is "ADDI" Immediate 0x54 ∷
    is "ADDL" Immediate 0x55 ∷
    is "SUB" Nothing 0x56 ∷
    is "SUBI" Immediate 0x57 ∷
    is "SUBL" Immediate 0x58 ∷
    is "MUL" Nothing 0x59 ∷
    is "MULI" Immediate 0x5a ∷
    is "MULL" Immediate 0x5b ∷
    is "DIV" Nothing 0x5c ∷
    is "DIVI" Immediate 0x5d ∷
    is "DIVL" Immediate 0x5e ∷
    is "DVU" Nothing 0x5f ∷
    is "DVUI" Immediate 0x60 ∷
    is "DVUL" Immediate 0x61 ∷
    is "MOD" Nothing 0x62 ∷
    is "MODI" Immediate 0x63 ∷
    is "MODL" Immediate 0x64 ∷
    is "MDU" Nothing 0x65 ∷
    is "MDUI" Immediate 0x66 ∷
    is "MDUL" Immediate 0x67 ∷
    is "AND" Nothing 0x68 ∷
    is "ANDI" Immediate 0x69 ∷
    is "ANDL" Immediate 0x6a ∷
    is "OR" Nothing 0x6b ∷
    is "ORI" Immediate 0x6c ∷
    is "ORL" Immediate 0x6d ∷
    is "XOR" Nothing 0x6e ∷
    is "XORI" Immediate 0x6f ∷
    is "XORL" Immediate 0x70 ∷
    is "SHL" Nothing 0x71 ∷
    is "SHLI" Immediate 0x72 ∷
    is "SHLL" Immediate 0x73 ∷
    is "SHR" Nothing 0x74 ∷
    is "SHRI" Immediate 0x75 ∷
    is "SHRL" Immediate 0x76 ∷
    is "SRU" Nothing 0x77 ∷
    is "SRUI" Immediate 0x78 ∷
    is "SRUL" Immediate 0x79 ∷
    is "EQ" Nothing 0x7a ∷
    is "NE" Nothing 0x7c ∷
    is "LT" Nothing 0x7e ∷
    is "LTU" Nothing 0x7f ∷
    is "GE" Nothing 0x81 ∷
    is "GEU" Nothing 0x82 ∷
    -- cond branch
    is "BZ" Target 0x84 ∷
    is "BNZ" Target 0x86 ∷
    is "BE" Target 0x88 ∷
    is "BNE" Target 0x8a ∷
    is "BLT" Target 0x8c ∷
    is "BLTU" Target 0x8d ∷
    is "BGE" Target 0x8f ∷
    is "BGEU" Target 0x90 ∷
    -- misc
    is "NOP" Nothing 0x9b ∷
    is "SSP" Nothing 0x9c ∷
    is "PSHA" Nothing 0x9d ∷
    is "PSHI" Immediate 0x9e ∷
    is "PSHB" Nothing 0xa0 ∷
    is "POPB" Nothing 0xa1 ∷
    is "POPA" Nothing 0xa3 ∷
    is "TRAP" Nothing 0xa9 ∷
    is "LCL" Immediate 0xac ∷
    is "LCA" Nothing 0xad ∷
    is "PSHC" Nothing 0xae ∷
    is "POPC" Nothing 0xaf ∷
    []

-- the form of an opcode byte
unfoldable pub form_of : ℕ → Form
form_of op = find op mnemonics
