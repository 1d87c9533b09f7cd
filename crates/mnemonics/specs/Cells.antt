-- The table of mnemonics as the code keeps it: six bytes for each of the 256 opcodes.
use Rattle.std.specs.Prelude.{ℕ, zero, suc, ◌-◌, List, [], ◌∷◌, ◌++◌, length, replicate}
use Rattle.mnemonics.specs.declared.OperandForm.{OperandForm}
use Rattle.mnemonics.specs.declared.OperandForm.TheVariants.{Nothing, Immediate, Target}
use Rattle.mnemonics.specs.Mnemonics.{Form, form_of}

-- what the operand is, as a byte: a space, `i` or `t`
abbrev pub operand_byte : OperandForm → ℕ
operand_byte Nothing = 32
operand_byte Immediate = 105
operand_byte Target = 116

-- the name, filled up with spaces to four bytes; the operand; a space
abbrev pub cell_of : Form → List ℕ
cell_of form = form.name ++ replicate (4 - length form.name) 32 ++ (operand_byte form.operand ∷ 32 ∷ [])

-- the cells of n opcodes from `op` on
unfoldable pub cells : (n op : ℕ) → List ℕ
cells zero op = []
cells (suc n) op = cell_of (form_of op) ++ cells n (suc op)
