-- Document 02, item 2: the line of a word: "address and word as eight lower-case hexadecimal digits, mnemonic, signed operand in decimal ..
-- but for JMP, JSR and branches only the target, low bits kept, as the address is written"; "One space parts the fields".
use Rattle.std.specs.Prelude.{ℕ, ◌/◌, ◌%◌, List, [], ◌∷◌, ◌++◌}
use Rattle.word.specs.Word.{extend}
use Rattle.decode.specs.Target.{target_of}
use Rattle.text.specs.Hex.{hex_of}
use Rattle.text.specs.Signed.{signed_of}
use Rattle.mnemonics.specs.declared.OperandForm.{OperandForm}
use Rattle.mnemonics.specs.declared.OperandForm.TheVariants.{Nothing, Immediate, Target}
use Rattle.mnemonics.specs.Mnemonics.{Form, data_form, form_of}

-- a space, and a field after it
abbrev pub spaced : List ℕ → List ℕ
spaced field = 32 ∷ field

-- the operand of the instruction at an address, if it has one
unfoldable pub operand_of : OperandForm → (address imm : ℕ) → List ℕ
operand_of Nothing address imm = []
operand_of Immediate address imm = spaced (signed_of imm)
operand_of Target address imm = spaced (hex_of (target_of address imm))

-- imm: the upper 24 bits with their sign
abbrev pub imm_of : ℕ → ℕ
imm_of word = extend 24 (word / 256)

-- address and word
abbrev pub fields_of : (address word : ℕ) → List ℕ
fields_of address word = hex_of address ++ spaced (hex_of word)

-- the line of a word, by its form
unfoldable pub line_by : Form → (address word : ℕ) → List ℕ
line_by form address word = fields_of address word ++ spaced form.name ++ operand_of form.operand address (imm_of word)

-- as text, and as data
abbrev pub text_line : (address word : ℕ) → List ℕ
text_line address word = line_by (form_of (word % 256)) address word

abbrev pub data_line : (address word : ℕ) → List ℕ
data_line address word = line_by data_form address word
