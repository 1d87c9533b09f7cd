-- Document 02, item 2, "Refusals: 12, a line that stands in no accepted file's listing": the number that reading a line back answers (`read_number` of
-- listing/proofs/Reading.antt: that is the entry's, whatever else it gives).
use Rattle.std.specs.Prelude.{List, [], ◌∷◌, ◌++◌}
use Rattle.word.specs.Word.{extend}
use Rattle.text.specs.Ascii.{ascii}
use Rattle.text.specs.Digits.{digits}
use Rattle.text.specs.Hex.{hex_digits, hex_value}
use Rattle.text.specs.Signed.{signed_of}
use Rattle.mnemonics.specs.Mnemonics.{mnemonics, form_of}
use Rattle.mnemonics.specs.Line.{operand_of, line_by}
use Rattle.listing.specs.Stands.{equal, is_line_of}
use Rattle.listing_examples.specs.Line.{Line, ◌answers◌, Lines, end, ◌and◌}

abbrev pub lines : List Line
lines =
    ascii "00000004 927c0024 LHI -7177216" answers 0 ∷
    ascii "00007ffc 80000003 JMP ff808000" answers 0 ∷
    -- the word at 0 is always text: `data` there is an illegal opcode
    ascii "00000000 00000000 data" answers 12 ∷
    ascii "00000000 000000ff data" answers 0 ∷
    ascii "00000004 00000000 data" answers 0 ∷
    -- addresses: beyond the run program's memory, off a word
    ascii "00008000 0000009b NOP" answers 12 ∷
    ascii "00000002 0000009b NOP" answers 12 ∷
    -- one form only: case, sign, leading zeros, spaces, operand
    ascii "00000004 927C0024 LHI -7177216" answers 12 ∷
    ascii "00000004 00000023 LI -0" answers 12 ∷
    ascii "00000004 00000123 LI +1" answers 12 ∷
    ascii "00000004 00000123 LI 01" answers 12 ∷
    ascii "00000004 0000009b NOP " answers 12 ∷
    ascii "00000004  0000009b NOP" answers 12 ∷
    (ascii "00000004 0000009b NOP" ++ (10 ∷ [])) answers 12 ∷
    ascii "00000004 00000000 HALT" answers 12 ∷
    -- LHI's operand as the machine takes it, JMP's imm, the target from the instruction's own address
    ascii "00000004 927c0024 LHI 9600000" answers 12 ∷
    ascii "00000004 00000803 JMP 8" answers 12 ∷
    ascii "00000004 00000803 JMP 0000000c" answers 12 ∷
    -- "without operand"
    ascii "00000004 00000023 data 0" answers 12 ∷
    -- no words
    ascii "refused 7" answers 12 ∷
    [] answers 12 ∷
    []

pub back_shown : Lines lines
unfolding extend ascii digits hex_digits hex_value signed_of mnemonics form_of operand_of line_by equal is_line_of ◌answers◌
back_shown =
    tt and  -- P1's second line
    tt and  -- the last address, a wrapped target
    tt and  -- data at 0, a legal opcode
    tt and  -- data at 0, an illegal one
    tt and  -- data at 4
    tt and  -- beyond memory
    tt and  -- off a word
    tt and  -- upper case
    tt and  -- minus 0
    tt and  -- a plus sign
    tt and  -- a leading zero
    tt and  -- a space at the end
    tt and  -- two spaces
    tt and  -- a newline
    tt and  -- no operand
    tt and  -- LHI unsigned
    tt and  -- JMP's imm
    tt and  -- from its own address
    tt and  -- data with an operand
    tt and  -- a refused line
    tt and  -- no bytes
    end
