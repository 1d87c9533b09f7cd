-- Document 02, item 2, "mnemonic, signed operand in decimal where 000 writes i or imme, but for JMP, JSR and branches only the target": lines of single words.

use Rattle.std.specs.Prelude.{List, [], ◌∷◌}
use Rattle.word.specs.Word.{extend}
use Rattle.text.specs.Ascii.{ascii}
use Rattle.text.specs.Digits.{digits}
use Rattle.text.specs.Hex.{hex_digits}
use Rattle.text.specs.Signed.{signed_of}
use Rattle.mnemonics.specs.Mnemonics.{mnemonics, form_of}
use Rattle.mnemonics.specs.Line.{operand_of, line_by, text_line, data_line}
use Rattle.listing.specs.Stands.{equal}
use Rattle.listing_examples.specs.Line.{Line, ◌shows◌, Lines, end, ◌and◌}

abbrev pub lines : List Line
lines =
    -- P5: JSR at 20, imm -24
    text_line 0x14 0xffffe805 shows "00000014 ffffe805 JSR 00000000" ∷
    -- a target before address 0: 0xc + 4 - 2^23 modulo 2^32
    text_line 0x0c 0x80000003 shows "0000000c 80000003 JMP ff800010" ∷
    -- "low bits kept"
    text_line 0x10 0x00000584 shows "00000010 00000584 BZ 00000019" ∷
    -- "signed operand": LHI's, though the machine takes the field unsigned
    text_line 0x04 0x927c0024 shows "00000004 927c0024 LHI -7177216" ∷
    text_line 0x04 0x80000057 shows "00000004 80000057 SUBI -8388608" ∷
    text_line 0x04 0x7fffff54 shows "00000004 7fffff54 ADDI 8388607" ∷
    -- "where 000 writes i or imme": HALT and TIME with i, PSHI with imme alone
    text_line 0x08 0x00000000 shows "00000008 00000000 HALT 0" ∷
    text_line 0x08 0xffffffa7 shows "00000008 ffffffa7 TIME -1" ∷
    text_line 0x08 0x0000019e shows "00000008 0000019e PSHI 1" ∷
    -- JMPI and LEV have an operand that is no target; JSRA and RTI have none
    text_line 0x08 0x00000804 shows "00000008 00000804 JMPI 8" ∷
    text_line 0x08 0x00000002 shows "00000008 00000002 LEV 0" ∷
    text_line 0x08 0x00000006 shows "00000008 00000006 JSRA" ∷
    text_line 0x08 0x00000098 shows "00000008 00000098 RTI" ∷
    -- an instruction without operand, whatever its upper 24 bits are
    text_line 0x10 0x0000129b shows "00000010 0000129b NOP" ∷
    -- "Illegal opcodes list as data": LLF, and a byte without a line in 000
    text_line 0x10 0x00000014 shows "00000010 00000014 data" ∷
    text_line 0x7ffc 0xffffffff shows "00007ffc ffffffff data" ∷
    -- data of a legal opcode
    data_line 0x10 0x00000000 shows "00000010 00000000 data" ∷
    []

pub words_shown : Lines lines
unfolding extend ascii digits hex_digits signed_of mnemonics form_of operand_of line_by equal ◌shows◌
words_shown =
    tt and  -- P5's JSR
    tt and  -- a wrapped target
    tt and  -- low bits
    tt and  -- LHI
    tt and  -- the least operand
    tt and  -- the greatest
    tt and  -- HALT
    tt and  -- TIME
    tt and  -- PSHI
    tt and  -- JMPI
    tt and  -- LEV
    tt and  -- JSRA
    tt and  -- RTI
    tt and  -- NOP
    tt and  -- LLF
    tt and  -- byte 0xff
    tt and  -- data
    end
