-- Document 02, item 2: the listings of whole files: "words at or above data start as the name `data`, without operand; a short last word padded with zeros";
-- "A file the run program refuses gets its refused line".
use Rattle.std.specs.Prelude.{ℕ, List, [], ◌∷◌}
use Rattle.word.specs.Word.{extend}
use Rattle.memory.specs.Memory.{load_n, size_ok}
use Rattle.executable.specs.Executable.{answer_by, load_answer}
use Rattle.text.specs.Ascii.{ascii}
use Rattle.text.specs.Digits.{digits}
use Rattle.text.specs.Hex.{hex_digits}
use Rattle.text.specs.Signed.{signed_of}
use Rattle.mnemonics.specs.Mnemonics.{mnemonics, form_of}
use Rattle.mnemonics.specs.Line.{operand_of, line_by}
use Rattle.listing.specs.Listing.{word_line, word_lines, refused_line, listing_of, line_of}
use Rattle.listing.specs.Stands.{equal}
use Rattle.listing_examples.specs.Line.{Line, ◌shows◌, Lines, end, ◌and◌}

-- magic, bss 0, entry 0, data start, and the body
abbrev pub file : (start : ℕ) → List ℕ → List ℕ
file start body = 0x0d ∷ 0xf0 ∷ 0xde ∷ 0xc0 ∷ 0 ∷ 0 ∷ 0 ∷ 0 ∷ 0 ∷ 0 ∷ 0 ∷ 0 ∷ start ∷ 0 ∷ 0 ∷ 0 ∷ body

-- P1 and HALT, data start 12
abbrev pub p1_file : List ℕ
p1_file = file 12 (0x23 ∷ 0 ∷ 0 ∷ 0 ∷ 0x24 ∷ 0 ∷ 0x7c ∷ 0x92 ∷ 0 ∷ 0 ∷ 0 ∷ 0 ∷ [])

-- ten bytes, data start 5: the second word straddles it and is text; the third is short
abbrev pub straddling : List ℕ
straddling = file 5 (0x9b ∷ 0x12 ∷ 0 ∷ 0 ∷ 0x23 ∷ 7 ∷ 0 ∷ 0 ∷ 0x23 ∷ 7 ∷ [])

-- two bytes of zero more than a header lack a body: data start is above its length
abbrev pub refused : List ℕ
refused = file 4 (0 ∷ 0 ∷ [])

abbrev pub lines : List Line
lines =
    line_of p1_file 0 shows "00000000 00000023 LI 0" ∷
    line_of p1_file 1 shows "00000004 927c0024 LHI -7177216" ∷
    line_of p1_file 2 shows "00000008 00000000 HALT 0" ∷
    line_of p1_file 3 shows "" ∷
    line_of straddling 0 shows "00000000 0000129b NOP" ∷
    line_of straddling 1 shows "00000004 00000723 LI 7" ∷
    line_of straddling 2 shows "00000008 00000723 data" ∷
    line_of straddling 3 shows "" ∷
    line_of refused 0 shows "refused 10" ∷
    line_of refused 1 shows "" ∷
    line_of [] 0 shows "refused 7" ∷
    []

pub files_shown : Lines lines
unfolding extend load_n size_ok answer_by load_answer ascii digits hex_digits signed_of mnemonics form_of operand_of line_by word_line word_lines refused_line listing_of line_of equal ◌shows◌
files_shown =
    tt and  -- P1
    tt and
    tt and
    tt and  -- past the last
    tt and  -- a word of text
    tt and  -- the word that straddles data start
    tt and  -- a short word of data
    tt and  -- past the last
    tt and  -- refused
    tt and  -- past the refused line
    tt and  -- no bytes
    end
