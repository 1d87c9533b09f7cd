-- Document 02, item 2: "A program should print an executable .., one line a word"; "A file the run program refuses gets its refused line".
use Rattle.std.specs.Prelude.{ℕ, zero, suc, ◌+◌, ◌*◌, ◌/◌, ◌≤◌, List, [], ◌∷◌, ◌++◌, ◌≡◌, eqb, leb, length, get_or, take, drop, if◌then◌else◌}
use Rattle.memory.specs.Memory.{load_n}
use Rattle.executable.specs.Executable.{load_number, load_answer, data_start_of, body_of}
use Rattle.text.specs.Ascii.{ascii}
use Rattle.text.specs.Digits.{decimal_of}
use Rattle.mnemonics.specs.Line.{text_line, data_line}

-- the run program's: "a machine of 32,768 bytes"
abbrev pub memory_size : ℕ
memory_size = 32768

-- the number of a load's answer
abbrev pub answer_of : List ℕ → ℕ
answer_of file = load_number (load_answer memory_size file)

-- ---- an accepted file

-- the n-th word of the body, from 0: bytes past its end read as 0, "a short last word padded with zeros"
abbrev pub word_of : List ℕ → ℕ → ℕ
word_of file n = load_n 4 (body_of file) (4 * n)

-- how many words, the short one counted
abbrev pub words_of : List ℕ → ℕ
words_of file = (length (body_of file) + 3) / 4

-- the line of the n-th word: "words at or above data start as the name `data`"
unfoldable pub word_line : List ℕ → ℕ → List ℕ
word_line file n = if leb (data_start_of file) (4 * n) then data_line (4 * n) (word_of file n) else text_line (4 * n) (word_of file n)

-- the lines of k words from the n-th on
unfoldable pub word_lines : List ℕ → (k n : ℕ) → List (List ℕ)
word_lines file zero n = []
word_lines file (suc k) n = word_line file n ∷ word_lines file k (suc n)

-- ---- any file

-- `refused N`
unfoldable pub refused_line : ℕ → List ℕ
refused_line n = ascii "refused " ++ decimal_of n

-- the listing, line by line, without newlines
unfoldable pub listing_of : List ℕ → List (List ℕ)
listing_of file = if eqb (answer_of file) 0 then word_lines file (words_of file) 0 else refused_line (answer_of file) ∷ []

-- a line of it, from 0; past the last no bytes
unfoldable pub line_of : List ℕ → ℕ → List ℕ
line_of file n = get_or (listing_of file) n []

-- a line was written at the start of the lent bytes l, which are then l': it has r bytes, at most 31, and what stands after them stays; the last two parts follow
-- from the first two, and stand here for callers that lend those bytes on
pub record Shown (line l l' : List ℕ) (r : ℕ) : Type 0 where
  pub end : r ≡ length line
  pub front : take r l' ≡ line
  pub rest : drop r l' ≡ drop r l
  pub short : r ≤ 31
  pub within : r ≤ length l'
  pub counts : r ≡ length (take r l')
