-- Document 01, "The record and the loaded program" and "Numbers returned": the executable, and a load's refusals, apart from any machine.
use Rattle.std.specs.Prelude.{ℕ, ◌+◌, ◌-◌, ◌%◌, Bool, ◌&&◌, List, length, drop, eqb, ltb, leb, if◌then◌else◌, Result, Ok, Err}
use Rattle.memory.specs.Memory.{load_n, size_ok}
use Rattle.executable.specs.declared.LoadRefusal.{LoadRefusal}
use Rattle.executable.specs.declared.LoadRefusal.TheVariants.{BadSize, ShortFile, BadMagic, BadBody, BadDataStart, BadEntry}

-- the numbers of the answers
abbrev pub load_number : Result Unit LoadRefusal → ℕ
load_number (Ok tt) = 0
load_number (Err BadSize) = 1
load_number (Err ShortFile) = 7
load_number (Err BadMagic) = 8
load_number (Err BadBody) = 9
load_number (Err BadDataStart) = 10
load_number (Err BadEntry) = 11

-- ---- "four words, magic 0xC0DEF00D, bss (ignored), entry, data start, then the body"

abbrev pub magic_of : List ℕ → ℕ
magic_of file = load_n 4 file 0

abbrev pub entry_of : List ℕ → ℕ
entry_of file = load_n 4 file 8

abbrev pub data_start_of : List ℕ → ℕ
data_start_of file = load_n 4 file 12

abbrev pub body_of : List ℕ → List ℕ
body_of file = drop 16 file

-- ---- the refusals, judged on lengths and the header's words

-- 9: "body empty or longer than M"
abbrev pub body_ok : ℕ → ℕ → Bool
body_ok size body = ltb 0 body && leb body size

-- 11: "entry no multiple of 4, or entry + 4 (unwrapped) above data start"
abbrev pub entry_ok : ℕ → ℕ → Bool
entry_ok entry data_start = eqb (entry % 4) 0 && leb (entry + 4) data_start

-- "lower number wins": size is M, len the file's length
unfoldable pub answer_by : (size len magic entry data_start : ℕ) → Result Unit LoadRefusal
answer_by size len magic entry data_start =
    if size_ok size
    then (if leb 16 len
    then (if eqb magic 0xc0def00d
    then (if body_ok size (len - 16)
    then (if leb data_start (len - 16) then (if entry_ok entry data_start then Ok tt else Err BadEntry) else Err BadDataStart)
    else Err BadBody)
    else Err BadMagic)
    else Err ShortFile)
    else Err BadSize

unfoldable pub load_answer : ℕ → List ℕ → Result Unit LoadRefusal
unfolding answer_by
load_answer size file = answer_by size (length file) (magic_of file) (entry_of file) (data_start_of file)
