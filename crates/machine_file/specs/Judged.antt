-- Document 02, item 5: what stands in a file, by its counts, and the refusals 13 to 16 that are judged of it.
use Rattle.std.specs.Prelude.{ℕ, ◌*◌, ◌≤◌, Bool, ◌&&◌, List, ◌≡◌, eqb, leb, length, get_or, take, drop}
use Rattle.memory.specs.Memory.{load_n}
use Rattle.paging.specs.Buffer.{buffer_ok}
use Rattle.rules.specs.declared.Cpu.{Cpu}
use Rattle.rules.specs.declared.Machine.{Machine}
use Rattle.rules.specs.Numbers.{stop_of, cause_of, record_by, record_of}
use Rattle.rules.specs.Run.{registers_ok}
use Rattle.encoding.specs.Encoding.{decoded}
use Rattle.encoding.specs.Entries.{entries_in, rights_ok, slots_in}
use Rattle.machine_file.specs.declared.Counts.{Counts}
use Rattle.machine_file.specs.Layout.{register_longs, header_bytes, page_bytes, registers_at, entries_at, console_at, memory_at, length_by, Small}

-- ---- what stands in a file

abbrev pub counts_in : List ℕ → Counts
counts_in file = record { pages = load_n 4 file 0; entries = load_n 4 file 4; console = load_n 4 file 8 }

unfoldable pub numbers_in : List ℕ → List ℕ
unfolding decoded
numbers_in file = decoded register_longs file registers_at

-- the record, with no keys taken
unfoldable pub cpu_in : List ℕ → Counts → Cpu
unfolding numbers_in record_by stop_of cause_of
cpu_in file k = record_of (numbers_in file) 0 k.console

unfoldable pub machine_in : List ℕ → Counts → Machine
unfolding cpu_in entries_in
machine_in file k = record { cpu = cpu_in file k; entries = slots_in k.entries file entries_at; held = k.entries }

-- the console's bytes, and memory's
abbrev pub console_in : List ℕ → Counts → List ℕ
console_in file k = take k.console (drop (console_at k) file)

abbrev pub memory_in : List ℕ → Counts → List ℕ
memory_in file k = drop (memory_at k) file

-- ---- the refusals

-- 13: "file shorter than its header"
abbrev pub header_ok : ℕ → Bool
header_ok file_size = leb header_bytes file_size

-- 14: "pages unlike the lent memory, more than 64 entries, or more console bytes than the lent console"
unfoldable pub counts_ok : (size console_size : ℕ) → Counts → Bool
counts_ok size console_size k = eqb (k.pages * page_bytes) size && leb k.entries 64 && leb k.console console_size

-- 15: "an offset or length that doesn't follow from the counts"
unfoldable pub offsets_ok : List ℕ → Counts → Bool
unfolding load_n
offsets_ok file k =
    eqb (load_n 4 file 12) registers_at && eqb (load_n 4 file 16) entries_at && eqb (load_n 4 file 20) (console_at k) && eqb (load_n 4 file 24) (memory_at k)

abbrev pub length_ok : ℕ → Counts → Bool
length_ok file_size k = eqb file_size (length_by k)

-- 16: "registers or entries that document 01's 2 or 3 would refuse, a flag, mark or right not 0 or 1, a stop reason above 3 or cause without a meaning"
abbrev pub flag_ok : List ℕ → ℕ → Bool
flag_ok l i = leb (get_or l i 0) 1

-- by their places in the list: user, iena, paging, waiting; the marks of key and timer; stop reason; cause; the mode
unfoldable pub numbers_ok : List ℕ → Bool
numbers_ok l =
    flag_ok l 13 && flag_ok l 14 && flag_ok l 15 && flag_ok l 16 && flag_ok l 17 && flag_ok l 18 && leb (get_or l 19 0) 3 && leb (get_or l 20 0) 7 && flag_ok l 22

unfoldable pub record_ok : (size : ℕ) → List ℕ → Counts → Bool
unfolding numbers_ok numbers_in rights_ok cpu_in entries_in
record_ok size file k =
    numbers_ok (numbers_in file) && rights_ok k.entries file entries_at && registers_ok size (cpu_in file k) && buffer_ok size (entries_in k.entries file entries_at)

-- ---- between the parts

-- the counts of a file, read
pub record Counted (file : List ℕ) (k : Counts) : Type 0 where
  pub same : k ≡ counts_in file
  pub small : Small k

-- a file that holds header, registers and the counted entries
pub record Held (file : List ℕ) (k : Counts) : Type 0 where
  pub few : k.entries ≤ 64
  pub within : console_at k ≤ length file
