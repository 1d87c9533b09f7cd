-- Document 02, item 5: the file. "The file opens with a header of little-endian words: count of pages, of buffer entries and of console bytes, then the offset of
-- registers, entries, console and memory. Blocks follow in that order without gaps."
use Rattle.std.specs.Prelude.{ℕ, ◌+◌, ◌*◌, ◌/◌, ◌^◌, ◌<◌, List, [], ◌∷◌, ◌++◌, length, take}
use Rattle.rules.specs.declared.Machine.{Machine}
use Rattle.rules.specs.Numbers.{numbers_of}
use Rattle.refusals.specs.View.{first_slots, entries_of}
use Rattle.encoding.specs.declared.Width.{Width}
use Rattle.encoding.specs.declared.Width.TheVariants.{Four, Eight}
use Rattle.encoding.specs.Encoding.{encoded}
use Rattle.encoding.specs.Entries.{entry_bytes, encoded_entries}
use Rattle.machine_file.specs.declared.Counts.{Counts}

-- "Registers: document 01's numbers and flags, item 1's marks, stop reason, cause (0 none, then item 4's order) and step count", then item 7's mode, f and g:
-- the order of `numbers_of`, where the step count, f and g have 64 bits
abbrev pub register_longs : List Width
register_longs =
    Four ∷ Four ∷ Four ∷ Four ∷ Four ∷ Four ∷ Four ∷ Four ∷ Four ∷ Four ∷ Four ∷ Four ∷ Four
    ∷ Four ∷ Four ∷ Four ∷ Four ∷ Four ∷ Four ∷ Four ∷ Four ∷ Eight ∷ Four ∷ Eight ∷ Eight ∷ []

abbrev pub header_longs : List Width
header_longs = Four ∷ Four ∷ Four ∷ Four ∷ Four ∷ Four ∷ Four ∷ []

-- the bytes of the header, seven words, and of the registers
abbrev pub header_bytes : ℕ
header_bytes = 28

abbrev pub register_bytes : ℕ
register_bytes = 112

abbrev pub page_bytes : ℕ
page_bytes = 4096

-- the offsets, which follow from the counts
abbrev pub registers_at : ℕ
registers_at = header_bytes

abbrev pub entries_at : ℕ
entries_at = registers_at + register_bytes

abbrev pub console_at : Counts → ℕ
console_at k = entries_at + entry_bytes * k.entries

abbrev pub memory_at : Counts → ℕ
memory_at k = console_at k + k.console

-- and the length
abbrev pub length_by : Counts → ℕ
length_by k = memory_at k + page_bytes * k.pages

abbrev pub header_of : Counts → List ℕ
header_of k = k.pages ∷ k.entries ∷ k.console ∷ registers_at ∷ entries_at ∷ console_at k ∷ memory_at k ∷ []

-- the counts of a machine in memory of `size` bytes
abbrev pub counts_of : Machine → (size : ℕ) → Counts
counts_of m size = record { pages = size / page_bytes; entries = m.held; console = m.cpu.written }

-- a machine as a file; of the console the bytes that were written
unfoldable pub file_of : Machine → (mem con : List ℕ) → List ℕ
unfolding encoded encoded_entries first_slots
file_of m mem con =
    encoded header_longs (header_of (counts_of m (length mem)))
    ++ encoded register_longs (numbers_of m.cpu)
    ++ encoded_entries (entries_of m)
    ++ take m.cpu.written con
    ++ mem

-- counts whose offsets and length are computed in 64 bits
pub record Small (k : Counts) : Type 0 where
  pub pages : k.pages < 2 ^ 32
  pub entries : k.entries < 2 ^ 32
  pub console : k.console < 2 ^ 63
