-- Document 02, item 5: saving. "Saving answers the length, 0 when refused; later file bytes .. stay"; "a refused .. save leaves .. file".
use Rattle.std.specs.Prelude.{ℕ, ◌^◌, Bool, List, ◌++◌, leb, ltb, length, drop, if◌then◌else◌, Result, Ok, Err, is_ok}
use Rattle.memory.specs.Memory.{size_ok}
use Rattle.paging.specs.Buffer.{buffer_ok}
use Rattle.rules.specs.declared.Machine.{Machine}
use Rattle.rules.specs.Run.{registers_ok}
use Rattle.refusals.specs.View.{first_slots, entries_of}
use Rattle.snapshot.specs.declared.SaveRefusal.{SaveRefusal}
use Rattle.snapshot.specs.declared.SaveRefusal.TheVariants.{BadSize, BadRegisters, BadBuffer, BadConsole, ShortFile, BadOffset}
use Rattle.machine_file.specs.Layout.{memory_at, length_by, counts_of, file_of}

-- the numbers of the answers
abbrev pub save_number : Result Unit SaveRefusal → ℕ
save_number (Ok tt) = 0
save_number (Err BadSize) = 1
save_number (Err BadRegisters) = 2
save_number (Err BadBuffer) = 3
save_number (Err BadConsole) = 5
save_number (Err ShortFile) = 13
save_number (Err BadOffset) = 15

-- "lower wins. On saving, 1, 2, 3 and 5 come first"
abbrev pub first_save_refusal : (size registers buffer console room offset : Bool) → Result Unit SaveRefusal
first_save_refusal size registers buffer console room offset =
    if size
    then (if registers then (if buffer then (if console then (if room then (if offset then Ok tt else Err BadOffset) else Err ShortFile) else Err BadConsole) else Err BadBuffer) else Err BadRegisters)
    else Err BadSize

-- 1, 2, 3 and 5 are a run's; "13 file shorter .. on saving than the result"; "15 .. on saving an offset of 2^32 or more": memory's is the largest
unfoldable pub save_answer : Machine → (size console_size file_size : ℕ) → Result Unit SaveRefusal
unfolding first_slots
save_answer m size console_size file_size =
    first_save_refusal (size_ok size) (registers_ok size m.cpu) (buffer_ok size (entries_of m)) (leb m.cpu.written console_size)
    (leb (length_by (counts_of m size)) file_size) (ltb (memory_at (counts_of m size)) (2 ^ 32))

pub record Saved : Type 0 where
  pub answer : Result Unit SaveRefusal
  pub length : ℕ
  pub file : List ℕ

abbrev pub save_by : Result Unit SaveRefusal → Machine → (mem con file : List ℕ) → Saved
save_by a m mem con file =
    if is_ok a
    then record { answer = a; length = length_by (counts_of m (length mem)); file = file_of m mem con ++ drop (length_by (counts_of m (length mem))) file }
    else record { answer = a; length = 0; file = file }

unfoldable pub save : Machine → (mem con file : List ℕ) → Saved
unfolding file_of
save m mem con file = save_by (save_answer m (length mem) (length con) (length file)) m mem con file
