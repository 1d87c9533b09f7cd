-- Document 02, item 5: reading. "Saving and reading back gives the same machine, save that keys taken .. starts again at 0"; "on reading later console bytes stay";
-- "A refused read gives an all-zero record; a refused read .. leaves memory, console and file".
use Rattle.std.specs.Prelude.{ℕ, Bool, ◌&&◌, List, ◌++◌, length, drop, if◌then◌else◌, Result, Ok, Err, is_ok}
use Rattle.memory.specs.Memory.{size_ok}
use Rattle.rules.specs.declared.Machine.{Machine}
use Rattle.rules.specs.Load.{zero_cpu, empty_machine}
use Rattle.machine_file.specs.Judged.{counts_in, machine_in, console_in, memory_in, header_ok, counts_ok, offsets_ok, length_ok, record_ok}
use Rattle.snapshot.specs.declared.ReadRefusal.{ReadRefusal}
use Rattle.snapshot.specs.declared.ReadRefusal.TheVariants.{BadSize, ShortFile, BadCounts, BadOffsets, BadRecord}

-- the numbers of the answers
abbrev pub read_number : Result Unit ReadRefusal → ℕ
read_number (Ok tt) = 0
read_number (Err BadSize) = 1
read_number (Err ShortFile) = 13
read_number (Err BadCounts) = 14
read_number (Err BadOffsets) = 15
read_number (Err BadRecord) = 16

-- "lower wins .. on reading, 1" comes first
abbrev pub first_read_refusal : (size header counts offsets registers : Bool) → Result Unit ReadRefusal
first_read_refusal size header counts offsets registers =
    if size then (if header then (if counts then (if offsets then (if registers then Ok tt else Err BadRecord) else Err BadOffsets) else Err BadCounts) else Err ShortFile) else Err BadSize

unfoldable pub read_answer : (file : List ℕ) (size console_size : ℕ) → Result Unit ReadRefusal
unfolding counts_ok offsets_ok record_ok
read_answer file size console_size =
    let k = counts_in file in
    first_read_refusal (size_ok size) (header_ok (length file)) (counts_ok size console_size k) (offsets_ok file k && length_ok (length file) k) (record_ok size file k)

pub record Restored : Type 0 where
  pub answer : Result Unit ReadRefusal
  pub machine : Machine
  pub mem : List ℕ
  pub console : List ℕ

abbrev pub read_by : Result Unit ReadRefusal → (file mem con : List ℕ) → Restored
read_by a file mem con =
    if is_ok a
    then record {
      answer = a;
      machine = machine_in file (counts_in file);
      mem = memory_in file (counts_in file);
      console = console_in file (counts_in file) ++ drop (counts_in file).console con;
    }
    else record { answer = a; machine = empty_machine zero_cpu; mem = mem; console = con }

unfoldable pub read : (file mem con : List ℕ) → Restored
unfolding read_answer machine_in
read file mem con = read_by (read_answer file (length mem) (length con)) file mem con
