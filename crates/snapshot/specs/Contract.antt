-- Document 02, item 5: what the entries promise: all that they give, as the rules of saving and of reading say, with the answer's number.
use Rattle.std.specs.Prelude.{ℕ, ◌+◌, ◌*◌, ◌≤◌, List, ◌++◌, ◌≡◌, length, drop}
use Rattle.rules.specs.declared.Machine.{Machine}
use Rattle.machine_file.specs.declared.Counts.{Counts}
use Rattle.snapshot.specs.declared.Saved.{Saved as SavedResult}
use Rattle.snapshot.specs.declared.Restored.{Restored as RestoredResult}
use Rattle.machine_file.specs.Layout.{memory_at, length_by, counts_of, Small}
use Rattle.machine_file.specs.Judged.{Held, console_in, memory_in}
use Rattle.snapshot.specs.Saving.{Saved, save_number, save}
use Rattle.snapshot.specs.Reading.{Restored, read_number, read}

-- a save of m with memory and console into a file gave r and left file'
abbrev pub saved_with : SavedResult → List ℕ → Saved
saved_with r file = record { answer = r.answer; length = r.length; file = file }

pub record SavesAs (m : Machine) (mem con file : List ℕ) (r : SavedResult) (file' : List ℕ) : Type 0 where
  pub number : save_number r.answer ≡ save_number (save m mem con file).answer
  pub same : saved_with r file' ≡ save m mem con file

-- a read of a file into memory and console gave r and left mem' and con'
abbrev pub restored_with : RestoredResult → (mem con : List ℕ) → Restored
restored_with r mem con = record { answer = r.answer; machine = r.machine; mem = mem; console = con }

pub record ReadsAs (file mem con : List ℕ) (r : RestoredResult) (mem' con' : List ℕ) : Type 0 where
  pub number : read_number r.answer ≡ read_number (read file mem con).answer
  pub same : restored_with r mem' con' ≡ read file mem con

-- ---- between the parts

-- what writing the file needs
pub record Savable (m : Machine) (mem con file : List ℕ) : Type 0 where
  pub few : m.held ≤ 64
  pub written : m.cpu.written ≤ length con
  pub whole : length mem ≡ 4096 * (counts_of m (length mem)).pages
  pub room : length_by (counts_of m (length mem)) ≤ length file
  pub small : Small (counts_of m (length mem))

-- what unpacking it needs
pub record Readable (file mem con : List ℕ) (k : Counts) : Type 0 where
  pub small : Small k
  pub held : Held file k
  pub console : k.console ≤ length con
  pub total : length file ≡ memory_at k + length mem

-- console and memory, put where they belong
pub record Unpacked (file : List ℕ) (k : Counts) (con mem' con' : List ℕ) : Type 0 where
  pub memory : mem' ≡ memory_in file k
  pub console : con' ≡ console_in file k ++ drop k.console con
