-- Document 02, item 5: what is claimed of saving and reading back, beyond what each call gives.
use Rattle.std.specs.Prelude.{ℕ, ◌+◌, ◌-◌, ◌^◌, ◌≤◌, ◌<◌, List, [], ◌++◌, ◌≡◌, length, get_or, take, drop, replicate, if◌then◌else◌, Ok, Err}
use Rattle.paging.specs.declared.Entry.{Entry}
use Rattle.paging.specs.Translate.{buffered, reader}
use Rattle.rules.specs.declared.Cpu.{Cpu}
use Rattle.rules.specs.declared.Key.{Key}
use Rattle.rules.specs.declared.Machine.{Machine}
use Rattle.rules.specs.declared.RunRefusal.TheVariants.{BadKeys, BadBudget}
use Rattle.rules.specs.Load.{zero_entry}
use Rattle.rules.specs.Numbers.{numbers_of}
use Rattle.rules.specs.Record.{with_taken, with_clock}
use Rattle.rules.specs.Run.{keys_ok, budget_ok, run}
use Rattle.rules.specs.Step.{State}
use Rattle.refusals.specs.View.{entries_of, view_of}
use Rattle.encoding.specs.Encoding.{Fitting}
use Rattle.machine_file.specs.Layout.{register_longs, memory_at, length_by, counts_of}
use Rattle.machine_file.specs.Judged.{counts_in}
use Rattle.snapshot.specs.Saving.{save}
use Rattle.snapshot.specs.Reading.{Restored, read}
use Rattle.agreement.specs.Agreement.{Input, transcripts, shown, Agree, started}

-- ---- what code has by its types

-- a record whose numbers have 32 and 64 bits
abbrev pub Fits : Cpu → Type 0
Fits c = Fitting register_longs (numbers_of c)

-- a file of bytes
abbrev pub Bytes : List ℕ → Type 0
Bytes l = (i : ℕ) → get_or l i 0 < 256

-- ---- there and back

-- "keys taken .. starts again at 0"
abbrev pub none_taken : Cpu → Cpu
none_taken c = with_clock (with_taken 0 c.clock) c

-- the machine that is read; its slots past the count, which mean nothing, are 0
abbrev pub carried : Machine → Machine
carried m = record { cpu = none_taken m.cpu; entries = entries_of m ++ replicate (64 - m.held) zero_entry; held = m.held }

-- the bytes that a save wrote
abbrev pub saved_bytes : Machine → (mem con file : List ℕ) → List ℕ
saved_bytes m mem con file = take (save m mem con file).length (save m mem con file).file

-- "Saving and reading back gives the same machine": into any memory of the same size and any console that has room; "on reading later console bytes, stay"
unfoldable pub SavedRead : Type 0
SavedRead =
    (m : Machine) (mem con file : List ℕ) → Fits m.cpu → (save m mem con file).answer ≡ Ok tt
    → (mem' con' : List ℕ) → length mem' ≡ length mem → m.cpu.written ≤ length con'
    → read (saved_bytes m mem con file) mem' con'
    ≡ record { answer = Ok tt; machine = carried m; mem = mem; console = take m.cpu.written con ++ drop m.cpu.written con' }

-- "an accepted file saves back to the same bytes", with its length; "later file bytes .. stay"
unfoldable pub ReadSaved : Type 0
ReadSaved =
    (file mem con : List ℕ) → Bytes file → (read file mem con).answer ≡ Ok tt → (lent : List ℕ) → length file ≤ length lent
    → save (read file mem con).machine (read file mem con).mem (read file mem con).console lent
    ≡ record { answer = Ok tt; length = length file; file = file ++ drop (length file) lent }

-- ---- runs before and after

-- a machine that a run has left, its step count below 2^63, can be saved: 1, 2, 3 and 5 do not come
unfoldable pub RunSaves : Type 0
RunSaves =
    (start : State (List Entry)) (ks : List Key) (budget : ℕ) → (run buffered ks budget start).answer ≡ Ok tt
    → (m : Machine) (mem con file : List ℕ) → view_of m mem con ≡ (run buffered ks budget start).state → m.cpu.regs.count < 2 ^ 63
    → length_by (counts_of m (length mem)) ≤ length file → memory_at (counts_of m (length mem)) < 2 ^ 32 → (save m mem con file).answer ≡ Ok tt

-- the state of a machine that was read
abbrev pub restored : Restored → State (List Entry)
restored r = view_of r.machine r.mem r.console

-- no run refuses it with 1, 2, 3 or 5: its keys and its budget decide
unfoldable pub ReadRuns : Type 0
ReadRuns =
    (file mem con : List ℕ) → (read file mem con).answer ≡ Ok tt → (ks : List Key) (budget : ℕ)
    → (run buffered ks budget (restored (read file mem con))).answer
    ≡ (if keys_ok ks 0 then (if budget_ok budget then Ok tt else Err BadBudget) else Err BadKeys)

-- a console into which a machine is read as it was: of the same size, and its bytes past the count are the same
abbrev pub SameConsole : Machine → (con con' : List ℕ) → Type 0
SameConsole m con con' = (length con' ≡ length con) × (drop m.cpu.written con' ≡ drop m.cpu.written con)

-- a machine that has taken no keys, read into such a console, is the same in all that a run starts from
unfoldable pub GoesOn : Type 0
GoesOn =
    (m : Machine) (mem con file : List ℕ) → Fits m.cpu → (save m mem con file).answer ≡ Ok tt → m.cpu.clock.taken ≡ 0
    → (mem' con' : List ℕ) → length mem' ≡ length mem → SameConsole m con con'
    → restored (read (saved_bytes m mem con file) mem' con') ≡ view_of m mem con

-- a run without keys in two halves, saved between them and read back, comes to where one run of both budgets comes
unfoldable pub TwoHalves : Type 0
TwoHalves =
    (start : State (List Entry)) (first second : ℕ) → (run buffered [] (first + second) start).answer ≡ Ok tt
    → (m : Machine) (mem con file : List ℕ) → view_of m mem con ≡ (run buffered [] first start).state → Fits m.cpu
    → (save m mem con file).answer ≡ Ok tt → (mem' con' : List ℕ) → length mem' ≡ length mem → SameConsole m con con'
    → (run buffered [] second (restored (read (saved_bytes m mem con file) mem' con'))).state ≡ (run buffered [] (first + second) start).state

-- "After reading, demand 3 is claimed only if no entries were saved"
unfoldable pub Demand3AfterRead : Type 0
Demand3AfterRead =
    (file mem con : List ℕ) → (read file mem con).answer ≡ Ok tt → (counts_in file).entries ≡ 0 → (runs : List Input)
    → Agree [] (transcripts buffered runs (restored (read file mem con))) (transcripts reader runs (started (shown (restored (read file mem con))) tt))
