-- Document 02, item 5: runs of a machine that was read: none refuses it by what the file holds; a machine that has taken no keys goes on as if it had not been
-- saved; and demand 3, where no entries were saved.
use Rattle.std.proofs.Common.{if◌then◌else◌, Ok, Err}
use Prim.Native.Nat.{ℕ, ◌-◌, ◌≤◌}
use native.Mathlib.Omega.{arith}
use mathlib.Core.Bool.{Bool, true}
use mathlib.Core.List.{List, [], ◌++◌}
use mathlib.Core.Path.{◌≡◌, sym, ◌∙◌, ap, subst}
use borrow.Author.Tests.{le-leb}
use lib.ListN.{length, take, drop, replicate, length-append, take-append-drop}
use lib.Seq.{take_at}
use Rattle.memory.specs.Memory.{size_ok}
use Rattle.paging.specs.declared.Entry.{Entry}
use Rattle.paging.specs.Translate.{buffered, reader}
use Rattle.rules.specs.declared.Cpu.{Cpu}
use Rattle.rules.specs.declared.Machine.{Machine}
use Rattle.rules.specs.declared.RunRefusal.TheVariants.{BadKeys, BadBudget}
use Rattle.rules.specs.Load.{zero_entry}
use Rattle.rules.specs.Numbers.{record_by}
use Rattle.rules.specs.Run.{keys_ok, budget_ok, first_refusal, run_answer, run}
use Rattle.rules.specs.Step.{State}
use Rattle.refusals.specs.View.{entries_of}
use Rattle.refusals.proofs.Slots.{first_take, first_length}
use Rattle.encoding.specs.Entries.{entries_in}
use Rattle.machine_file.specs.declared.Counts.{Counts}
use Rattle.machine_file.specs.Layout.{entries_at}
use Rattle.machine_file.specs.Judged.{counts_in, cpu_in, machine_in}
use Rattle.machine_file.proofs.Counted.{counted}
use Rattle.snapshot.specs.Reading.{Restored, read}
use Rattle.snapshot.proofs.Answers.{read_accepts, save_accepts}
use Rattle.agreement.specs.Agreement.{Input, transcripts, shown, Agree, started, Demand3}
use Rattle.agreement.proofs.RunsAgree.{demand3}
use Rattle.snapshot_laws.specs.Carried.{none_taken, carried, SavedRead, restored, ReadRuns, GoesOn, Demand3AfterRead}
use Rattle.snapshot_laws.proofs.SavedRead.{saved_read}
use Rattle.snapshot_laws.proofs.ReadSaved.{gives, length-memory, registers_again, buffer_again, console_again}

-- ---- no run refuses it with 1, 2, 3 or 5

run_passes : {size registers buffer console : Bool} (keys budget : Bool) → size ≡ true → registers ≡ true → buffer ≡ true → console ≡ true
    → first_refusal size registers buffer keys console budget ≡ (if keys then (if budget then Ok tt else Err BadBudget) else Err BadKeys)
run_passes keys budget p q r s = rw (p, q, r, s)

pub read_runs : ReadRuns
unfolding ReadRuns run run_answer machine_in cpu_in record_by
read_runs file mem con e ks budget =
    let a = read_accepts file mem con e in
    ap (λ (r : Restored). (run buffered ks budget (restored r)).answer) (gives file mem con a)
    ∙ run_passes (keys_ok ks 0) (budget_ok budget) (ap size_ok (length-memory file mem con a) ∙ a.size) (registers_again file mem con a) (buffer_again file mem con a)
    (le-leb _ _ (console_again file mem con a))

-- ---- it goes on

-- the counted entries of the machine that is read are those of the machine that was saved
carried_entries : (m : Machine) → entries_of (carried m) ≡ entries_of m
carried_entries m =
    let n = first_length m.held m.entries in
    first_take m.held (entries_of m ++ replicate (64 - m.held) zero_entry)
    (rw (length-append (entries_of m) (replicate (64 - m.held) zero_entry), n) (omega arith))
    ∙ take_at (entries_of m) (replicate (64 - m.held) zero_entry) m.held n

none_taken_same : (c : Cpu) → c.clock.taken ≡ 0 → none_taken c ≡ c
none_taken_same c e = λ i. record {
  regs = c.regs;
  clock = record { timer = c.clock.timer; timeout = c.clock.timeout; kbchar = c.clock.kbchar; taken = sym e i; pending = c.clock.pending };
  vadr = c.vadr;
  space = c.space;
  system = c.system;
  cause = c.cause;
  stop = c.stop;
  written = c.written;
  model = c.model;
  floats = c.floats;
}

pub goes_on : GoesOn
unfolding GoesOn SavedRead
goes_on m mem con file fits e none mem' con' same later =
    let a = save_accepts m mem con file e in
    let room : m.cpu.written ≤ length con' = omega (arith, a.console, later.0) in
    let whole : take m.cpu.written con ++ drop m.cpu.written con' ≡ con =
    ap (λ (l : List ℕ). take m.cpu.written con ++ l) later.1 ∙ take-append-drop m.cpu.written con in
    ap restored (saved_read m mem con file fits e mem' con' same room)
    ∙ (λ i. record {
      cpu = none_taken_same m.cpu none i;
      mem = mem;
      console = whole i;
      buffer = carried_entries m i;
    })

-- ---- demand 3

-- without entries the buffer is empty
no_entries : (file : List ℕ) (k : Counts) → k.entries ≡ 0 → entries_of (machine_in file k) ≡ []
unfolding entries_in
no_entries file k e = counted file k ∙ ap (λ (n : ℕ). entries_in n file entries_at) e

-- demand 3 from a state whose buffer is empty
from_empty : (s : State (List Entry)) → s.buffer ≡ [] → (runs : List Input)
    → Agree [] (transcripts buffered runs s) (transcripts reader runs (started (shown s) tt))
unfolding Demand3
from_empty s e runs =
    subst (λ (l : List Entry). Agree [] (transcripts buffered runs (started (shown s) l)) (transcripts reader runs (started (shown s) tt))) (sym e)
    (demand3 (shown s) runs)

pub demand3_after_read : Demand3AfterRead
unfolding Demand3AfterRead
demand3_after_read file mem con e none runs =
    let a = read_accepts file mem con e in
    from_empty (restored (read file mem con)) (ap (λ (r : Restored). entries_of r.machine) (gives file mem con a) ∙ no_entries file (counts_in file) none) runs
