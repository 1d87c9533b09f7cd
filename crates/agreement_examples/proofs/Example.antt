-- Document 01, "The table reader": how an example is written. Both machines start alike and make the same runs; all that demand 3 compares of them is computed.
use Prim.Native.Nat.{ℕ, suc}
use mathlib.Core.Path.{◌≡◌}
use mathlib.Core.Bool.{Bool, true, false}
use mathlib.Core.List.{List, [], ◌∷◌, ◌++◌, map}
use Rattle.paging.specs.declared.Entry.{Entry}
use Rattle.paging.specs.Event.{Event, walked, kept, emptied, marked, stored, delivered}
use Rattle.paging.specs.Held.{touches, touches_held, held_after, stores_held}
use Rattle.paging.specs.Translate.{buffered, reader}
use Rattle.rules.specs.declared.Cpu.{Cpu}
use Rattle.rules.specs.declared.Key.{Key}
use Rattle.worked.specs.Start.{fresh, put_pc, paged_from}
use Rattle.worked.specs.Opened.{ran_by}
use Rattle.agreement.specs.Agreement.{Input, Transcript, transcripts, Shown, started}
use Rattle.agreement.proofs.EqualTranscripts.{stores_in_runs, compared}
use Rattle.agreement_examples.proofs.Same.{same_all, same_run, same_runs}

-- where both machines start, and what they are given
pub record Example : Type 0 where
  pub start : Shown
  pub runs : List Input

-- ---- how examples are written

-- paging from 0, pc 0x1100
abbrev pub kernel : Cpu
kernel = paged_from 0 (put_pc 0x1100 fresh)

-- a run with keys, and one without
abbrev pub run_with : List Key → ℕ → Input
run_with ks n = record { keys = ks; budget = n }

abbrev pub run : ℕ → Input
run n = run_with [] n

-- a record, a memory and a console; and without a console
abbrev pub example_with : Cpu → List ℕ → List ℕ → List Input → Example
example_with cpu mem con runs = record { start = record { cpu = cpu; mem = mem; console = con }; runs = runs }

abbrev pub example : Cpu → List ℕ → List Input → Example
example cpu mem runs = example_with cpu mem [] runs

-- page p's entry is kept: its words
abbrev pub keeps : (p dir tab : ℕ) → Event
keeps p da ta = kept (record { page = p; dir = da; tab = ta })

-- an entry: page, frame, user right, write right
abbrev pub entry : (p f : ℕ) → Bool → Bool → Entry
entry p f u w = record { page = p; frame = f; user = u; write = w }

-- ---- the runs

-- the runs of the machine with the page buffer, empty at the start
unfoldable pub buffer_runs : Example → List (Transcript (List Entry))
unfolding ran_by transcripts touches touches_held held_after stores_held
buffer_runs x = transcripts buffered x.runs (started x.start [])

-- the runs of the table reader
unfoldable pub reader_runs : Example → List (Transcript (Unit {0}))
unfolding ran_by transcripts
reader_runs x = transcripts reader x.runs (started x.start tt)

-- ---- what happened

-- the events of every step
abbrev pub events_of : {B : Type 0} → List (Transcript B) → List (List Event)
events_of [] = []
events_of (t ∷ ts) = map (λ s. s.events) t.steps ++ events_of ts

-- the walks among some events, and n more
abbrev pub walks_among : List Event → ℕ → ℕ
walks_among [] n = n
walks_among (walked ∷ es) n = suc (walks_among es n)
walks_among (kept w ∷ es) n = walks_among es n
walks_among (emptied ∷ es) n = walks_among es n
walks_among (marked a ∷ es) n = walks_among es n
walks_among (stored a k ∷ es) n = walks_among es n
walks_among (delivered c ∷ es) n = walks_among es n

-- the walks of all steps
abbrev pub walks_of : List (List Event) → ℕ
walks_of [] = 0
walks_of (es ∷ ess) = walks_among es (walks_of ess)

-- the entries after the last run, in their order
abbrev pub entries_after : List (Transcript (List Entry)) → List Entry
entries_after [] = []
entries_after (t ∷ []) = t.last.buffer
entries_after (t ∷ u ∷ ts) = entries_after (u ∷ ts)

-- register a after the last run
abbrev pub a_after : {B : Type 0} → List (Transcript B) → ℕ
a_after [] = 0
a_after (t ∷ []) = t.last.cpu.regs.a
a_after (t ∷ u ∷ ts) = a_after (u ∷ ts)

-- the console after the last run
abbrev pub console_after : {B : Type 0} → List (Transcript B) → List ℕ
console_after [] = []
console_after (t ∷ []) = t.last.console
console_after (t ∷ u ∷ ts) = console_after (u ∷ ts)

-- ---- what an example shows

pub record Shows (x : Example) (events : List (List Event)) (entries : List Entry) (accesses a : ℕ) : Type 0 where
  -- both machines come to the same answers, reported steps and states
  pub same : map compared (buffer_runs x) ≡ map compared (reader_runs x)
  -- and no store of demand 3's kind ends the comparison before
  pub through : stores_in_runs [] (buffer_runs x) ≡ false
  -- the events of the machine with the page buffer, step by step, and its entries at the end
  pub happened : events_of (buffer_runs x) ≡ events
  pub left : entries_after (buffer_runs x) ≡ entries
  -- the accesses translated: the table reader walks for each
  pub walks : walks_of (events_of (reader_runs x)) ≡ accesses
  -- register a at the end
  pub found : a_after (reader_runs x) ≡ a

-- all of it computed
pub shows : (x : Example) {events : List (List Event)} {entries : List Entry} {accesses a : ℕ}
    → same_all same_run (map compared (buffer_runs x)) (map compared (reader_runs x)) ≡ true → stores_in_runs [] (buffer_runs x) ≡ false
    → events_of (buffer_runs x) ≡ events → entries_after (buffer_runs x) ≡ entries → walks_of (events_of (reader_runs x)) ≡ accesses → a_after (reader_runs x) ≡ a
    → Shows x events entries accesses a
shows x t q e n w f =
    record { same = same_runs (map compared (buffer_runs x)) (map compared (reader_runs x)) t; through = q; happened = e; left = n; walks = w; found = f }
