-- Document 02, item 5: "After reading, demand 3 is claimed only if no entries were saved": why not otherwise. A machine that holds page 1 at frame 0 is saved and
-- read back; its tables give page 1 frame 1. It is accepted, by reading and by the run, and fetches another instruction than the table reader.
use Prim.Native.Nat.{ℕ}
use native.Mathlib.Omega.{arith}
use mathlib.Core.Bool.{true, false}
use mathlib.Core.List.{List, [], ◌∷◌}
use mathlib.Core.Path.{◌≡◌, refl, ap}
use lib.ListN.{replicate}
use Rattle.paging.specs.declared.Entry.{Entry}
use Rattle.paging.specs.Translate.{buffered, reader}
use Rattle.rules.specs.declared.Machine.{Machine}
use Rattle.rules.specs.Load.{zero_entry}
use Rattle.rules.specs.Step.{State}
use Rattle.refusals.specs.View.{view_of}
use Rattle.worked.specs.Start.{fresh, put_pc, paged_from, entry, ◌holds◌, memory}
use Rattle.worked.specs.Opened.{ran_by}
use Rattle.agreement.specs.Agreement.{Input, Transcript, transcripts, Shown, shown, Agree, started}
use Rattle.encoding.specs.Encoding.{little_endian, encoded}
use Rattle.encoding.specs.Entries.{encoded_entries}
use Rattle.machine_file.specs.Layout.{file_of}
use Rattle.machine_file.specs.Judged.{machine_in}
use Rattle.snapshot.specs.Reading.{Restored, read_number, read}
use Rattle.snapshot_examples.specs.Refusals.{read_into}

-- LI 4 at 0x100 and LI 5 at 0x1100; the directory is at 0 and is its own table
abbrev pub mem : List ℕ
mem = memory 8192 (0 holds (0x07 ∷ 0x1007 ∷ []) ∷ 0x100 holds (0x0423 ∷ []) ∷ 0x1100 holds (0x0523 ∷ []) ∷ [])

abbrev pub machine : Machine
machine = record { cpu = paged_from 0 (put_pc 0x1100 fresh); entries = entry 1 0 true false ∷ replicate 63 zero_entry; held = 1 }

unfoldable pub back : Restored
unfolding little_endian encoded encoded_entries file_of read_into machine_in read
back = read (file_of machine mem []) (replicate 8192 0) []

-- where both machines start
abbrev pub start : State (List Entry)
start = view_of back.machine back.mem back.console

-- one run of one step
abbrev pub runs : List Input
runs = record { keys = []; budget = 1 } ∷ []

unfoldable pub with_buffer : List (Transcript (List Entry))
unfolding back ran_by transcripts
with_buffer = transcripts buffered runs start

unfoldable pub with_tables : List (Transcript (Unit {0}))
unfolding back ran_by transcripts
with_tables = transcripts reader runs (started (shown start) tt)

-- the file is accepted, and so is the run, by both
pub accepted : read_number back.answer ≡ 0
unfolding back
accepted = refl

-- the machine with the page buffer executes LI 4, the table reader LI 5: they do not agree
pub disagree : Agree [] with_buffer with_tables → ⊥
unfolding with_buffer with_tables
disagree g =
    let a : ◌≡◌ {A = ℕ} 4 5 = ap (λ (s : Shown). s.cpu.regs.a) g.1.0 in
    omega (arith, a)
