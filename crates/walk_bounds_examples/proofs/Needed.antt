-- Document 02, item 6: without what the second bound supposes, a run from an empty buffer makes more walks.
-- Words are in hexadecimal: 0xa6 SPAG, 0xa5 PDIR, 0x4a SX, 0x98 RTI, 0x9b NOP.
use Prim.Native.Nat.{ℕ}
use mathlib.Core.Path.{◌≡◌, refl}
use mathlib.Core.Bool.{true, false}
use mathlib.Core.List.{List, [], ◌∷◌}
use Rattle.paging.specs.declared.Entry.{Entry}
use Rattle.rules.specs.Record.{put_a}
use Rattle.rules.specs.Step.{State}
use Rattle.worked.specs.Start.{put_b, put_sp, ◌holds◌, memory}
use Rattle.walk_bounds.specs.Bounds.{run_events}
use Rattle.walk_bounds_examples.proofs.Example.{kernel, machine, shown_by, shown}

-- ---- "without PDIR or SPAG"

-- an instruction three times; a is 1: SPAG leaves paging on, PDIR sets the directory that there is
abbrev thrice : ℕ → State (List Entry)
thrice w = machine (put_a 1 kernel) (memory 4096 (0 holds (0x07 ∷ 0x07 ∷ []) ∷ 0x100 holds (w ∷ w ∷ w ∷ []) ∷ []))

-- each fetch walks
pub spag_exceeds : shown_by (run_events [] 3 (thrice 0xa6)) ≡ record { walks = 3; pages = 1; faults = 0; bound = 2; space_was_set = true; held_word_stored = false }
unfolding shown
spag_exceeds = refl

pub pdir_exceeds : shown_by (run_events [] 3 (thrice 0xa5)) ≡ record { walks = 3; pages = 1; faults = 0; bound = 2; space_was_set = true; held_word_stored = false }
unfolding shown
pdir_exceeds = refl

-- ---- "without a store of the kind demand 3 names"

-- page 1 is frame 0, which has the directory, its own table. SX 0 writes page 1's table word, so that it has U; RTI returns to user mode, where the entry held does not serve
abbrev right_given : State (List Entry)
right_given =
    machine (put_a 0x07 (put_b 0x1004 (put_sp 0x1200 kernel)))
    (memory 4096 (0 holds (0x07 ∷ 0x03 ∷ []) ∷ 0x100 holds (0x4a ∷ 0x98 ∷ 0x9b ∷ []) ∷ 0x200 holds (0x10 ∷ 0 ∷ 0x1108 ∷ []) ∷ []))

-- page 1 has three entries, one after another: for the kernel's fetch, its write, the program's fetch
pub store_exceeds : shown_by (run_events [] 3 right_given) ≡ record { walks = 3; pages = 1; faults = 0; bound = 2; space_was_set = false; held_word_stored = true }
unfolding shown
store_exceeds = refl
