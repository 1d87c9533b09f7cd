-- Document 02, item 6, "never more than twice the pages entered plus the walks that ended in a fault": runs that meet it. Each page is read, then written: its first entry
-- has no write right.
-- Words are in hexadecimal: 0x1c LX, 0x4a SX, 0x40 SL, 0x0e LL, 0xa6 SPAG, 0xa5 PDIR.
use mathlib.Core.Path.{◌≡◌, refl}
use mathlib.Core.Bool.{false}
use mathlib.Core.List.{List, [], ◌∷◌}
use Rattle.paging.specs.declared.Entry.{Entry}
use Rattle.rules.specs.Record.{put_a}
use Rattle.rules.specs.Step.{State}
use Rattle.worked.specs.Start.{put_b, put_sp, put_ksp, put_ivec, in_user, enabled, ◌holds◌, memory}
use Rattle.walk_bounds.specs.Bounds.{run_events}
use Rattle.walk_bounds_examples.proofs.Example.{kernel, machine, shown_by, shown}

-- the directory is its own table; pages 1 and 2 are frame 0, page 3 is absent. LX 0 reads page 2, SX 0 writes it, SL 0 writes page 1, LL 0x1c00 faults on page 3; its frame is
-- on page 1
abbrev each_twice : State (List Entry)
each_twice =
    machine (enabled (put_ivec 0x1180 (put_sp 0x1400 (put_a 0x2300 (put_b 0x2304 kernel)))))
    (memory 4096 (0 holds (0x07 ∷ 0x07 ∷ 0x07 ∷ 0x06 ∷ []) ∷ 0x100 holds (0x1c ∷ 0x4a ∷ 0x40 ∷ 0x1c000e ∷ []) ∷ []))

pub twice_met : shown_by (run_events [] 4 each_twice) ≡ record { walks = 5; pages = 2; faults = 1; bound = 5; space_was_set = false; held_word_stored = false }
unfolding shown
twice_met = refl

-- "without PDIR or SPAG": those without effect do not count. SPAG in user mode is refused; then, from ivec, PDIR faults, since a is not below M
abbrev without_effect : State (List Entry)
without_effect =
    machine (in_user (enabled (put_ivec 0x1180 (put_ksp 0x1400 (put_a 0x1000 kernel)))))
    (memory 4096 (0 holds (0x07 ∷ 0x07 ∷ []) ∷ 0x100 holds (0xa6 ∷ []) ∷ 0x180 holds (0xa5 ∷ []) ∷ []))

-- the fetch and the frame's first slot walk
pub without_effect_meets : shown_by (run_events [] 2 without_effect) ≡ record { walks = 2; pages = 1; faults = 0; bound = 2; space_was_set = false; held_word_stored = false }
unfolding shown
without_effect_meets = refl
