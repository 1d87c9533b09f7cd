-- Document 02, item 6, "with at most 64 different pages entered": with 65, each read and then written, a run makes more walks than the second bound. The 65th page empties the
-- buffer, and the fetch has to walk again.
use Prim.Native.Nat.{ℕ, zero, suc, ◌+◌, ◌*◌}
use mathlib.Core.Path.{◌≡◌, refl}
use mathlib.Core.Bool.{false}
use mathlib.Core.List.{List, [], ◌∷◌}
use lib.ListN.{replicate}
use Rattle.paging.specs.declared.Entry.{Entry}
use Rattle.rules.specs.Step.{State}
use Rattle.worked.specs.Start.{put_pc, put_sp, ◌holds◌, memory}
use Rattle.walk_bounds.specs.Bounds.{run_events}
use Rattle.walk_bounds_examples.proofs.Example.{kernel, machine, shown_by, shown}

-- n times LX (0x1c) and SX (0x4a), at 0x110 on the pages from p on; a and b are 0, and what is read there is 0 again
abbrev reads_and_writes : (n p : ℕ) → List ℕ
reads_and_writes zero p = []
reads_and_writes (suc n) p = ((p * 4096 + 0x110) * 256 + 0x1c) ∷ ((p * 4096 + 0x110) * 256 + 0x4a) ∷ reads_and_writes n (suc p)

-- the directory is its own table: pages 0 to n + 1 are frame 0. Code is on page 1, and SL (0x40), its first instruction, writes there; n more pages follow
abbrev pages_twice : ℕ → State (List Entry)
pages_twice n = machine (put_pc 0x1200 (put_sp 0x1110 kernel)) (memory 4096 (0 holds replicate (n + 2) 0x07 ∷ 0x200 holds (0x40 ∷ reads_and_writes n 2) ∷ []))

-- 64 pages meet the bound
pub sixty_four_meet : shown_by (run_events [] 127 (pages_twice 63)) ≡ record { walks = 128; pages = 64; faults = 0; bound = 128; space_was_set = false; held_word_stored = false }
unfolding shown
sixty_four_meet = refl

-- 65 exceed it
pub sixty_five_exceed : shown_by (run_events [] 129 (pages_twice 64)) ≡ record { walks = 131; pages = 65; faults = 0; bound = 130; space_was_set = false; held_word_stored = false }
unfolding shown
sixty_five_exceed = refl
