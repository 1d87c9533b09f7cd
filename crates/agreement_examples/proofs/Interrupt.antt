-- Document 01, "One step" and "Traps": both machines take a key, deliver its trap through the page tables, print a byte and return.
-- Words are in hexadecimal: 0x9a BOUT, 0x99 BIN, 0x98 RTI.
use mathlib.Core.Path.{◌≡◌, refl}
use mathlib.Core.Bool.{true}
use mathlib.Core.List.{[], ◌∷◌}
use Rattle.paging.specs.Event.{walked, marked, stored, delivered}
use Rattle.worked.specs.Start.{put_b, put_sp, put_ivec, enabled, key, ◌holds◌, memory}
use Rattle.agreement_examples.proofs.Example.{Example, kernel, run_with, example_with, keeps, entry, buffer_runs, reader_runs, console_after, Shows, shows}

-- the directory is its own table, and page 1 is frame 0. A key comes in step 1; the handler at 0x1180 prints b's low byte, reads the key and returns
abbrev pub interrupted : Example
interrupted =
    example_with (put_b 0x46 (put_ivec 0x1180 (put_sp 0x1200 (enabled kernel))))
    (memory 4096 (0 holds (0x07 ∷ 0x07 ∷ []) ∷ 0x180 holds (0x9a ∷ 0x99 ∷ 0x98 ∷ []) ∷ [])) (0 ∷ [])
    (run_with (key 1 0x41 ∷ []) 2 ∷ run_with (key 1 0x41 ∷ []) 2 ∷ [])

-- the frame's first slot has a walk, its second and all later accesses are served by the entry; the stores touch no word of it
pub interrupted_shows : Shows interrupted
    ((walked ∷ marked 0 ∷ marked 4 ∷ keeps 1 0 4 ∷ stored 0x1f8 4 ∷ stored 0x1f0 4 ∷ delivered 2 ∷ []) ∷ [] ∷ [] ∷ [] ∷ [])
    (entry 1 0 true true ∷ []) 7 0x41
unfolding buffer_runs reader_runs
interrupted_shows = shows interrupted refl refl refl refl refl refl

-- the byte is on the console
pub interrupted_prints : console_after (reader_runs interrupted) ≡ 0x46 ∷ []
unfolding reader_runs
interrupted_prints = refl
