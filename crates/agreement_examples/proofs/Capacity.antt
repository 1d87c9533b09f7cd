-- Document 01, "Addresses": "a new page when 64 are held empties the buffer first", in a run from an empty buffer. Code is on page 1, and 64 instructions LX read
-- from pages 2 to 65, each a new one; then the fetch has to walk again.
use Prim.Native.Nat.{ℕ, zero, suc, ◌+◌, ◌*◌}
use mathlib.Core.Path.{refl}
use mathlib.Core.Bool.{true, false}
use mathlib.Core.List.{List, [], ◌∷◌, ◌++◌}
use lib.ListN.{replicate}
use Rattle.paging.specs.Event.{Event, walked, emptied, marked}
use Rattle.worked.specs.Start.{put_pc, ◌holds◌, memory}
use Rattle.agreement_examples.proofs.Example.{Example, kernel, run, example, keeps, entry, buffer_runs, reader_runs, Shows, shows}

-- n instructions LX, at 0xf00 on the pages from p on; a is 0, and what is read there is 0 again
abbrev loads : (n p : ℕ) → List ℕ
loads zero p = []
loads (suc n) p = ((p * 4096 + 0xf00) * 256 + 0x1c) ∷ loads n (suc p)

-- the directory is its own table: pages 0 to 65 are frame 0. NOP is the last instruction
abbrev pub many : Example
many = example (put_pc 0x1400 kernel) (memory 4096 (0 holds replicate 66 0x07 ∷ 0x400 holds (loads 64 2 ++ 0x9b ∷ []) ∷ [])) (run 65 ∷ [])

-- n steps that each keep an entry, of the pages from p on
abbrev fills : (n p : ℕ) → List (List Event)
fills zero p = []
fills (suc n) p = (walked ∷ marked (4 * p) ∷ keeps p 0 (4 * p) ∷ []) ∷ fills n (suc p)

-- 64 pages are held after the step that reads page 64; page 65 empties the buffer, and page 1 is walked for again
pub many_show : Shows many
    ((walked ∷ marked 0 ∷ marked 4 ∷ keeps 1 0 4 ∷ walked ∷ marked 8 ∷ keeps 2 0 8 ∷ [])
    ∷ (fills 62 3 ++ (walked ∷ marked 260 ∷ emptied ∷ keeps 65 0 260 ∷ []) ∷ (walked ∷ keeps 1 0 4 ∷ []) ∷ []))
    (entry 65 0 true false ∷ entry 1 0 true false ∷ []) 129 0
unfolding buffer_runs reader_runs
many_show = shows many refl refl refl refl refl refl
