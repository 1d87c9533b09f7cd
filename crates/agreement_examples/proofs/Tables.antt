-- Document 01, "The table reader" and "Addresses": demand 3 is not empty. In four examples here, and the fifth in Capacity, both machines translate: hits, walks and
-- entries replaced in place; a self-mapped directory; two directory words that name one table; PDIR. An access that made no walk was served by an entry.
-- Words are in hexadecimal: 0x1c LX, 0x4a SX, 0x0e LL, 0x40 SL, 0xa5 PDIR, 0x23 LI. Entries and events of single steps are in crate `worked`, Entries.
use mathlib.Core.Path.{refl}
use mathlib.Core.Bool.{true, false}
use mathlib.Core.List.{[], ◌∷◌}
use Rattle.paging.specs.Event.{walked, emptied, marked, stored}
use Rattle.rules.specs.Record.{put_a}
use Rattle.worked.specs.Start.{put_b, put_sp, ◌holds◌, memory}
use Rattle.agreement_examples.proofs.Example.{Example, kernel, run, example, keeps, entry, buffer_runs, reader_runs, Shows, shows}

-- ---- hits, walks, an entry replaced in place

-- LX 0 at 0x2300, SX 0 at 0x1304, and in a second run SX 0 again. The directory is its own table; pages 1 and 2 are frame 0
abbrev pub hits : Example
hits =
    example (put_a 0x2300 (put_b 0x1304 kernel))
    (memory 4096 (0 holds (0x07 ∷ 0x07 ∷ 0x07 ∷ []) ∷ 0x100 holds (0x1c ∷ 0x4a ∷ 0x4a ∷ []) ∷ 0x300 holds (0x55 ∷ []) ∷ [])) (run 2 ∷ run 1 ∷ [])

-- the write has a walk of its own, since the fetch left page 1 without write right; its entry keeps the first place. The last step has no walk
pub hits_show : Shows hits
    ((walked ∷ marked 0 ∷ marked 4 ∷ keeps 1 0 4 ∷ walked ∷ marked 8 ∷ keeps 2 0 8 ∷ [])
    ∷ (walked ∷ marked 4 ∷ keeps 1 0 4 ∷ stored 0x304 4 ∷ [])
    ∷ (stored 0x304 4 ∷ [])
    ∷ [])
    (entry 1 0 true true ∷ entry 2 0 true false ∷ []) 6 0x55
unfolding buffer_runs reader_runs
hits_show = shows hits refl refl refl refl refl refl

-- ---- a self-mapped directory

-- page 0 is the directory. SX 12 maps page 3, of which no entry is held; LL 0x3300 reads there; LL 12 reads page 3's table word, with its mark
abbrev pub self_mapped : Example
self_mapped =
    example (put_a 0x07 (put_sp 0 kernel))
    (memory 4096 (0 holds (0x07 ∷ 0x07 ∷ []) ∷ 0x100 holds (0x0c4a ∷ 0x33000e ∷ 0x0c0e ∷ []) ∷ 0x300 holds (0x55 ∷ []) ∷ [])) (run 3 ∷ [])

-- the store touches no word of an entry held: 0 and 4; the last step has no walk
pub self_mapped_shows : Shows self_mapped
    ((walked ∷ marked 0 ∷ marked 4 ∷ keeps 1 0 4 ∷ walked ∷ marked 0 ∷ keeps 0 0 0 ∷ stored 12 4 ∷ [])
    ∷ (walked ∷ marked 12 ∷ keeps 3 0 12 ∷ [])
    ∷ []
    ∷ [])
    (entry 1 0 true false ∷ entry 0 0 true true ∷ entry 3 0 true false ∷ []) 6 0x27
unfolding buffer_runs reader_runs
self_mapped_shows = shows self_mapped refl refl refl refl refl refl

-- ---- two directory words that name one table

-- the table is frame 1: pages 1 and 0x401 have one table word. LX 0 at 0x401300, SX 0 at 0x401304, then SL 0 at 0x1400 twice
abbrev pub shared_table : Example
shared_table =
    example (put_a 0x401300 (put_b 0x401304 (put_sp 0x1400 kernel)))
    (memory 8192 (0 holds (0x1007 ∷ 0x1007 ∷ []) ∷ 0x100 holds (0x1c ∷ 0x4a ∷ 0x40 ∷ 0x40 ∷ []) ∷ 0x300 holds (0x55 ∷ []) ∷ 0x1004 holds (0x07 ∷ []) ∷ [])) (run 4 ∷ [])

-- D was set through page 0x401: the write through page 1 has a walk, and marks nothing
pub shared_table_shows : Shows shared_table
    ((walked ∷ marked 0 ∷ marked 0x1004 ∷ keeps 1 0 0x1004 ∷ walked ∷ marked 4 ∷ keeps 0x401 4 0x1004 ∷ [])
    ∷ (walked ∷ marked 0x1004 ∷ keeps 0x401 4 0x1004 ∷ stored 0x304 4 ∷ [])
    ∷ (walked ∷ keeps 1 0 0x1004 ∷ stored 0x400 4 ∷ [])
    ∷ (stored 0x400 4 ∷ [])
    ∷ [])
    (entry 1 0 true true ∷ entry 0x401 0 true true ∷ []) 8 0x55
unfolding buffer_runs reader_runs
shared_table_shows = shows shared_table refl refl refl refl refl refl

-- ---- PDIR

-- the second directory, at 0x1000, has page 1 at frame 1: after PDIR the fetch at 0x1104 finds LI 5, and not LI 4
abbrev pub turned : Example
turned =
    example (put_a 0x1000 kernel)
    (memory 8192 (0 holds (0x07 ∷ 0x07 ∷ []) ∷ 0x100 holds (0xa5 ∷ 0x0423 ∷ []) ∷ 0x1000 holds (0x1007 ∷ 0x1007 ∷ []) ∷ 0x1104 holds (0x0523 ∷ []) ∷ []))
    (run 2 ∷ [])

-- the buffer is emptied, and the fetch walks from the new directory
pub turned_shows : Shows turned
    ((walked ∷ marked 0 ∷ marked 4 ∷ keeps 1 0 4 ∷ emptied ∷ []) ∷ (walked ∷ marked 0x1000 ∷ marked 0x1004 ∷ keeps 1 0x1000 0x1004 ∷ []) ∷ [])
    (entry 1 1 true false ∷ []) 2 5
unfolding buffer_runs reader_runs
turned_shows = shows turned refl refl refl refl refl refl
