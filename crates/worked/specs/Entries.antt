-- Document 01, "Addresses": the page buffer after a step, and the step's events, both in full and in order; then the table reader's events.
-- Memory and tables are as in Pages: pdir 0, page 1 at frame 0, its directory word at 0 and its table word at 4; code at 0x1100.
use Rattle.std.specs.Prelude.{ℕ, ◌≡◌, refl, true, false, List, [], ◌∷◌, ◌++◌}
use Rattle.paging.specs.declared.Entry.{Entry}
use Rattle.paging.specs.Event.{Event, walked, kept, emptied, marked, stored, delivered}
use Rattle.paging.specs.Translate.{buffered, reader}
use Rattle.rules.specs.declared.Cpu.{Cpu}
use Rattle.rules.specs.Record.{put_a}
use Rattle.worked.specs.Start.{fresh, put_b, put_sp, put_pc, put_ksp, in_user, enabled, paged_from, entry, entries, ◌holds◌, memory}
use Rattle.worked.specs.Opened.{stepped}

-- ---- how a line is written

-- a record, a memory and a buffer before a step; the buffer and the events after it
pub record Line : Type 0 where
  pub cpu : Cpu
  pub mem : List ℕ
  pub before : List Entry
  pub after : List Entry
  pub events : List Event

abbrev pub line : Cpu → List ℕ → List Entry → List Entry → List Event → Line
line cpu mem before after events = record { cpu = cpu; mem = mem; before = before; after = after; events = events }

unfoldable pub Holds : Line → Type 0
unfolding stepped
Holds l =
    let t = stepped buffered [] (record { cpu = l.cpu; mem = l.mem; console = []; buffer = l.before }) in
    (t.state.buffer ≡ l.after) × (t.events ≡ l.events)

-- page p's entry is kept, with the addresses of its words
abbrev keeps : (p dir tab : ℕ) → Event
keeps p da ta = kept (record { page = p; dir = da; tab = ta })

abbrev kernel : Cpu
kernel = paged_from 0 (put_pc 0x1100 (put_sp 0x1200 fresh))

-- the directory word, the words of pages 1 to 3, and an instruction at 0x1100
abbrev tables : (dir page1 page2 page3 instruction : ℕ) → List ℕ
tables d one two three w = memory 4096 (0 holds (d ∷ one ∷ two ∷ three ∷ []) ∷ 0x100 holds (w ∷ []) ∷ [])

-- ---- the lines

-- NOP's fetch: "Then an entry is kept: page, frame, user right .., and write right, which needs .. D in the table word"
pub fetch_keeps : Holds (line kernel (tables 0x07 0x07 0 0 0x9b) [] (entry 1 0 true false ∷ []) (walked ∷ marked 0 ∷ marked 4 ∷ keeps 1 0 4 ∷ []))
unfolding Holds
fetch_keeps = (refl, refl)

-- where A is set already nothing is marked
pub marks_once : Holds (line kernel (tables 0x27 0x27 0 0 0x9b) [] (entry 1 0 true false ∷ []) (walked ∷ keeps 1 0 4 ∷ []))
unfolding Holds
marks_once = (refl, refl)

-- a read where D is set already gives write right
pub dirty_gives_write : Holds (line kernel (tables 0x27 0x67 0 0 0x9b) [] (entry 1 0 true true ∷ []) (walked ∷ keeps 1 0 4 ∷ []))
unfolding Holds
dirty_gives_write = (refl, refl)

-- "user right (U in both words)", "W in both words": each is in one of them
pub no_U_no_W : Holds (line kernel (tables 0x23 0x65 0 0 0x9b) [] (entry 1 0 false false ∷ []) (walked ∷ keeps 1 0 4 ∷ []))
unfolding Holds
no_U_no_W = (refl, refl)

pub no_W_no_U : Holds (line kernel (tables 0x25 0x63 0 0 0x9b) [] (entry 1 0 false false ∷ []) (walked ∷ keeps 1 0 4 ∷ []))
unfolding Holds
no_W_no_U = (refl, refl)

-- "An entry serves a read (fetch included) in kernel mode or if it has user right": no walk, whatever the tables say
pub serves_kernel : Holds (line kernel (tables 0 0 0 0 0x9b) (entry 1 0 false false ∷ []) (entry 1 0 false false ∷ []) [])
unfolding Holds
serves_kernel = (refl, refl)

pub serves_user : Holds (line (in_user kernel) (tables 0 0 0 0 0x9b) (entry 1 0 true false ∷ []) (entry 1 0 true false ∷ []) [])
unfolding Holds
serves_user = (refl, refl)

-- without user right there is a walk in user mode; it faults here, the machine stops, and the entry stays
pub user_refused : Holds (line (in_user kernel) (tables 0x27 0x23 0 0 0x9b) (entry 1 0 false false ∷ []) (entry 1 0 false false ∷ []) (walked ∷ []))
unfolding Holds
user_refused = (refl, refl)

-- "a write if write right is there too": SX 0x20, b = 0x1300
pub serves_write : Holds (line (put_b 0x1300 kernel) (tables 0 0 0 0 0x204a) (entry 1 0 true true ∷ []) (entry 1 0 true true ∷ []) (stored 0x320 4 ∷ []))
unfolding Holds
serves_write = (refl, refl)

-- "The same page replaces its entry, keeping its position": the write marks D, and there is write right now
pub replaced_in_place : Holds
    (line (put_b 0x1300 kernel) (tables 0x27 0x27 0 0 0x204a) (entry 7 0 true true ∷ entry 1 0 true false ∷ entry 9 0 true true ∷ [])
    (entry 7 0 true true ∷ entry 1 0 true true ∷ entry 9 0 true true ∷ []) (walked ∷ marked 4 ∷ keeps 1 0 4 ∷ stored 0x320 4 ∷ []))
unfolding Holds
replaced_in_place = (refl, refl)

-- "otherwise entries stand in fill order": LX 0 at 0x3000
pub fill_order : Holds
    (line (put_a 0x3000 kernel) (tables 0x07 0x07 0 0x07 0x1c) (entry 9 0 true true ∷ []) (entry 9 0 true true ∷ entry 1 0 true false ∷ entry 3 0 true false ∷ [])
    (walked ∷ marked 0 ∷ marked 4 ∷ keeps 1 0 4 ∷ walked ∷ marked 12 ∷ keeps 3 0 12 ∷ []))
unfolding Holds
fill_order = (refl, refl)

-- "a new page when 64 are held empties the buffer first": pages 2 to 65 are held, and page 1 is fetched from
pub page_65 : Holds (line kernel (tables 0x07 0x07 0 0 0x9b) (entries 64 2) (entry 1 0 true false ∷ []) (walked ∷ marked 0 ∷ marked 4 ∷ emptied ∷ keeps 1 0 4 ∷ []))
unfolding Holds
page_65 = (refl, refl)

-- 63 and one more are 64
pub page_64 : Holds (line kernel (tables 0x07 0x07 0 0 0x9b) (entries 63 2) (entries 63 2 ++ entry 1 0 true false ∷ []) (walked ∷ marked 0 ∷ marked 4 ∷ keeps 1 0 4 ∷ []))
unfolding Holds
page_64 = (refl, refl)

-- page 1 is among the 64: it is replaced, and nothing is emptied
pub replaced_of_64 : Holds
    (line (put_b 0x1300 kernel) (tables 0x27 0x27 0 0 0x4a) (entry 1 0 true false ∷ entries 63 2) (entry 1 0 true true ∷ entries 63 2)
    (walked ∷ marked 4 ∷ keeps 1 0 4 ∷ stored 0x300 4 ∷ []))
unfolding Holds
replaced_of_64 = (refl, refl)

-- a walk that faults keeps no entry and empties nothing; A in the directory word is marked
pub faulting_of_64 : Holds (line kernel (tables 0x07 0x06 0 0 0x9b) (entries 64 2) (entries 64 2) (walked ∷ marked 0 ∷ []))
unfolding Holds
faulting_of_64 = (refl, refl)

-- "PDIR and SPAG, unless they fault, empty the buffer"
pub PDIR_empties : Holds (line kernel (tables 0 0 0 0 0xa5) (entry 1 0 true true ∷ entry 2 0 true true ∷ []) [] (emptied ∷ []))
unfolding Holds
PDIR_empties = (refl, refl)

pub SPAG_empties : Holds (line kernel (tables 0 0 0 0 0xa6) (entry 1 0 true true ∷ entry 2 0 true true ∷ []) [] (emptied ∷ []))
unfolding Holds
SPAG_empties = (refl, refl)

pub PDIR_faults : Holds (line (put_a 0x1000 kernel) (tables 0 0 0 0 0xa5) (entry 1 0 true true ∷ []) (entry 1 0 true true ∷ []) [])
unfolding Holds
PDIR_faults = (refl, refl)

-- TRAP: the slot of pc, the slot of the code, and the frame, by its code without 16; ksp is 0x1200
pub TRAP_delivers : Holds
    (line (in_user (put_ksp 0x1200 (enabled kernel))) (tables 0 0 0 0 0xa9) (entry 1 0 true true ∷ []) (entry 1 0 true true ∷ [])
    (stored 0x1f8 4 ∷ stored 0x1f0 4 ∷ delivered 5 ∷ []))
unfolding Holds
TRAP_delivers = (refl, refl)

-- a refused frame is not delivered: page 1 has no W
pub TRAP_refused : Holds (line (enabled kernel) (tables 0x27 0x25 0 0 0xa9) (entry 1 0 true false ∷ []) (entry 1 0 true false ∷ []) (walked ∷ []))
unfolding Holds
TRAP_refused = (refl, refl)

-- "Paging off: .. nothing is buffered": SXB 0, b = 0x300
pub direct_store : Holds (line (put_b 0x300 fresh) (memory 4096 (0 holds (0x4c ∷ []) ∷ [])) [] [] (stored 0x300 1 ∷ []))
unfolding Holds
direct_store = (refl, refl)

-- ---- the table reader's events

unfoldable pub reader_events : Cpu → List ℕ → List Event
unfolding stepped
reader_events cpu mem = (stepped reader [] (record { cpu = cpu; mem = mem; console = []; buffer = tt })).events

-- "each access walks from pdir .. and no entry is kept": NOP
pub reader_fetch : reader_events kernel (tables 0x07 0x07 0 0 0x9b) ≡ walked ∷ marked 0 ∷ marked 4 ∷ []
unfolding reader_events
reader_fetch = refl

-- the fetch and the read of one page: LX 0 at 0x1000
pub reader_reads : reader_events (put_a 0x1000 kernel) (tables 0x07 0x07 0 0 0x1c) ≡ walked ∷ marked 0 ∷ marked 4 ∷ walked ∷ []
unfolding reader_events
reader_reads = refl

-- "the same checks, faults, vadr and marks A and D": SX 0, b = 0x1300
pub reader_writes : reader_events (put_b 0x1300 kernel) (tables 0x27 0x27 0 0 0x4a) ≡ walked ∷ walked ∷ marked 4 ∷ stored 0x300 4 ∷ []
unfolding reader_events
reader_writes = refl

-- "PDIR and SPAG have nothing to empty"
pub reader_PDIR : reader_events kernel (tables 0x27 0x27 0 0 0xa5) ≡ walked ∷ []
unfolding reader_events
reader_PDIR = refl

-- TRAP: the fetch, and both slots
pub reader_TRAP : reader_events (enabled kernel) (tables 0x27 0x67 0 0 0xa9) ≡ walked ∷ walked ∷ walked ∷ stored 0x1f8 4 ∷ stored 0x1f0 4 ∷ delivered 5 ∷ []
unfolding reader_events
reader_TRAP = refl
