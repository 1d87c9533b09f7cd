-- Document 01, "Addresses", and document 02, item 4: the page table walk, which names the cause of a fault. Its stages stand in the order of the sentences; each takes the outcome of its test first.
use Rattle.std.specs.Prelude.{ℕ, ◌+◌, ◌*◌, ◌/◌, ◌%◌, ◌-◌, Bool, true, false, not, ◌&&◌, ◌||◌, List, [], ◌∷◌, ◌++◌, length, get_or, set, ltb, eqb, if◌then◌else◌}
use Rattle.word.specs.Word.{cut}
use Rattle.memory.specs.Memory.{load_n}
use Rattle.paging.specs.declared.Access.{Access}
use Rattle.paging.specs.declared.Access.TheVariants.{Fetch, Read, Write}
use Rattle.paging.specs.declared.Cause.{Cause}
use Rattle.paging.specs.declared.Cause.TheVariants.{DirectoryAbsent, DirectoryBeyondMemory, TableAbsent, NoUserRight, NoWriteRight, FrameBeyondMemory}
use Rattle.paging.specs.declared.TrapCode.{TrapCode}
use Rattle.paging.specs.declared.TrapCode.TheVariants.{Fmem}
use Rattle.paging.specs.TrapCode.{page_fault}
use Rattle.paging.specs.Event.{Event, walked, marked}

unfoldable pub is_write : Access → Bool
is_write Fetch = false
is_write Read = false
is_write Write = true

-- ---- the bits of a directory or table word: P 1, W 2, U 4, A 0x20, D 0x40

-- the bit of value k is set in w
unfoldable pub bit : ℕ → ℕ → Bool
bit v w = eqb (w / v % 2) 1

abbrev pub present : ℕ → Bool
present w = bit 1 w

abbrev pub writable : ℕ → Bool
writable w = bit 2 w

abbrev pub for_user : ℕ → Bool
for_user w = bit 4 w

abbrev pub accessed : ℕ → Bool
accessed w = bit 32 w

abbrev pub dirty : ℕ → Bool
dirty w = bit 64 w

-- w with the bit of value k set
unfoldable pub set_bit : ℕ → ℕ → ℕ
set_bit v w = w + v * (1 - w / v % 2)

-- a mark of the walk: the bit of value k, 0x20 or 0x40 and so in the low byte, is set in the word at a
unfoldable pub mark : ℕ → List ℕ → ℕ → List ℕ
unfolding set_bit
mark v m a = set m a (set_bit v (get_or m a 0))

-- "Set A, for a write A and D"
unfoldable pub mark_for : Access → List ℕ → ℕ → List ℕ
mark_for Fetch m a = mark 32 m a
mark_for Read m a = mark 32 m a
mark_for Write m a = mark 64 (mark 32 m a) a

-- an event where these marks change the word w at a
unfoldable pub mark_events : Access → ℕ → ℕ → List Event
mark_events kind w a = if accessed w && (not (is_write kind) || dirty w) then [] else (marked a ∷ [])

-- ---- the addresses of the two words

-- "The directory word is at pdir + 4 × (top ten bits)"; a page is the top twenty bits of an address
unfoldable pub dir_at : ℕ → ℕ → ℕ
dir_at pdir page = pdir + 4 * (page / 1024)

-- "The table word is at that frame + 4 × (next ten bits)"
unfoldable pub tab_at : ℕ → ℕ → ℕ
tab_at dw page = cut 4096 dw + 4 * (page % 1024)

-- ---- the tests of the table word, in their order

-- "in user mode U in both words"
unfoldable pub user_ok : ℕ → ℕ → Bool → Bool
user_ok dw tw user = not user || (for_user dw && for_user tw)

-- "for a write W in both words"
unfoldable pub write_ok : ℕ → ℕ → Access → Bool
write_ok dw tw kind = not (is_write kind) || (writable dw && writable tw)

-- "It must have P, in user mode U in both words, for a write W in both words"
unfoldable pub allows : ℕ → ℕ → Access → Bool → Bool
unfolding user_ok write_ok is_write
allows dw tw kind user = present tw && user_ok dw tw user && write_ok dw tw kind

-- where it doesn't, the first of these tests that fails: "table absent, no user right, no write right"
unfoldable pub refused_by : ℕ → ℕ → Bool → Cause
unfolding user_ok
refused_by dw tw user = if present tw then (if user_ok dw tw user then NoWriteRight else NoUserRight) else TableAbsent

-- ---- the walk

-- what a walk finds: a fault's code and cause; or the frame, the user and the write right, and the addresses of the two words read
pub data Found : Type 0 where
  fault : (code : TrapCode) (cause : Cause) → Found
  found : (frame : ℕ) (user write : Bool) (dir tab : ℕ) → Found

pub record Walked : Type 0 where
  pub mem : List ℕ
  pub found : Found
  pub events : List Event

-- "If its frame is not below M, FMEM. Then an entry is kept": write right "needs W in both words and D in the table word"
unfoldable pub walk_frame : Bool → List Event → List ℕ → ℕ → ℕ → ℕ → ℕ → Walked
walk_frame false es m dw tw da ta = record { mem = m; found = fault Fmem FrameBeyondMemory; events = es }
walk_frame true es m dw tw da ta = record {
  mem = m;
  found = found (tw / 4096) (for_user dw && for_user tw) (writable dw && writable tw && dirty (load_n 4 m ta)) da ta;
  events = es;
}

-- the table word allows the access, "else page fault. Set A, for a write A and D"
unfoldable pub walk_table : Bool → List Event → List ℕ → ℕ → ℕ → ℕ → ℕ → Access → Bool → Walked
unfolding walk_frame refused_by
walk_table false es m dw tw da ta kind user = record { mem = m; found = fault (page_fault kind) (refused_by dw tw user); events = es }
walk_table true es m dw tw da ta kind user = walk_frame (ltb (cut 4096 tw) (length m)) (es ++ mark_events kind tw ta) (mark_for kind m ta) dw tw da ta

-- "if its frame address is not below M, FMEM"
unfoldable pub walk_below : Bool → List Event → List ℕ → ℕ → ℕ → ℕ → Access → Bool → Walked
unfolding walk_table
walk_below false es m dw da page kind user = record { mem = m; found = fault Fmem DirectoryBeyondMemory; events = es }
walk_below true es m dw da page kind user =
    walk_table (allows dw (load_n 4 m (tab_at dw page)) kind user) es m dw (load_n 4 m (tab_at dw page)) da (tab_at dw page) kind user

-- "Without P: page fault. Set A there"
unfoldable pub walk_dir : Bool → List ℕ → ℕ → ℕ → ℕ → Access → Bool → Walked
unfolding walk_below
walk_dir false m dw da page kind user = record { mem = m; found = fault (page_fault kind) DirectoryAbsent; events = walked ∷ [] }
walk_dir true m dw da page kind user =
    walk_below (ltb (cut 4096 dw) (length m)) (walked ∷ mark_events Read dw da) (mark 32 m da) dw da page kind user

-- the walk of a page's tables from pdir
unfoldable pub walk : List ℕ → ℕ → ℕ → Access → Bool → Walked
unfolding walk_dir
walk m pdir page kind user =
    walk_dir (present (load_n 4 m (dir_at pdir page))) m (load_n 4 m (dir_at pdir page)) (dir_at pdir page) page kind user
