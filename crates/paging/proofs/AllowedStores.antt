-- Document 01, "The table reader": stores and marks that are not of demand 3's kind, each by computing.
use Prim.Native.Nat.{ℕ, zero, suc, ◌*◌}
use mathlib.Core.Path.{◌≡◌, refl}
use mathlib.Core.Bool.{Bool, true, false}
use mathlib.Core.List.{List, [], ◌∷◌, ◌++◌}
use Rattle.memory.specs.Memory.{load_n}
use Rattle.paging.specs.declared.Access.{Access}
use Rattle.paging.specs.declared.Access.TheVariants.{Read, Write}
use Rattle.paging.specs.Answer.{Answer}
use Rattle.paging.specs.declared.Entry.{Entry}
use Rattle.paging.specs.Event.{walked, kept, emptied, marked, stored, delivered, Words}
use Rattle.paging.specs.Walk.{bit, mark, mark_for, mark_events, dir_at, tab_at, allows, walk, found}
use Rattle.paging.specs.Buffer.{serves, hit, has, place, fits, after_walk, walk_events}
use Rattle.paging.specs.Held.{held_after, touches, touches_held, stores_held}
use Rattle.paging.specs.Translate.{Outcome, translate_by, paged, buffered}

-- an entry held: its page and its words' addresses
abbrev pub words : (page dir tab : ℕ) → Words
words p d t = record { page = p; dir = d; tab = t }

-- page 2 is held, with its directory word at 0x1000 and its table word at 0x2008
pub page_two : List Words
unfolding stores_held touches_held touches
page_two = words 2 0x1000 0x2008 ∷ []

-- ---- other places

-- a table word that no entry held was read from; user data
pub elsewhere : stores_held page_two (stored 0x2010 4 ∷ stored 0x3010 4 ∷ []) ≡ false
unfolding page_two
elsewhere = refl

-- nothing is held
pub nothing_held : stores_held [] (stored 0x2008 4 ∷ []) ≡ false
unfolding stores_held touches_held
nothing_held = refl

-- ---- bytes beside the words

-- the byte just before a word, and the store that ends there
pub before_words : stores_held page_two (stored 0xfff 1 ∷ stored 0xffc 4 ∷ stored 0x2007 1 ∷ stored 0x2004 4 ∷ []) ≡ false
unfolding page_two
before_words = refl

-- the byte just after a word, and the store that begins there
pub after_words : stores_held page_two (stored 0x1004 1 ∷ stored 0x1004 4 ∷ stored 0x200c 1 ∷ stored 0x200c 4 ∷ []) ≡ false
unfolding page_two
after_words = refl

-- ---- events that are no stores

-- a frame delivered outside words held: its two slots, then the trap
pub frame_elsewhere : stores_held page_two (stored 0x3ff8 4 ∷ stored 0x3ff0 4 ∷ delivered 1 ∷ []) ≡ false
unfolding page_two
frame_elsewhere = refl

-- a walk, an entry kept, the buffer emptied, a frame delivered: none counts by itself
pub others_listed : stores_held page_two (walked ∷ kept (words 3 0x1000 0x200c) ∷ delivered 1 ∷ emptied ∷ []) ≡ false
unfolding page_two place
others_listed = refl

-- ---- the walk's marks

-- marks in words held
pub marks_listed : stores_held page_two (marked 0x1000 ∷ marked 0x2008 ∷ []) ≡ false
unfolding page_two
marks_listed = refl

-- a small memory whose directory and table begin at 0. Directory words: at 0 for pages 0 to 1023, at 4 for pages 1024 to 2047; both name the
-- table at 0, so that pages 2 and 1026 share the table word at 8. Page 3's table word at 12 is not present.
pub small : List ℕ
small = 7 ∷ 0 ∷ 0 ∷ 0 ∷ 7 ∷ 0 ∷ 0 ∷ 0 ∷ 7 ∷ 0 ∷ 0 ∷ 0 ∷ 0 ∷ 0 ∷ 0 ∷ 0 ∷ []

-- a kernel access to a page, in the machine with the page buffer
pub asked : Access → ℕ → List ℕ → List Entry → Outcome (List Entry) Answer
unfolding translate_by paged walk bit mark mark_for mark_events dir_at tab_at allows load_n serves hit has place fits after_walk walk_events touches touches_held stores_held
asked k page m es = translate_by true 0 (record { kind = k; size = 4; addr = page * 4096; user = false }) m es

-- page 2 is read, and so held without write right
pub read_page : Outcome (List Entry) Answer
unfolding asked small
read_page = asked Read 2 small []

-- what became of the table word that is held, and whether a store of demand 3's kind was made
pub record Seen : Type 0 where
  pub table_word : ℕ
  pub stores : Bool

-- then a page is written
pub written : ℕ → Seen
unfolding read_page
written page =
    let o = asked Write page read_page.mem read_page.buffer in
    record { table_word = load_n 4 o.mem 8; stores = stores_held [] (read_page.events ++ o.events) }

-- the write sets D in the table word that is held
pub marks_written : written 2 ≡ record { table_word = 0x67; stores = false }
unfolding written
marks_written = refl

-- and so does a write through another page
pub marks_alias : written 1026 ≡ record { table_word = 0x67; stores = false }
unfolding written
marks_alias = refl

-- a walk that faults holds nothing: a store into the table word that it read
pub faulting_walk : stores_held [] ((asked Read 3 small []).events ++ (stored 12 4 ∷ [])) ≡ false
unfolding asked small
faulting_walk = refl

-- ---- entries that were replaced

-- the same page is kept again, from other words: a store into the old ones
pub replaced_words : stores_held page_two (kept (words 2 0x1800 0x2808) ∷ stored 0x1000 4 ∷ stored 0x2008 4 ∷ []) ≡ false
unfolding page_two place
replaced_words = refl

-- ---- entries that were emptied

-- by PDIR or SPAG
pub emptied_by_space : stores_held page_two (buffered.empty_events ++ (stored 0x1000 4 ∷ stored 0x2008 4 ∷ [])) ≡ false
unfolding page_two
emptied_by_space = refl

-- n entries, of the pages n - 1 down to 0
pub entries : ℕ → List Entry
entries zero = []
entries (suc n) = record { page = n; frame = 0; user = true; write = true } ∷ entries n

-- by the 65th page, number 64, whose own words are at 0x1000 and 0x2100
pub emptied_by_page : stores_held page_two (walk_events 64 (entries 64) (found 0 true true 0x1000 0x2100) ++ (stored 0x2008 4 ∷ [])) ≡ false
unfolding page_two entries place walk_events fits has
emptied_by_page = refl

-- ---- in a later step

-- what is held after a step's events: only an entry kept and a buffer emptied change it
pub held_later : held_after page_two (walked ∷ marked 0x1000 ∷ stored 0x3010 4 ∷ delivered 1 ∷ []) ≡ page_two
unfolding page_two held_after
held_later = refl

pub replaced_later : held_after page_two (kept (words 2 0x1800 0x2808) ∷ []) ≡ words 2 0x1800 0x2808 ∷ []
unfolding page_two held_after place
replaced_later = refl

pub emptied_later : held_after page_two (emptied ∷ []) ≡ []
unfolding page_two held_after
emptied_later = refl
