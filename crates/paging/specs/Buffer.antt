-- Document 01, "Addresses": the page buffer (document 01's term; a TLB of 64 entries), and refusal 3.
use Rattle.std.specs.Prelude.{ℕ, ◌/◌, Bool, true, false, not, cond, ◌&&◌, ◌||◌, List, [], ◌∷◌, length, ltb, eqb, leb}
use Rattle.std.proofs.Math.Option.{Option, none, some}
use Rattle.paging.specs.declared.Access.{Access}
use Rattle.paging.specs.declared.Entry.{Entry}
use Rattle.paging.specs.Event.{Event, kept, emptied, Words}
use Rattle.paging.specs.Walk.{is_write, Found, fault, found}

-- "An entry serves a read (fetch included) in kernel mode or if it has user right, a write if write right is there too"
unfoldable pub serves : Entry → Access → Bool → Bool
unfolding is_write
serves e kind user = (not user || e.user) && (not (is_write kind) || e.write)

-- the frame that an entry gives for a page, if one of them serves
unfoldable pub hit : ℕ → Access → Bool → List Entry → Option ℕ
hit p kind user [] = none
hit p kind user (e ∷ es) = cond (eqb e.page p && serves e kind user) (some e.frame) (hit p kind user es)

-- lists of things that each have a page: of entries, and of the words of entries
module _ {A : Type 0} (page_of : A → ℕ) where
  unfoldable pub has : ℕ → List A → Bool
  has p [] = false
  has p (x ∷ xs) = eqb (page_of x) p || has p xs

  -- "The same page replaces its entry, keeping its position"; otherwise in fill order
  unfoldable pub place : A → List A → List A
  place a [] = a ∷ []
  place a (x ∷ xs) = cond (eqb (page_of x) (page_of a)) (a ∷ xs) (x ∷ place a xs)

abbrev pub entry_page : Entry → ℕ
entry_page e = e.page

abbrev pub words_page : Words → ℕ
words_page w = w.page

abbrev pub capacity : ℕ
capacity = 64

-- the page has its entry already, or there is room for one more
unfoldable pub fits : ℕ → List Entry → Bool
fits p es = has entry_page p es || ltb (length es) capacity

-- "a new page when 64 are held empties the buffer first"
unfoldable pub room_in : Bool → List Entry → List Entry
room_in true es = es
room_in false es = []

unfoldable pub keep_events : Bool → Words → List Event
keep_events true w = kept w ∷ []
keep_events false w = emptied ∷ kept w ∷ []

-- the buffer with one more entry
unfoldable pub keep : Entry → List Entry → List Entry
unfolding room_in
keep e es = place entry_page e (room_in (fits e.page es) es)

-- the buffer after a walk for page p
unfoldable pub after_walk : ℕ → List Entry → Found → List Entry
unfolding keep
after_walk p es (fault code cause) = es
after_walk p es (found f u w da ta) = keep (record { page = p; frame = f; user = u; write = w }) es

unfoldable pub walk_events : ℕ → List Entry → Found → List Event
unfolding keep_events
walk_events p es (fault code cause) = []
walk_events p es (found f u w da ta) = keep_events (fits p es) (record { page = p; dir = da; tab = ta })

-- ---- refusal 3: "count above 64, page 2^20 or more, frame not below M/4,096, or a page twice"

unfoldable pub entry_ok : ℕ → Entry → Bool
entry_ok size e = ltb e.page 1048576 && ltb e.frame (size / 4096)

unfoldable pub entries_ok : ℕ → List Entry → Bool
unfolding entry_ok
entries_ok size [] = true
entries_ok size (e ∷ es) = entry_ok size e && (not (has entry_page e.page es) && entries_ok size es)

unfoldable pub buffer_ok : ℕ → List Entry → Bool
unfolding entries_ok
buffer_ok size es = leb (length es) capacity && entries_ok size es
