-- Document 01, "Addresses", and document 02, item 6: the page buffer as it is lent, one array of numbers. Its layout is decided here alone: 64 slots with an
-- entry each, then the count of entries, then the table walks counted. A slot past the count may hold anything.
use Rattle.std.specs.Prelude.{◌≡◌, ℕ, suc, ◌/◌, ◌%◌, ◌≤◌, Bool, ◌&&◌, List, [], ◌∷◌, map, length, take, ◌==◌, nat_lt, slice_index, if◌then◌else◌, Option, Some, None}
use Rattle.paging.specs.declared.Access.{Access}
use Rattle.paging.specs.declared.Entry.{Entry}
use Rattle.paging.specs.Buffer.{serves}
use Rattle.paging.specs.Walk.{bit}
use Rattle.paging.specs.Counting.{Counted, counted}

-- how many numbers the lent array has
abbrev pub slots : ℕ
slots = 66

-- how many entries are counted
abbrev pub count : List ℕ → ℕ
count l = slice_index l 64

-- the table walks counted
abbrev pub walks : List ℕ → ℕ
walks l = slice_index l 65

abbrev pub entry : ℕ → ℕ → Bool → Bool → Entry
entry p f u w = record { page = p; frame = f; user = u; write = w }

-- an entry's number: page * page_unit + frame * frame_unit + user right * 2 + write right
abbrev pub page_unit : ℕ
page_unit = 4294967296

abbrev pub frame_unit : ℕ
frame_unit = 4096

-- the frames of the largest memory
abbrev pub frames : ℕ
frames = 32768

abbrev pub page_in : ℕ → ℕ
page_in w = w / page_unit

abbrev pub frame_in : ℕ → ℕ
frame_in w = w / frame_unit % frames

abbrev pub unpack : ℕ → Entry
unpack w = entry (page_in w) (frame_in w) (bit 2 w) (bit 1 w)

-- the counted entries, in order
unfoldable pub entries_in : List ℕ → List Entry
entries_in l = map unpack (take (count l) l)

-- all that the array holds
abbrev pub lent : List ℕ → Counted (List Entry)
lent l = counted (entries_in l) (walks l)

-- where the entry of page p stands, or how many entries there are
unfoldable pub index_of : ℕ → List Entry → ℕ
index_of p [] = 0
index_of p (e ∷ es) = if e.page == p then 0 else suc (index_of p es)

-- what slot i gives for page p: its frame, if its entry is counted, is of the page, and serves the access
unfoldable pub slot_hit : List ℕ → ℕ → ℕ → Access → Bool → Option ℕ
slot_hit l i p kind user =
    if nat_lt i (count l) && ((unpack (slice_index l i)).page == p && serves (unpack (slice_index l i)) kind user) then Some (unpack (slice_index l i)).frame else None

-- the array lent for a page buffer
pub record Buffer (l : List ℕ) : Type 0 where
  pub size : length l ≡ slots
  pub few : count l ≤ 64
