-- Document 02, item 6: the events of one walk: it began, and set marks. It is one walk, whether it ends in a fault or not, and keeping its entry is none.
use Rattle.std.proofs.Common.{if◌then◌else◌}
use Prim.Native.Nat.{ℕ, suc}
use mathlib.Core.Path.{◌≡◌, refl, ap}
use mathlib.Core.Bool.{Bool, true, false, not, ◌&&◌, ◌||◌}
use mathlib.Core.List.{List, [], ◌∷◌, ◌++◌}
use native.Mathlib.Omega.{arith}
use lib.ListN.{length}
use lib.Dec.{ltb}
use Rattle.word.specs.Word.{cut}
use Rattle.memory.specs.Memory.{load_n}
use Rattle.paging.specs.declared.Access.{Access}
use Rattle.paging.specs.declared.Access.TheVariants.{Read}
use Rattle.paging.specs.declared.Entry.{Entry}
use Rattle.paging.specs.Event.{Event, walked, marked, Words}
use Rattle.paging.specs.Walk.{is_write, present, accessed, dirty, mark, mark_for, mark_events, dir_at, tab_at, allows, Found, fault, found, walk_frame, walk_table, walk_below, walk_dir, walk}
use Rattle.paging.specs.Buffer.{fits, keep_events, walk_events}
use Rattle.paging.specs.Counting.{walks_in}
use Rattle.paging.proofs.CountingLaws.{walks_append}

pub data Marks : List Event → Type 0 where
  no_mark : Marks []
  one_mark : {a : ℕ} {es : List Event} → Marks es → Marks (marked a ∷ es)

pub data SingleWalk : List Event → Type 0 where
  began : {es : List Event} → Marks es → SingleWalk (walked ∷ es)

mark_events_lem : (k : Access) (w a : ℕ) → Marks (mark_events k w a)
unfolding mark_events
mark_events_lem k w a = go (accessed w && (not (is_write k) || dirty w))
  where
    go : (b : Bool) → Marks (if b then [] else (marked a ∷ []))
    go true = no_mark
    go false = one_mark no_mark

marks_both : {es fs : List Event} → Marks es → Marks fs → Marks (es ++ fs)
marks_both no_mark n = n
marks_both (one_mark m) n = one_mark (marks_both m n)

walk_marks : {es fs : List Event} → SingleWalk es → Marks fs → SingleWalk (es ++ fs)
walk_marks (began m) n = began (marks_both m n)

-- the stages, from the last to the first
frame_single : (b : Bool) (es : List Event) (m : List ℕ) (dw tw da ta : ℕ) → SingleWalk es → SingleWalk (walk_frame b es m dw tw da ta).events
unfolding walk_frame
frame_single true es m dw tw da ta o = o
frame_single false es m dw tw da ta o = o

table_single : (b : Bool) (es : List Event) (m : List ℕ) (dw tw da ta : ℕ) (k : Access) (user : Bool) → SingleWalk es
    → SingleWalk (walk_table b es m dw tw da ta k user).events
unfolding walk_table
table_single true es m dw tw da ta k user o = frame_single (ltb (cut 4096 tw) (length m)) _ (mark_for k m ta) dw tw da ta (walk_marks o (mark_events_lem k tw ta))
table_single false es m dw tw da ta k user o = o

below_single : (b : Bool) (es : List Event) (m : List ℕ) (dw da page : ℕ) (k : Access) (user : Bool) → SingleWalk es
    → SingleWalk (walk_below b es m dw da page k user).events
unfolding walk_below
below_single true es m dw da page k user o =
    let ta = tab_at dw page in
    table_single (allows dw (load_n 4 m ta) k user) es m dw (load_n 4 m ta) da ta k user o
below_single false es m dw da page k user o = o

dir_single : (b : Bool) (m : List ℕ) (dw da page : ℕ) (k : Access) (user : Bool) → SingleWalk (walk_dir b m dw da page k user).events
unfolding walk_dir
dir_single true m dw da page k user = below_single (ltb (cut 4096 dw) (length m)) _ (mark 32 m da) dw da page k user (began (mark_events_lem Read dw da))
dir_single false m dw da page k user = began no_mark

pub walk_single : (m : List ℕ) (pdir page : ℕ) (k : Access) (user : Bool) → SingleWalk (walk m pdir page k user).events
unfolding walk
walk_single m pdir page k user =
    let da = dir_at pdir page in
    dir_single (present (load_n 4 m da)) m (load_n 4 m da) da page k user

-- ---- counted

marks_walks : {es : List Event} → Marks es → walks_in es ≡ 0
unfolding walks_in
marks_walks no_mark = refl
marks_walks (one_mark m) = marks_walks m

single_walks : {es : List Event} → SingleWalk es → walks_in es ≡ 1
unfolding walks_in
single_walks (began m) = ap suc (marks_walks m)

pub walk_walks : (m : List ℕ) (pdir page : ℕ) (k : Access) (user : Bool) → walks_in (walk m pdir page k user).events ≡ 1
walk_walks m pdir page k user = single_walks (walk_single m pdir page k user)

-- an entry kept is none
keep_walks : (room : Bool) (w : Words) → walks_in (keep_events room w) ≡ 0
unfolding keep_events walks_in
keep_walks true w = refl
keep_walks false w = refl

found_walks : (p : ℕ) (es : List Entry) (f : Found) → walks_in (walk_events p es f) ≡ 0
unfolding walk_events walks_in
found_walks p es (fault code cause) = refl
found_walks p es (found f u w da ta) = keep_walks (fits p es) _

-- both together
pub refill_walks : (m : List ℕ) (pdir page : ℕ) (k : Access) (user : Bool) (es : List Entry)
    → let w = walk m pdir page k user in walks_in (w.events ++ walk_events page es w.found) ≡ 1
refill_walks m pdir page k user es =
    let w = walk m pdir page k user in
    omega (arith, walks_append w.events (walk_events page es w.found), walk_walks m pdir page k user, found_walks page es w.found)
