-- Document 01, "The table reader": what is held, and demand 3's kind of store, over events one after another.
use Rattle.std.proofs.Common.{if◌then◌else◌}
use Prim.Native.Nat.{ℕ}
use mathlib.Core.Path.{◌≡◌, refl, ◌∙◌}
use mathlib.Core.Bool.{Bool, true, false, not, ◌&&◌, ◌||◌}
use mathlib.Core.List.{List, [], ◌∷◌, ◌++◌}
use Rattle.paging.specs.declared.Access.{Access}
use Rattle.paging.specs.Event.{Event, walked, kept, emptied, marked, stored, delivered, Words}
use Rattle.paging.specs.Walk.{is_write, accessed, dirty, mark_events}
use Rattle.paging.specs.Buffer.{place, words_page, keep_events}
use Rattle.paging.specs.Held.{held_after, touches_held, stores_held}

-- what is held after two lists of events
pub held_append : (hs : List Words) (es fs : List Event) → held_after hs (es ++ fs) ≡ held_after (held_after hs es) fs
unfolding held_after
held_append hs [] fs = refl
held_append hs (walked ∷ es) fs = held_append hs es fs
held_append hs (kept w ∷ es) fs = held_append (place words_page w hs) es fs
held_append hs (emptied ∷ es) fs = held_append [] es fs
held_append hs (marked a ∷ es) fs = held_append hs es fs
held_append hs (stored a n ∷ es) fs = held_append hs es fs
held_append hs (delivered c ∷ es) fs = held_append hs es fs

-- a store of demand 3's kind among two lists of events
pub stores_append : (hs : List Words) (es fs : List Event) → stores_held hs (es ++ fs) ≡ stores_held hs es || stores_held (held_after hs es) fs
unfolding held_after stores_held
stores_append hs [] fs = refl
stores_append hs (walked ∷ es) fs = stores_append hs es fs
stores_append hs (kept w ∷ es) fs = stores_append (place words_page w hs) es fs
stores_append hs (emptied ∷ es) fs = stores_append [] es fs
stores_append hs (marked a ∷ es) fs = stores_append hs es fs
stores_append hs (stored a n ∷ es) fs =
    rw (stores_append hs es fs) (go (touches_held a n hs))
  where
    go : (b : Bool) → b || (stores_held hs es || stores_held (held_after hs es) fs) ≡ (b || stores_held hs es) || stores_held (held_after hs es) fs
    go true = refl
    go false = refl
stores_append hs (delivered c ∷ es) fs = stores_append hs es fs

-- ---- the events of a walk alone: they neither hold nor store

pub record WalkOnly (es : List Event) : Type 0 where
  pub held : (hs : List Words) → held_after hs es ≡ hs
  pub stores : (hs : List Words) → stores_held hs es ≡ false

-- no events at all
pub no_events : WalkOnly []
unfolding held_after stores_held
no_events = record { held = λ hs. refl; stores = λ hs. refl }

-- one more walk
pub walk_began : {es : List Event} → WalkOnly es → WalkOnly (walked ∷ es)
unfolding held_after stores_held
walk_began o = record { held = o.held; stores = o.stores }

-- one list after another
pub walk_both : {es fs : List Event} → WalkOnly es → WalkOnly fs → WalkOnly (es ++ fs)
walk_both {es} {fs} o p = record {
  held = λ hs. held_append hs es fs ∙ rw (o.held hs) (p.held hs);
  stores = λ hs. stores_append hs es fs ∙ rw (o.stores hs, o.held hs) (p.stores hs);
}

-- a walk's marks are no stores, whatever they change
pub marks_only : (k : Access) (w a : ℕ) → WalkOnly (mark_events k w a)
unfolding mark_events held_after stores_held
marks_only k w a = go (accessed w && (not (is_write k) || dirty w))
  where
    go : (b : Bool) → WalkOnly (if b then [] else (marked a ∷ []))
    go true = no_events
    go false = record { held = λ hs. refl; stores = λ hs. refl }

-- an entry kept is no store
pub keep_stores : (hs : List Words) (room : Bool) (w : Words) → stores_held hs (keep_events room w) ≡ false
unfolding keep_events stores_held
keep_stores hs true w = refl
keep_stores hs false w = refl
