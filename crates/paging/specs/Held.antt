-- Document 01, "The table reader": what is held (document 01's term), and demand 3's kind of store, both from the events.
use Rattle.std.specs.Prelude.{ℕ, ◌+◌, Bool, false, ◌&&◌, ◌||◌, List, [], ◌∷◌, ltb}
use Rattle.paging.specs.Event.{Event, walked, kept, emptied, marked, stored, delivered, Words}
use Rattle.paging.specs.Buffer.{place, words_page}

-- "an entry is held from the walk that kept it until it is replaced or the buffer is emptied"
unfoldable pub held_after : List Words → List Event → List Words
held_after hs [] = hs
held_after hs (walked ∷ es) = held_after hs es
held_after hs (kept w ∷ es) = held_after (place words_page w hs) es
held_after hs (emptied ∷ es) = held_after [] es
held_after hs (marked a ∷ es) = held_after hs es
held_after hs (stored a n ∷ es) = held_after hs es
held_after hs (delivered c ∷ es) = held_after hs es

-- a store of n bytes at a "writes any byte of a word", the one at w, "even with the same value": the event says where, not what
unfoldable pub touches : ℕ → ℕ → ℕ → Bool
touches a n w = ltb a (w + 4) && ltb w (a + n)

-- "Its words are the directory word and the table word that this walk read"
unfoldable pub touches_held : ℕ → ℕ → List Words → Bool
touches_held a n [] = false
touches_held a n (h ∷ hs) = touches a n h.dir || touches a n h.tab || touches_held a n hs

-- a store of demand 3's kind is among the events: into a word of an entry held at that moment
unfoldable pub stores_held : List Words → List Event → Bool
stores_held hs [] = false
stores_held hs (walked ∷ es) = stores_held hs es
stores_held hs (kept w ∷ es) = stores_held (place words_page w hs) es
stores_held hs (emptied ∷ es) = stores_held [] es
stores_held hs (marked a ∷ es) = stores_held hs es
stores_held hs (stored a n ∷ es) = touches_held a n hs || stores_held hs es
stores_held hs (delivered c ∷ es) = stores_held hs es
