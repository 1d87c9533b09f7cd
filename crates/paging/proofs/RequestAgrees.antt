-- Document 01, "Addresses" and "The table reader": from a coherent buffer, one request has the same answer and leaves the same memory in the
-- machine with the page buffer and in the table reader, and the buffer is coherent afterwards.
use Prim.Native.Nat.{ℕ}
use mathlib.Core.Path.{◌≡◌, refl, sym}
use mathlib.Core.Bool.{Bool, true, false, cond, ◌&&◌, true≢false, false≢true}
use mathlib.Core.List.{List, ◌∷◌, ◌++◌}
use mathlib.Core.Option.{Option, none, some}
use lib.Dec.{eqb}
use borrow.Author.Tests.{eqb-true}
use Rattle.paging.specs.declared.Access.{Access}
use Rattle.paging.specs.declared.Entry.{Entry}
use Rattle.paging.specs.declared.Space.{Space}
use Rattle.paging.specs.Event.{Event, Words}
use Rattle.paging.specs.Walk.{Found, fault, found, Walked, walk}
use Rattle.paging.specs.Buffer.{serves, hit, place, entry_page, words_page, fits, room_in, keep_events, keep, after_walk, walk_events}
use Rattle.paging.specs.Held.{held_after, stores_held}
use Rattle.paging.specs.Translate.{Request, Outcome, outcome, page_of, refilled, paged_by, paged, translate_by, buffered, walked_by, read_by, reader}
use Rattle.word.proofs.BoolLaws.{both}
use Rattle.paging.proofs.Coherent.{CoherentEntry, Coherent, none_held, one_more, coherent_marked}
use Rattle.paging.proofs.ServedRequest.{WalkGives, served_walk}
use Rattle.paging.proofs.EventLaws.{held_append, stores_append, keep_stores}
use Rattle.paging.proofs.CoherentWalk.{FoundCoherent, walk_keeps}
use Rattle.paging.proofs.ValidBuffer.{Valid, Keeps, keeps_both, request_keeps}

-- what holds before each request: besides, the buffer is coherent
pub record Sound (s : Space) (m : List ℕ) (es : List Entry) (hs : List Words) : Type 0 where
  pub valid : Valid s m es
  pub coherent : Coherent m s.pdir es hs

-- what requests come to in the two machines: the same answer and memory; the size of memory is kept, refusal 3 does not come of them, they store
-- nothing, and the buffer is coherent with what is held then
pub record RequestAgrees {A : Type 0} (s : Space) (m : List ℕ) (hs : List Words) (b : Outcome (List Entry) A) (t : Outcome (Unit {0}) A) : Type 0 where
  pub answer : b.answer ≡ t.answer
  pub mem : b.mem ≡ t.mem
  pub keeps : Keeps s m b.mem b.buffer
  pub stores : stores_held hs b.events ≡ false
  pub coherent : Coherent b.mem s.pdir b.buffer (held_after hs b.events)

-- another request may follow
pub sound_after : {A : Type 0} {s : Space} {m : List ℕ} {hs : List Words} {b : Outcome (List Entry) A} {t : Outcome (Unit {0}) A}
    → RequestAgrees s m hs b t → Sound s b.mem b.buffer (held_after hs b.events)
sound_after g = record { valid = g.keeps.valid; coherent = g.coherent }

-- ---- an entry serves

-- where an entry serves, the walk gives its frame
abbrev HitGives : List ℕ → ℕ → ℕ → Access → Bool → Option ℕ → Type 0
HitGives m pdir p k user none = Unit
HitGives m pdir p k user (some f) = WalkGives m f (walk m pdir p k user)

hit_gives : {m : List ℕ} {pdir : ℕ} {es : List Entry} {hs : List Words} (p : ℕ) (k : Access) (user : Bool) → Coherent m pdir es hs
    → HitGives m pdir p k user (hit p k user es)
unfolding hit
hit_gives p k user none_held = tt
hit_gives {m} {pdir} p k user (one_more {e = e} {h = h} {es = es} c cs) = go (eqb e.page p && serves e k user) refl (hit_gives p k user cs)
  where
    go : (b : Bool) → eqb e.page p && serves e k user ≡ b → HitGives m pdir p k user (hit p k user es)
        → HitGives m pdir p k user (cond b (some e.frame) (hit p k user es))
    go false t r = r
    go true t r =
        let q = both (eqb e.page p) (serves e k user) t in
        rw (← eqb-true e.page p q.0) (served_walk e h k user c q.1)

-- ---- an entry is kept

-- an entry and its words stand at the same place of both lists
place_coherent : {m : List ℕ} {pdir : ℕ} {es : List Entry} {hs : List Words} (e : Entry) (h : Words) → CoherentEntry m pdir e h → Coherent m pdir es hs
    → Coherent m pdir (place entry_page e es) (place words_page h hs)
unfolding place
place_coherent e h c none_held = one_more c none_held
place_coherent {m} {pdir} e h c (one_more {e = x} {h = y} {es = es} {hs = hs} d ds) =
    go (eqb x.page e.page) (eqb y.page h.page) (rw (d.page_is, c.page_is)) (place_coherent e h c ds)
  where
    go : (a b : Bool) → a ≡ b → Coherent m pdir (place entry_page e es) (place words_page h hs)
        → Coherent m pdir (cond a (e ∷ es) (x ∷ place entry_page e es)) (cond b (h ∷ hs) (y ∷ place words_page h hs))
    go true true q r = one_more c ds
    go true false q r = absurd (true≢false q)
    go false true q r = absurd (false≢true q)
    go false false q r = one_more d r

-- room is made in both
keep_coherent : {m : List ℕ} {pdir : ℕ} {es : List Entry} {hs : List Words} (room : Bool) (e : Entry) (h : Words) → CoherentEntry m pdir e h
    → Coherent m pdir es hs → Coherent m pdir (place entry_page e (room_in room es)) (held_after hs (keep_events room h))
unfolding room_in keep_events held_after
keep_coherent true e h c cs = place_coherent e h c cs
keep_coherent false e h c cs = place_coherent e h c none_held

-- ---- a walk

-- the buffer after a walk
after_coherent : {n : List ℕ} {pdir : ℕ} {es : List Entry} {hs : List Words} (p : ℕ) (o : Found) → FoundCoherent pdir p n o → Coherent n pdir es hs
    → Coherent n pdir (after_walk p es o) (held_after hs (walk_events p es o))
unfolding after_walk walk_events
after_coherent p (fault code cause) ok cs = unfold held_after in cs
after_coherent {es = es} p (found f u w da ta) ok cs = unfold keep in keep_coherent (fits p es) _ _ ok cs

-- keeping what a walk found is no store
after_stores : (hs : List Words) (p : ℕ) (es : List Entry) (o : Found) → stores_held hs (walk_events p es o) ≡ false
unfolding walk_events
after_stores hs p es (fault code cause) = unfold stores_held in refl
after_stores hs p es (found f u w da ta) = keep_stores hs (fits p es) (record { page = p; dir = da; tab = ta })

-- ---- the request

module _ (s : Space) (q : Request) (m : List ℕ) (es : List Entry) (hs : List Words) (o : Sound s m es hs) where
  -- the walk that the table reader makes
  abbrev w : Walked
  w = walk m s.pdir (page_of q) q.kind q.user

  -- "Paging on, no usable entry"
  walk_agrees : Keeps s m (refilled q es w).mem (refilled q es w).buffer → RequestAgrees s m hs (refilled q es w) (walked_by q w)
  unfolding refilled walked_by
  walk_agrees v =
      let k = walk_keeps m s.pdir (page_of q) q.kind q.user o.valid.aligned in
      let es' = walk_events (page_of q) es w.found in
      record {
        answer = refl;
        mem = refl;
        keeps = v;
        stores = rw (stores_append hs w.events es', k.only.stores hs, k.only.held hs) (after_stores hs (page_of q) es w.found);
        coherent = rw (held_append hs w.events es', k.only.held hs) (after_coherent (page_of q) w.found k.coherent (coherent_marked k.marks o.coherent));
      }

  -- paging on
  paged_agrees : (f : Option ℕ) → HitGives m s.pdir (page_of q) q.kind q.user f → Keeps s m (paged_by f s.pdir q m es).mem (paged_by f s.pdir q m es).buffer
      → RequestAgrees s m hs (paged_by f s.pdir q m es) (walked_by q w)
  unfolding paged_by walked_by held_after stores_held
  paged_agrees none g v = walk_agrees v
  paged_agrees (some f) g v = record { answer = sym (g.answer q); mem = sym g.mem; keeps = v; stores = refl; coherent = o.coherent }

  -- paging on or off
  by_paging : (on : Bool) → Keeps s m (translate_by on s.pdir q m es).mem (translate_by on s.pdir q m es).buffer
      → RequestAgrees s m hs (translate_by on s.pdir q m es) (read_by on s.pdir q m)
  unfolding translate_by paged read_by held_after stores_held
  by_paging true v = paged_agrees (hit (page_of q) q.kind q.user es) (hit_gives (page_of q) q.kind q.user o.coherent) v
  by_paging false v = record { answer = refl; mem = refl; keeps = v; stores = refl; coherent = o.coherent }

  -- one request in the two machines
  pub request_agrees : RequestAgrees s m hs (buffered.translate s q m es) (reader.translate s q m tt)
  request_agrees = by_paging s.paging (request_keeps s q m es o.valid)

-- "PDIR and SPAG, unless they fault, empty the buffer": then it is coherent with any directory
pub emptied_coherent : (m : List ℕ) (pdir : ℕ) (es : List Entry) (hs : List Words) → Coherent m pdir (buffered.empty es) (held_after hs buffered.empty_events)
unfolding held_after
emptied_coherent m pdir es hs = none_held

-- what a rule makes of the answer
pub agrees_as : {A C : Type 0} {s : Space} {m : List ℕ} {hs : List Words} {b : Outcome (List Entry) A} {t : Outcome (Unit {0}) A} {x y : C}
    → RequestAgrees s m hs b t → x ≡ y
    → RequestAgrees s m hs (outcome x b.mem b.buffer b.events) (outcome y t.mem t.buffer t.events)
agrees_as g e = record { answer = e; mem = g.mem; keeps = g.keeps; stores = g.stores; coherent = g.coherent }

-- one request after another
pub agrees_then : {A C D : Type 0} {s : Space} {m : List ℕ} {hs : List Words} {b : Outcome (List Entry) A} {t : Outcome (Unit {0}) A}
    {b' : Outcome (List Entry) C} {t' : Outcome (Unit {0}) C} {x y : D} {fs : List Event}
    → RequestAgrees s m hs b t → RequestAgrees s b.mem (held_after hs b.events) b' t' → x ≡ y
    → RequestAgrees s m hs (outcome x b'.mem b'.buffer (b.events ++ b'.events)) (outcome y t'.mem t'.buffer fs)
agrees_then {hs = hs} {b = b} {b' = b'} g h e = record {
  answer = e;
  mem = h.mem;
  keeps = keeps_both g.keeps h.keeps;
  stores = rw (stores_append hs b.events b'.events, g.stores) h.stores;
  coherent = rw (held_append hs b.events b'.events) h.coherent;
}
