-- Document 02, item 6: the page buffer accounts for what was entered. As long as at most 64 different pages were, its pages are those, in their order, and its
-- weight is at least the number of entries kept. A request keeps this.
use Prim.Native.Nat.{ℕ, suc, ◌≤◌, ◌<◌}
use mathlib.Core.Path.{◌≡◌, refl, sym, ap, ◌∙◌}
use mathlib.Core.Bool.{Bool, true, false, cond, ◌||◌}
use mathlib.Core.List.{List, [], ◌∷◌, ◌++◌, map}
use mathlib.Core.Option.{Option, none, some}
use native.Mathlib.Omega.{arith}
use lib.ListN.{length}
use lib.Dec.{eqb, ltb}
use borrow.Author.Tests.{lt-ltb}
use Rattle.word.proofs.BoolLaws.{neither}
use Rattle.paging.specs.declared.Entry.{Entry}
use Rattle.paging.specs.declared.Space.{Space}
use Rattle.paging.specs.Event.{Event, Words}
use Rattle.paging.specs.Walk.{Found, fault, found, Walked, walk}
use Rattle.paging.specs.Buffer.{hit, has, place, entry_page, capacity, fits, room_in, keep, keep_events, after_walk, walk_events}
use Rattle.paging.specs.Translate.{Request, page_of, refilled, paged_by, paged, translate_by, buffered}
use Rattle.paging.proofs.Coherent.{Coherent}
use Rattle.walk_bounds.specs.Bounds.{entered, entries_kept}
use Rattle.walk_bounds.proofs.EventCounts.{with_page, kept_append, entered_append, entered_none}
use Rattle.walk_bounds.proofs.WalkEvents.{WalkCounts, walk_counts}
use Rattle.walk_bounds.proofs.Weight.{weight, weight_placed}

-- the pages of entries
abbrev pub pages_of : List Entry → List ℕ
pages_of es = map entry_page es

pub record Accounted (evs : List Event) (es : List Entry) : Type 0 where
  pub pages : pages_of es ≡ entered [] evs
  pub covers : entries_kept evs ≤ weight es

-- events that keep no entry
pub accounted_none : {evs : List Event} {es : List Entry} (fs : List Event) → entries_kept fs ≡ 0 → Accounted evs es → Accounted (evs ++ fs) es
accounted_none {evs} fs n a = record {
  pages = a.pages ∙ sym (entered_append [] evs fs ∙ entered_none (entered [] evs) fs n);
  covers = omega (arith, kept_append evs fs, a.covers);
}

-- ---- one page more

pages_placed : (e : Entry) (es : List Entry) → pages_of (place entry_page e es) ≡ with_page e.page (pages_of es)
unfolding place
pages_placed e [] = refl
pages_placed e (x ∷ xs) = go (eqb x.page e.page) (pages_placed e xs)
  where
    go : (b : Bool) → pages_of (place entry_page e xs) ≡ with_page e.page (pages_of xs)
        → pages_of (cond b (e ∷ xs) (x ∷ place entry_page e xs)) ≡ cond b (e.page ∷ pages_of xs) (x.page ∷ with_page e.page (pages_of xs))
    go true h = refl
    go false h = ap (λ (ps : List ℕ). x.page ∷ ps) h

-- a new page adds to their number
new_page : (p : ℕ) (es : List Entry) → has entry_page p es ≡ false → length (with_page p (pages_of es)) ≡ suc (length es)
unfolding has place
new_page p [] h = refl
new_page p (x ∷ xs) h =
    let n = neither (eqb x.page p) (has entry_page p xs) h in
    rw n.0 (ap suc (new_page p xs n.1))

-- so where at most 64 are entered, the buffer is not emptied
fits_few : (p : ℕ) (es : List Entry) → length (with_page p (pages_of es)) ≤ capacity → fits p es ≡ true
unfolding fits
fits_few p es h = go (has entry_page p es) refl
  where
    go : (b : Bool) → has entry_page p es ≡ b → b || ltb (length es) capacity ≡ true
    go true q = refl
    go false q = lt-ltb (length es) capacity (omega (arith, new_page p es q))

-- an entry is kept, with room made for it or not
keep_entered : (ps : List ℕ) (room : Bool) (h : Words) → entered ps (keep_events room h) ≡ with_page h.page ps
unfolding entered keep_events
keep_entered ps true h = refl
keep_entered ps false h = refl

keep_kept : (room : Bool) (h : Words) → entries_kept (keep_events room h) ≡ 1
unfolding entries_kept keep_events
keep_kept true h = refl
keep_kept false h = refl

-- ---- a request

module _ (evs : List Event) (es : List Entry) (a : Accounted evs es) where
  -- events and the buffer after them
  abbrev Keeps : List Event → List Entry → Type 0
  Keeps fs es' = length (entered [] (evs ++ fs)) ≤ capacity → Accounted (evs ++ fs) es'

  module _ (e : Entry) (h : Words) {fs : List Event} (g : h.page ≡ e.page) (c : WalkCounts fs (keep_events (fits e.page es) h)) where
    abbrev room : Bool
    room = fits e.page es

    entered_kept : entered [] (evs ++ fs) ≡ with_page e.page (pages_of es)
    entered_kept = entered_append [] evs fs ∙ c.pages (entered [] evs) ∙ keep_entered (entered [] evs) room h ∙ rw (g, a.pages)

    -- a walk that found an entry
    kept_accounted : weight es < weight (place entry_page e es) → Keeps fs (keep e es)
    unfolding keep room_in
    kept_accounted l few =
        let fit : room ≡ true = fits_few e.page es (rw entered_kept at few) in
        record {
          pages = rw fit (pages_placed e es ∙ sym entered_kept);
          covers = rw fit (omega (arith, kept_append evs fs, c.kept, keep_kept room h, l, a.covers));
        }

  module _ (s : Space) (q : Request) (m : List ℕ) {hs : List Words} (c : Coherent m s.pdir es hs) where
    abbrev w : Walked
    w = walk m s.pdir (page_of q) q.kind q.user

    walk_accounted : hit (page_of q) q.kind q.user es ≡ none → (o : Found) → w.found ≡ o
        → Keeps (w.events ++ walk_events (page_of q) es o) (after_walk (page_of q) es o)
    unfolding walk_events after_walk entries_kept
    walk_accounted n (fault code cause) e few = accounted_none _ (walk_counts m s.pdir (page_of q) q.kind q.user []).kept a
    walk_accounted n (found f u r da ta) e few =
        kept_accounted _ _ refl (walk_counts m s.pdir (page_of q) q.kind q.user _)
        (weight_placed m s.pdir (page_of q) q.kind q.user f u r da ta c n e) few

    paged_accounted : (h : Option ℕ) → hit (page_of q) q.kind q.user es ≡ h → Keeps (paged_by h s.pdir q m es).events (paged_by h s.pdir q m es).buffer
    unfolding paged_by refilled entries_kept
    paged_accounted none e few = walk_accounted e w.found refl few
    paged_accounted (some f) e few = accounted_none [] refl a

    by_accounted : (on : Bool) → Keeps (translate_by on s.pdir q m es).events (translate_by on s.pdir q m es).buffer
    unfolding translate_by paged entries_kept
    by_accounted true few = paged_accounted (hit (page_of q) q.kind q.user es) refl few
    by_accounted false few = accounted_none [] refl a

    pub request_accounted : Keeps (buffered.translate s q m es).events (buffered.translate s q m es).buffer
    request_accounted = by_accounted s.paging
