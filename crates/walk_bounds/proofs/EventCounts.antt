-- Document 02, item 6: what the second bound counts, on short lists of events, and over events one after another.
use Rattle.std.proofs.Common.{if◌then◌else◌}
use Prim.Native.Nat.{ℕ, suc, ◌+◌, ◌≤◌}
use mathlib.Core.Path.{◌≡◌, refl}
use mathlib.Core.Bool.{Bool, true, false, not, cond, ◌||◌}
use mathlib.Core.List.{List, [], ◌∷◌, ◌++◌}
use native.Mathlib.Omega.{arith}
use lib.ListN.{length}
use lib.Dec.{eqb}
use Rattle.paging.specs.Event.{Event, walked, kept, emptied, marked, stored, delivered}
use Rattle.paging.specs.Buffer.{place}
use Rattle.walk_bounds.specs.Bounds.{entered, entries_kept, kept_before_walk, faulted_in, space_set}

-- ---- short lists

-- an entry of page p is kept
abbrev kept_of : ℕ → Event
kept_of p = kept (record { page = p; dir = 4096; tab = 8192 })

-- "different pages entered": a page that is read, then written, is one
entered_once : entered [] (walked ∷ kept_of 7 ∷ walked ∷ kept_of 8 ∷ walked ∷ kept_of 7 ∷ []) ≡ 7 ∷ 8 ∷ []
unfolding entered place
entered_once = refl

-- "the walks that ended in a fault": the first and the last of three
faulted_twice : faulted_in (walked ∷ walked ∷ marked 4096 ∷ kept_of 7 ∷ walked ∷ []) ≡ 2
unfolding faulted_in
faulted_twice = refl

-- none, where room was made for the entry
faulted_never : faulted_in (walked ∷ emptied ∷ kept_of 7 ∷ []) ≡ 0
unfolding faulted_in
faulted_never = refl

-- "without PDIR or SPAG": room made for an entry is none of them
room_made : space_set (walked ∷ emptied ∷ kept_of 7 ∷ stored 0 4 ∷ []) ≡ false
unfolding space_set
room_made = refl

-- a PDIR, and the walk of the step after it
directory_set : space_set (walked ∷ kept_of 7 ∷ emptied ∷ walked ∷ kept_of 7 ∷ []) ≡ true
unfolding space_set
directory_set = refl

-- ---- entries kept

pub kept_append : (es fs : List Event) → entries_kept (es ++ fs) ≡ entries_kept es + entries_kept fs
unfolding entries_kept
kept_append [] fs = omega arith
kept_append (walked ∷ es) fs = kept_append es fs
kept_append (kept w ∷ es) fs = omega (arith, kept_append es fs)
kept_append (emptied ∷ es) fs = kept_append es fs
kept_append (marked a ∷ es) fs = kept_append es fs
kept_append (stored a n ∷ es) fs = kept_append es fs
kept_append (delivered c ∷ es) fs = kept_append es fs

-- ---- pages entered

-- pages with one more, unless it is among them
abbrev pub with_page : ℕ → List ℕ → List ℕ
with_page p ps = place (λ q. q) p ps

pub entered_append : (ps : List ℕ) (es fs : List Event) → entered ps (es ++ fs) ≡ entered (entered ps es) fs
unfolding entered
entered_append ps [] fs = refl
entered_append ps (walked ∷ es) fs = entered_append ps es fs
entered_append ps (kept w ∷ es) fs = entered_append (with_page w.page ps) es fs
entered_append ps (emptied ∷ es) fs = entered_append ps es fs
entered_append ps (marked a ∷ es) fs = entered_append ps es fs
entered_append ps (stored a n ∷ es) fs = entered_append ps es fs
entered_append ps (delivered c ∷ es) fs = entered_append ps es fs

placed_more : (p : ℕ) (ps : List ℕ) → length ps ≤ length (with_page p ps)
unfolding place
placed_more p [] = omega arith
placed_more p (q ∷ ps) = go (eqb q p) (placed_more p ps)
  where
    go : (b : Bool) → length ps ≤ length (with_page p ps) → suc (length ps) ≤ length (cond b (p ∷ ps) (q ∷ with_page p ps))
    go true h = omega arith
    go false h = omega arith

-- they never become fewer
pub entered_more : (ps : List ℕ) (es : List Event) → length ps ≤ length (entered ps es)
unfolding entered
entered_more ps [] = omega arith
entered_more ps (walked ∷ es) = entered_more ps es
entered_more ps (kept w ∷ es) = omega (arith, placed_more w.page ps, entered_more (with_page w.page ps) es)
entered_more ps (emptied ∷ es) = entered_more ps es
entered_more ps (marked a ∷ es) = entered_more ps es
entered_more ps (stored a n ∷ es) = entered_more ps es
entered_more ps (delivered c ∷ es) = entered_more ps es

-- where no entry is kept, none is entered
pub entered_none : (ps : List ℕ) (es : List Event) → entries_kept es ≡ 0 → entered ps es ≡ ps
unfolding entered entries_kept
entered_none ps [] h = refl
entered_none ps (walked ∷ es) h = entered_none ps es h
entered_none ps (kept w ∷ es) h = absurd (omega arith)
entered_none ps (emptied ∷ es) h = entered_none ps es h
entered_none ps (marked a ∷ es) h = entered_none ps es h
entered_none ps (stored a n ∷ es) h = entered_none ps es h
entered_none ps (delivered c ∷ es) h = entered_none ps es h

-- ---- faults, and the address space: of events fs that keep no entry of a walk before them

module _ (fs : List Event) (n : kept_before_walk fs ≡ false) where
  pub before_append : (es : List Event) → kept_before_walk (es ++ fs) ≡ kept_before_walk es
  unfolding kept_before_walk
  before_append [] = n
  before_append (walked ∷ es) = refl
  before_append (kept w ∷ es) = refl
  before_append (emptied ∷ es) = before_append es
  before_append (marked a ∷ es) = before_append es
  before_append (stored a b ∷ es) = before_append es
  before_append (delivered c ∷ es) = before_append es

  pub faults_append : (es : List Event) → faulted_in (es ++ fs) ≡ faulted_in es + faulted_in fs
  unfolding faulted_in
  faults_append [] = omega arith
  faults_append (walked ∷ es) = rw (before_append es) (go (kept_before_walk es) (faults_append es))
    where
      go : (b : Bool) → faulted_in (es ++ fs) ≡ faulted_in es + faulted_in fs
          → (if b then faulted_in (es ++ fs) else suc (faulted_in (es ++ fs))) ≡ (if b then faulted_in es else suc (faulted_in es)) + faulted_in fs
      go true h = h
      go false h = omega arith
  faults_append (kept w ∷ es) = faults_append es
  faults_append (emptied ∷ es) = faults_append es
  faults_append (marked a ∷ es) = faults_append es
  faults_append (stored a b ∷ es) = faults_append es
  faults_append (delivered c ∷ es) = faults_append es

  pub space_append : (es : List Event) → space_set (es ++ fs) ≡ space_set es || space_set fs
  unfolding space_set
  space_append [] = refl
  space_append (walked ∷ es) = space_append es
  space_append (kept w ∷ es) = space_append es
  space_append (emptied ∷ es) = rw (before_append es, space_append es) (go (kept_before_walk es))
    where
      go : (b : Bool) → not b || (space_set es || space_set fs) ≡ (not b || space_set es) || space_set fs
      go true = refl
      go false = refl
  space_append (marked a ∷ es) = space_append es
  space_append (stored a b ∷ es) = space_append es
  space_append (delivered c ∷ es) = space_append es
