-- Document 02, item 6: the two bounds on table walks, the statements.
use Rattle.std.specs.Prelude.{ℕ, suc, ◌+◌, ◌*◌, ◌≤◌, ◌≡◌, Bool, true, false, not, ◌||◌, List, [], ◌∷◌, length, if◌then◌else◌}
use Rattle.paging.specs.declared.Entry.{Entry}
use Rattle.paging.specs.Event.{Event, walked, kept, emptied, marked, stored, delivered}
use Rattle.paging.specs.Buffer.{place}
use Rattle.paging.specs.Held.{stores_held}
use Rattle.paging.specs.Translate.{Translator, buffered}
use Rattle.paging.specs.Counting.{walks_in}
use Rattle.rules.specs.declared.Key.{Key}
use Rattle.rules.specs.Step.{State, step}
use Rattle.rules.specs.Run.{run}
use Rattle.rules.specs.Walks.{events_of, walks_of}

-- "never more than five in a step", of a machine by its translator
abbrev pub AtMostFive : {B : Type 0} → Translator B → Type 0
AtMostFive {B} tr = (ks : List Key) (s : State B) → walks_in (step tr ks s).events ≤ 5

-- ---- what the second bound counts

-- "pages entered": the different pages for which an entry was kept, in order, after those of ps
unfoldable pub entered : List ℕ → List Event → List ℕ
entered ps [] = ps
entered ps (walked ∷ es) = entered ps es
entered ps (kept w ∷ es) = entered (place (λ p. p) w.page ps) es
entered ps (emptied ∷ es) = entered ps es
entered ps (marked a ∷ es) = entered ps es
entered ps (stored a n ∷ es) = entered ps es
entered ps (delivered c ∷ es) = entered ps es

-- the entries kept, of one page also twice
unfoldable pub entries_kept : List Event → ℕ
entries_kept [] = 0
entries_kept (walked ∷ es) = entries_kept es
entries_kept (kept w ∷ es) = suc (entries_kept es)
entries_kept (emptied ∷ es) = entries_kept es
entries_kept (marked a ∷ es) = entries_kept es
entries_kept (stored a n ∷ es) = entries_kept es
entries_kept (delivered c ∷ es) = entries_kept es

-- an entry is kept before another walk begins
unfoldable pub kept_before_walk : List Event → Bool
kept_before_walk [] = false
kept_before_walk (walked ∷ es) = false
kept_before_walk (kept w ∷ es) = true
kept_before_walk (emptied ∷ es) = kept_before_walk es
kept_before_walk (marked a ∷ es) = kept_before_walk es
kept_before_walk (stored a n ∷ es) = kept_before_walk es
kept_before_walk (delivered c ∷ es) = kept_before_walk es

-- "the walks that ended in a fault": those of which no entry was kept
unfoldable pub faulted_in : List Event → ℕ
unfolding kept_before_walk
faulted_in [] = 0
faulted_in (walked ∷ es) = if kept_before_walk es then faulted_in es else suc (faulted_in es)
faulted_in (kept w ∷ es) = faulted_in es
faulted_in (emptied ∷ es) = faulted_in es
faulted_in (marked a ∷ es) = faulted_in es
faulted_in (stored a n ∷ es) = faulted_in es
faulted_in (delivered c ∷ es) = faulted_in es

-- a PDIR or SPAG took effect: the buffer was emptied, and not to keep an entry, as it is for a page when 64 are held
unfoldable pub space_set : List Event → Bool
unfolding kept_before_walk
space_set [] = false
space_set (walked ∷ es) = space_set es
space_set (kept w ∷ es) = space_set es
space_set (emptied ∷ es) = not (kept_before_walk es) || space_set es
space_set (marked a ∷ es) = space_set es
space_set (stored a n ∷ es) = space_set es
space_set (delivered c ∷ es) = space_set es

-- ---- the second bound

-- the events of a run of the machine with the page buffer
abbrev pub run_events : List Key → ℕ → State (List Entry) → List Event
run_events ks budget s = events_of (run buffered ks budget s).steps

-- "from an empty buffer, in a run without PDIR or SPAG, without a store of the kind demand 3 names, and with at most 64 different pages entered, never more than
-- twice the pages entered plus the walks that ended in a fault"
abbrev pub AtMostTwice : Type 0
AtMostTwice = (ks : List Key) (budget : ℕ) (s : State (List Entry)) → s.buffer ≡ [] → space_set (run_events ks budget s) ≡ false
    → stores_held [] (run_events ks budget s) ≡ false → length (entered [] (run_events ks budget s)) ≤ 64
    → walks_of (run buffered ks budget s) ≤ 2 * length (entered [] (run_events ks budget s)) + faulted_in (run_events ks budget s)
