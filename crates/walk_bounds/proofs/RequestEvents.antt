-- Document 02, item 6: the events of one request of the machine with the page buffer. It makes no walk, or one, which ends in a fault exactly where the access is
-- denied with paging on, and otherwise keeps one entry.
use Rattle.std.proofs.Common.{if◌then◌else◌, Ok, Err}
use Prim.Native.Nat.{ℕ, suc, ◌+◌}
use mathlib.Core.Path.{◌≡◌, refl, ◌∙◌}
use mathlib.Core.Bool.{Bool, true, false}
use mathlib.Core.List.{List, [], ◌++◌}
use mathlib.Core.Option.{Option, none, some}
use native.Mathlib.Omega.{arith}
use Rattle.paging.specs.Answer.{Answer}
use Rattle.paging.specs.declared.Entry.{Entry}
use Rattle.paging.specs.declared.Space.{Space}
use Rattle.paging.specs.Event.{Event, Words}
use Rattle.paging.specs.Walk.{Found, fault, found, Walked, walk}
use Rattle.paging.specs.Buffer.{hit, fits, keep_events, walk_events}
use Rattle.paging.specs.Counting.{walks_in}
use Rattle.paging.specs.Translate.{Request, page_of, answer_of, refilled, paged_by, paged, translate_by, buffered}
use Rattle.walk_bounds.specs.Bounds.{entries_kept, kept_before_walk, faulted_in, space_set}
use Rattle.walk_bounds.proofs.WalkEvents.{WalkCounts, walk_counts}
use Rattle.walk_bounds.proofs.Balanced.{Accesses, accesses_none}

-- an answer that is a fault counts as one
abbrev pub denials : Answer → ℕ
denials (Ok p) = 0
denials (Err f) = 1

-- what holds of the events es of a request, with paging on or off, and its answer
record RequestCounts (paging : Bool) (a : Answer) (es : List Event) : Type 0 where
  accesses : Accesses es
  faults : faulted_in es ≡ (if paging then denials a else 0)

-- a walk whose end is fs: an entry kept, or a fault
ended : {es : List Event} (a : Answer) (fs : List Event) → WalkCounts es fs → walks_in fs ≡ 0 → space_set fs ≡ false → entries_kept fs + denials a ≡ 1
    → (if kept_before_walk fs then faulted_in fs else suc (faulted_in fs)) ≡ denials a → RequestCounts true a es
ended a fs c w u k f =
    let faults = c.faults ∙ f in
    record {
      accesses = record { balanced = record { closed = c.closed; walks = omega (arith, c.walks, c.kept, w, k, faults) }; unset = c.space ∙ u };
      faults = faults;
    }

keep_ended : {es : List Event} (p : ℕ) (room : Bool) (w : Words) → WalkCounts es (keep_events room w) → RequestCounts true (Ok p) es
unfolding walks_in space_set entries_kept faulted_in keep_events
keep_ended p true w c = ended (Ok p) _ c refl refl refl refl
keep_ended p false w c = ended (Ok p) _ c refl refl refl refl

module _ (s : Space) (q : Request) (m : List ℕ) (es : List Entry) where
  abbrev w : Walked
  w = walk m s.pdir (page_of q) q.kind q.user

  walk_ended : (o : Found) → RequestCounts true (answer_of q o) (w.events ++ walk_events (page_of q) es o)
  unfolding answer_of walk_events walks_in space_set entries_kept faulted_in
  walk_ended (fault code cause) = ended _ [] (walk_counts m s.pdir (page_of q) q.kind q.user []) refl refl refl refl
  walk_ended (found f u r da ta) = keep_ended _ (fits (page_of q) es) _ (walk_counts m s.pdir (page_of q) q.kind q.user _)

  paged_counts : (h : Option ℕ) → RequestCounts true (paged_by h s.pdir q m es).answer (paged_by h s.pdir q m es).events
  unfolding paged_by refilled faulted_in
  paged_counts none = walk_ended w.found
  paged_counts (some f) = record { accesses = accesses_none; faults = refl }

  by_counts : (on : Bool) → RequestCounts on (translate_by on s.pdir q m es).answer (translate_by on s.pdir q m es).events
  unfolding translate_by paged faulted_in
  by_counts true = paged_counts (hit (page_of q) q.kind q.user es)
  by_counts false = record { accesses = accesses_none; faults = refl }

  pub request_accesses : Accesses (buffered.translate s q m es).events
  request_accesses = (by_counts s.paging).accesses

  -- "the walks that ended in a fault": one where the access is denied with paging on, as then the walk it made found a fault; none on a hit, or with paging off
  pub request_faults : faulted_in (buffered.translate s q m es).events ≡ (if s.paging then denials (buffered.translate s q m es).answer else 0)
  request_faults = (by_counts s.paging).faults
