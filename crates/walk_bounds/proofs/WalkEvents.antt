-- Document 02, item 6: the events of one walk, counted together with what follows: that tells whether it ended in a fault.
use Rattle.std.proofs.Common.{if◌then◌else◌}
use Prim.Native.Nat.{ℕ, suc}
use mathlib.Core.Path.{◌≡◌, refl}
use mathlib.Core.Bool.{Bool, false}
use mathlib.Core.List.{List, ◌++◌}
use Rattle.paging.specs.declared.Access.{Access}
use Rattle.paging.specs.Event.{Event}
use Rattle.paging.specs.Walk.{walk}
use Rattle.paging.specs.Counting.{walks_in}
use Rattle.paging.proofs.CountedWalk.{Marks, no_mark, one_mark, SingleWalk, began, walk_single}
use Rattle.walk_bounds.specs.Bounds.{entered, entries_kept, kept_before_walk, faulted_in, space_set}

-- marks count for nothing
record SameCounts (es fs : List Event) : Type 0 where
  walks : walks_in es ≡ walks_in fs
  kept : entries_kept es ≡ entries_kept fs
  pages : (ps : List ℕ) → entered ps es ≡ entered ps fs
  before : kept_before_walk es ≡ kept_before_walk fs
  faults : faulted_in es ≡ faulted_in fs
  space : space_set es ≡ space_set fs

marks_same : {es : List Event} → Marks es → (fs : List Event) → SameCounts (es ++ fs) fs
unfolding walks_in entries_kept entered kept_before_walk faulted_in space_set
marks_same no_mark fs = record { walks = refl; kept = refl; pages = λ ps. refl; before = refl; faults = refl; space = refl }
marks_same (one_mark m) fs =
    let c = marks_same m fs in
    record { walks = c.walks; kept = c.kept; pages = c.pages; before = c.before; faults = c.faults; space = c.space }

-- the walk counts, as a fault unless an entry is kept next
pub record WalkCounts (es fs : List Event) : Type 0 where
  pub walks : walks_in es ≡ suc (walks_in fs)
  pub kept : entries_kept es ≡ entries_kept fs
  pub pages : (ps : List ℕ) → entered ps es ≡ entered ps fs
  pub closed : kept_before_walk es ≡ false
  pub faults : faulted_in es ≡ (if kept_before_walk fs then faulted_in fs else suc (faulted_in fs))
  pub space : space_set es ≡ space_set fs

one_counts : {es : List Event} → SingleWalk es → (fs : List Event) → WalkCounts (es ++ fs) fs
unfolding walks_in entries_kept entered kept_before_walk faulted_in space_set
one_counts (began m) fs =
    let c = marks_same m fs in
    record { walks = rw c.walks; kept = c.kept; pages = c.pages; closed = refl; faults = rw (c.before, c.faults); space = c.space }

pub walk_counts : (m : List ℕ) (pdir page : ℕ) (k : Access) (user : Bool) (fs : List Event) → WalkCounts ((walk m pdir page k user).events ++ fs) fs
walk_counts m pdir page k user fs = one_counts (walk_single m pdir page k user) fs
