-- Document 02, item 6: events in which each walk kept one entry or ended in a fault, and in which no entry is kept of a walk that began before them.
use Prim.Native.Nat.{◌+◌}
use mathlib.Core.Path.{◌≡◌, refl, ◌∙◌}
use mathlib.Core.Bool.{false}
use mathlib.Core.List.{List, [], ◌++◌}
use native.Mathlib.Omega.{arith}
use Rattle.paging.specs.Event.{Event}
use Rattle.paging.specs.Counting.{walks_in}
use Rattle.paging.proofs.CountingLaws.{walks_append}
use Rattle.walk_bounds.specs.Bounds.{entries_kept, kept_before_walk, faulted_in, space_set}
use Rattle.walk_bounds.proofs.EventCounts.{kept_append, before_append, faults_append, space_append}

pub record Balanced (es : List Event) : Type 0 where
  pub closed : kept_before_walk es ≡ false
  pub walks : walks_in es ≡ entries_kept es + faulted_in es

pub balanced_none : Balanced []
unfolding kept_before_walk walks_in entries_kept faulted_in
balanced_none = record { closed = refl; walks = refl }

-- one after another
pub balanced_both : {es fs : List Event} → Balanced es → Balanced fs → Balanced (es ++ fs)
balanced_both {es} {fs} b c = record {
  closed = before_append fs c.closed es ∙ b.closed;
  walks = omega (arith, b.walks, c.walks, walks_append es fs, kept_append es fs, faults_append fs c.closed es);
}

-- besides, the address space is not set: so it is in the accesses of a step
pub record Accesses (es : List Event) : Type 0 where
  pub balanced : Balanced es
  pub unset : space_set es ≡ false

pub accesses_none : Accesses []
unfolding space_set
accesses_none = record { balanced = balanced_none; unset = refl }

pub accesses_both : {es fs : List Event} → Accesses es → Accesses fs → Accesses (es ++ fs)
accesses_both {es} {fs} a c = record {
  balanced = balanced_both a.balanced c.balanced;
  unset = space_append fs c.balanced.closed es ∙ rw a.unset c.unset;
}
