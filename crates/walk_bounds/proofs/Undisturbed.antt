-- Document 02, item 6: what the second bound asks of a run, of the events so far. "In a run without PDIR or SPAG, without a store of the kind demand 3 names, and
-- with at most 64 different pages entered".
use Prim.Native.Nat.{◌≤◌}
use mathlib.Core.Path.{◌≡◌, sym, ◌∙◌}
use mathlib.Core.Bool.{false}
use mathlib.Core.List.{List, [], ◌++◌}
use native.Mathlib.Omega.{arith}
use lib.ListN.{length}
use Rattle.word.proofs.BoolLaws.{neither}
use Rattle.paging.specs.Event.{Event}
use Rattle.paging.specs.Held.{held_after, stores_held}
use Rattle.paging.proofs.EventLaws.{stores_append}
use Rattle.walk_bounds.specs.Bounds.{entered, kept_before_walk, space_set}
use Rattle.walk_bounds.proofs.EventCounts.{entered_append, entered_more, space_append}

pub record Undisturbed (es : List Event) : Type 0 where
  pub few : length (entered [] es) ≤ 64
  pub unset : space_set es ≡ false
  pub apart : stores_held [] es ≡ false

module _ (es fs : List Event) (u : Undisturbed (es ++ fs)) where
  stores : (stores_held [] es ≡ false) × (stores_held (held_after [] es) fs ≡ false)
  stores = neither _ _ (sym (stores_append [] es fs) ∙ u.apart)

  -- it was so before
  pub undisturbed_before : kept_before_walk fs ≡ false → Undisturbed es
  undisturbed_before n =
      let more : length (entered [] es) ≤ length (entered [] (es ++ fs)) = rw (entered_append [] es fs) (entered_more (entered [] es) fs) in
      record {
        few = omega (arith, u.few, more);
        unset = (neither (space_set es) (space_set fs) (sym (space_append fs n es) ∙ u.unset)).0;
        apart = stores.0;
      }

  -- no store of demand 3's kind was made since
  pub undisturbed_since : stores_held (held_after [] es) fs ≡ false
  undisturbed_since = stores.1
