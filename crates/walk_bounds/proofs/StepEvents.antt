-- Document 02, item 6: the events of a step of the machine with the page buffer: of its accesses, then of its stores, then of its effect.
use Prim.Native.Nat.{ℕ}
use mathlib.Core.Path.{◌≡◌, refl, ◌∙◌}
use mathlib.Core.List.{List, [], ◌∷◌, ◌++◌, append_assoc}
use native.Mathlib.Omega.{arith}
use Rattle.paging.specs.declared.Entry.{Entry}
use Rattle.paging.specs.Event.{Event}
use Rattle.paging.specs.Counting.{walks_in}
use Rattle.paging.specs.Translate.{buffered}
use Rattle.rules.specs.declared.Key.{Key}
use Rattle.rules.specs.Tree.{Grant, store_events, Ended}
use Rattle.rules.specs.Trap.{Effect, none, set_space, deliver, print, Final}
use Rattle.rules.specs.Step.{State, effect_events, step}
use Rattle.rules.proofs.TreeInvariant.{tree_invariant}
use Rattle.walk_bounds.specs.Bounds.{entries_kept, kept_before_walk, faulted_in, space_set}
use Rattle.walk_bounds.specs.Effects.{step_end, sets_space}
use Rattle.walk_bounds.proofs.EventCounts.{kept_append, space_append}
use Rattle.walk_bounds.proofs.Balanced.{Balanced, balanced_none, balanced_both, Accesses, accesses_none, accesses_both}
use Rattle.walk_bounds.proofs.RequestEvents.{request_accesses}

-- ---- after the accesses

store_accesses : (gs : List Grant) (vs : List ℕ) → Accesses (store_events gs vs)
unfolding store_events kept_before_walk walks_in entries_kept faulted_in space_set
store_accesses [] vs = accesses_none
store_accesses (g ∷ gs) [] = accesses_none
store_accesses (g ∷ gs) (v ∷ vs) =
    let a = store_accesses gs vs in
    record { balanced = record { closed = a.balanced.closed; walks = a.balanced.walks }; unset = a.unset }

stores_keep : (gs : List Grant) (vs : List ℕ) → entries_kept (store_events gs vs) ≡ 0
unfolding store_events entries_kept
stores_keep [] vs = refl
stores_keep (g ∷ gs) [] = refl
stores_keep (g ∷ gs) (v ∷ vs) = stores_keep gs vs

effect_balanced : (x : Effect) → Balanced (effect_events buffered x)
unfolding effect_events kept_before_walk walks_in entries_kept faulted_in
effect_balanced none = balanced_none
effect_balanced (set_space t) = record { closed = refl; walks = refl }
effect_balanced (deliver code) = record { closed = refl; walks = refl }
effect_balanced (print x) = balanced_none

effect_keeps : (x : Effect) → entries_kept (effect_events buffered x) ≡ 0
unfolding effect_events entries_kept
effect_keeps none = refl
effect_keeps (set_space t) = refl
effect_keeps (deliver code) = refl
effect_keeps (print x) = refl

effect_sets : (x : Effect) → space_set (effect_events buffered x) ≡ sets_space x
unfolding effect_events kept_before_walk space_set
effect_sets none = refl
effect_sets (set_space t) = refl
effect_sets (deliver code) = refl
effect_sets (print x) = refl

-- the events of stores and effect
abbrev pub end_events : Ended (List Entry) Final → List Event
end_events e = store_events e.grants e.leaf.values ++ effect_events buffered e.leaf.effect

module _ (e : Ended (List Entry) Final) where
  pub end_balanced : Balanced (end_events e)
  end_balanced = balanced_both (store_accesses e.grants e.leaf.values).balanced (effect_balanced e.leaf.effect)

  -- no entry is kept
  pub end_keeps : entries_kept (end_events e) ≡ 0
  end_keeps =
      omega (
        arith,
        kept_append (store_events e.grants e.leaf.values) (effect_events buffered e.leaf.effect),
        stores_keep e.grants e.leaf.values,
        effect_keeps e.leaf.effect,
      )

  end_sets : space_set (end_events e) ≡ sets_space e.leaf.effect
  end_sets =
      space_append (effect_events buffered e.leaf.effect) (effect_balanced e.leaf.effect).closed (store_events e.grants e.leaf.values)
      ∙ rw (store_accesses e.grants e.leaf.values).unset (effect_sets e.leaf.effect)

-- ---- the whole step

module _ (ks : List Key) (s : State (List Entry)) where
  -- its accesses, and what follows them
  pub step_parts : (step buffered ks s).events ≡ (step_end buffered ks s).events ++ end_events (step_end buffered ks s)
  unfolding step
  step_parts = append_assoc (step_end buffered ks s).events _ _

  tree_accesses : Accesses (step_end buffered ks s).events
  tree_accesses =
      tree_invariant buffered s.cpu.space (λ es m b. Accesses es) (λ q es m b a. accesses_both a (request_accesses s.cpu.space q m b))
      s.cpu.system.user _ [] s.mem s.buffer [] accesses_none

  pub step_balanced : Balanced (step buffered ks s).events
  step_balanced = rw step_parts (balanced_both tree_accesses.balanced (end_balanced (step_end buffered ks s)))

  -- the address space was set exactly where PDIR or SPAG took effect
  pub space_set_step : space_set (step buffered ks s).events ≡ sets_space (step_end buffered ks s).leaf.effect
  space_set_step =
      let e = step_end buffered ks s in
      rw step_parts (space_append (end_events e) (end_balanced e).closed e.events ∙ rw tree_accesses.unset (end_sets e))
