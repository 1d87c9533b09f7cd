-- Document 02, item 6, the first bound: "never more than five in a step", of each machine.
use Rattle.std.proofs.Common.{Option}
use Prim.Native.Nat.{◌+◌, ◌≤◌}
use mathlib.Core.Path.{◌≡◌, refl, ◌∙◌}
use mathlib.Core.List.{[], ◌++◌}
use native.Mathlib.Omega.{arith}
use lib.ListN.{length}
use Rattle.paging.specs.Translate.{Translator, buffered, reader}
use Rattle.paging.specs.Counting.{walks_in}
use Rattle.paging.proofs.CountingLaws.{walks_append}
use Rattle.rules.specs.Tree.{Ended, store_events}
use Rattle.rules.specs.Trap.{Final, Effect, none, set_space, deliver, print}
use Rattle.rules.specs.Clock.{next_of}
use Rattle.rules.specs.Step.{State, effect_events, finished_events, step_by, step}
use Rattle.rules.proofs.WalkCounting.{stores_walks}
use Rattle.walk_bounds.specs.Bounds.{AtMostFive}
use Rattle.walk_bounds.proofs.OneWalk.{OneWalk, one_buffered, one_reader, tree_walks}
use Rattle.walk_bounds.proofs.FiveStep.{step_within}
use Rattle.rules.specs.declared.Key.{Key}

module _ {B : Type 0} {tr : Translator B} (one : OneWalk tr) where
  -- what a step does beyond memory is no walk
  effect_walks : (e : Effect) → walks_in (effect_events tr e) ≡ 0
  unfolding effect_events walks_in
  effect_walks none = refl
  effect_walks (set_space t) = one.emptying
  effect_walks (deliver code) = refl
  effect_walks (print x) = refl

  -- a tree's end
  finished_walks : (e : Ended B Final) → walks_in (finished_events tr e) ≡ walks_in e.events + 0
  unfolding finished_events
  finished_walks e =
      let stores = store_events e.grants e.leaf.values in
      let effect = effect_events tr e.leaf.effect in
      walks_append (e.events ++ stores) effect ∙ omega (arith, walks_append e.events stores, stores_walks e.grants e.leaf.values, effect_walks e.leaf.effect)

  -- a step, with the next key
  step_by_five : (next : Option Key) (s : State B) → walks_in (step_by tr next s).events ≤ 5
  unfolding step_by
  step_by_five next s =
      let t = step_within next (length s.mem) (length s.console) s.cpu in
      rw (finished_walks _) (tree_walks one s.cpu.space 5 s.cpu.system.user t s.mem s.buffer [])

  -- "never more than five in a step": of any translator that walks at most once a request
  pub five : AtMostFive tr
  unfolding step
  five ks s = step_by_five (next_of ks s.cpu.clock.taken) s

-- in the machine with the page buffer, and in the table reader
pub five_buffered : AtMostFive buffered
five_buffered = five one_buffered

pub five_reader : AtMostFive reader
five_reader = five one_reader
