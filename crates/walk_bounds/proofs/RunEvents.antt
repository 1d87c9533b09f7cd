-- Document 02, item 6: the events of a run of the machine with the page buffer. Each walk kept one entry or ended in a fault; the address space was set exactly
-- where PDIR or SPAG took effect.
use Rattle.std.proofs.Common.{if◌then◌else◌}
use Prim.Native.Nat.{ℕ, zero, suc, ◌+◌}
use mathlib.Core.Path.{◌≡◌, refl, ◌∙◌}
use mathlib.Core.Bool.{Bool, true, false, ◌||◌}
use mathlib.Core.List.{List, [], ◌∷◌}
use Rattle.paging.specs.declared.Entry.{Entry}
use Rattle.paging.specs.Translate.{buffered}
use Rattle.rules.specs.declared.Key.{Key}
use Rattle.rules.specs.Record.{is_running}
use Rattle.rules.specs.Step.{State, Stepped, step}
use Rattle.rules.specs.Run.{allowance, run_answer, steps_of, run}
use Rattle.rules.specs.Walks.{events_of, walks_of}
use Rattle.rules.proofs.RunInvariant.{steps_invariant}
use Rattle.walk_bounds.specs.Bounds.{entries_kept, faulted_in, space_set, run_events}
use Rattle.walk_bounds.specs.Effects.{step_end, sets_space, set_in_steps}
use Rattle.walk_bounds.proofs.EventCounts.{space_append}
use Rattle.walk_bounds.proofs.Balanced.{Balanced, balanced_none, balanced_both}
use Rattle.walk_bounds.proofs.StepEvents.{step_balanced, space_set_step}

module _ (ks : List Key) where
  pub steps_balanced : (n : ℕ) (s : State (List Entry)) → Balanced (events_of (steps_of buffered ks n s))
  steps_balanced n s = steps_invariant buffered ks (λ es t. Balanced es) (λ es t b. balanced_both b (step_balanced ks t)) n [] s balanced_none

  -- a walk that keeps no entry is one that ended in a fault, in any run
  pub walks_are_kept_or_faulted : (budget : ℕ) (s : State (List Entry))
      → walks_of (run buffered ks budget s) ≡ entries_kept (run_events ks budget s) + faulted_in (run_events ks budget s)
  unfolding run
  walks_are_kept_or_faulted budget s = (steps_balanced (allowance (run_answer buffered ks budget s) budget) s).walks

  set-in_steps : (n : ℕ) (s : State (List Entry)) → space_set (events_of (steps_of buffered ks n s)) ≡ set_in_steps buffered ks n s
  unfolding steps_of events_of space_set set_in_steps
  set-in_steps zero s = refl
  set-in_steps (suc n) s = go (is_running s.cpu.stop) (set-in_steps n t.state)
    where
      t : Stepped (List Entry)
      t = step buffered ks s

      ts : List (Stepped (List Entry))
      ts = steps_of buffered ks n t.state

      go : (r : Bool) → space_set (events_of ts) ≡ set_in_steps buffered ks n t.state
          → space_set (events_of (if r then t ∷ ts else [])) ≡ (if r then sets_space (step_end buffered ks s).leaf.effect || set_in_steps buffered ks n t.state else false)
      go true h = space_append (events_of ts) (steps_balanced n t.state).closed t.events ∙ rw (space_set_step ks s, h)
      go false h = refl

  -- in any run
  pub space_set_run : (budget : ℕ) (s : State (List Entry))
      → space_set (run_events ks budget s) ≡ set_in_steps buffered ks (allowance (run_answer buffered ks budget s) budget) s
  unfolding run
  space_set_run budget s = set-in_steps (allowance (run_answer buffered ks budget s) budget) s
