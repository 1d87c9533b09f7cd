-- Document 02, item 6, the second bound: along a run as it asks, an entry was kept at most twice for each page entered, and every other walk ended in a fault.
use Rattle.std.proofs.Common.{if◌then◌else◌}
use Prim.Native.Nat.{ℕ, ◌+◌, ◌*◌, ◌%◌, ◌≤◌}
use mathlib.Core.Path.{◌≡◌, refl, sym, ap, ◌∙◌}
use mathlib.Core.Bool.{Bool, true, false}
use mathlib.Core.List.{List, []}
use native.Mathlib.Omega.{arith}
use lib.ListN.{length, length-map}
use Rattle.paging.specs.declared.Entry.{Entry}
use Rattle.paging.specs.declared.Space.{Space}
use Rattle.paging.specs.Event.{Event}
use Rattle.paging.specs.Buffer.{entry_page}
use Rattle.paging.specs.Held.{held_after}
use Rattle.paging.specs.Translate.{buffered}
use Rattle.paging.specs.Counting.{walks_in}
use Rattle.paging.proofs.Coherent.{none_held}
use Rattle.paging.proofs.BufferLaws.{empty_ok}
use Rattle.rules.specs.declared.Key.{Key}
use Rattle.rules.specs.Step.{State}
use Rattle.rules.specs.Run.{is_accepted, run_answer, steps_of, run}
use Rattle.rules.specs.Walks.{events_of}
use Rattle.rules.proofs.RunInvariant.{steps_invariant}
use Rattle.rules.proofs.AcceptedRun.{accepted_state}
use Rattle.walk_bounds.specs.Bounds.{entered, entries_kept, faulted_in, AtMostTwice}
use Rattle.walk_bounds.proofs.Balanced.{Balanced}
use Rattle.walk_bounds.proofs.RunEvents.{steps_balanced}
use Rattle.walk_bounds.proofs.Weight.{weight, weight_most}
use Rattle.walk_bounds.proofs.Accounted.{Accounted}
use Rattle.walk_bounds.proofs.Undisturbed.{Undisturbed}
use Rattle.walk_bounds.proofs.StepInvariant.{Invariant, StateInvariant, step_preserves}

-- "from an empty buffer"
invariant_at_start : (s : Space) (m : List ℕ) (es : List Entry) → es ≡ [] → s.pdir % 4 ≡ 0 → length m % 4096 ≡ 0 → Invariant s [] m es
unfolding held_after entered entries_kept weight
invariant_at_start s m es e al wh =
    rw e
    (record {
      sound = record { valid = record { aligned = al; whole = wh; ok = empty_ok (length m) }; coherent = none_held };
      accounted = record { pages = refl; covers = omega arith };
    })

-- "never more than twice the pages entered plus the walks that ended in a fault"
abbrev Bounded : List Event → Type 0
Bounded evs = walks_in evs ≤ 2 * length (entered [] evs) + faulted_in evs

accounted_bounded : {evs : List Event} {es : List Entry} → Balanced evs → Accounted evs es → Bounded evs
accounted_bounded {evs} {es} b a =
    let l : length es ≡ length (entered [] evs) = sym (length-map es entry_page) ∙ ap length a.pages in
    omega (arith, b.walks, a.covers, weight_most es, l)

module _ (ks : List Key) (s : State (List Entry)) where
  -- the events of n steps, or of as many as are made before the machine stops
  abbrev events : ℕ → List Event
  events n = events_of (steps_of buffered ks n s)

  steps_bounded : (n : ℕ) → StateInvariant [] s → Undisturbed (events n) → Bounded (events n)
  steps_bounded n i u = accounted_bounded (steps_balanced ks n s) (steps_invariant buffered ks StateInvariant (step_preserves ks) n [] s i u).accounted

  -- a refused run makes no step
  run_bounded : (budget : ℕ) (a : Bool) → (a ≡ true → StateInvariant [] s) → Undisturbed (events (if a then budget else 0)) → Bounded (events (if a then budget else 0))
  unfolding steps_of events_of walks_in
  run_bounded budget true i u = steps_bounded budget (i refl) u
  run_bounded budget false i u = omega arith

pub at_most_twice : AtMostTwice
unfolding run
at_most_twice ks budget s e unset apart few =
    run_bounded ks s budget (is_accepted (run_answer buffered ks budget s))
    (λ t u. let a = accepted_state buffered ks budget s t in invariant_at_start s.cpu.space s.mem s.buffer e a.aligned a.whole)
    (record { few = few; unset = unset; apart = apart })
