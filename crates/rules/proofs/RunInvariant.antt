-- One induction over the steps of a run, with the invariant open: I says something of the events so far and of the state. If each step keeps it, so does every run.
use Rattle.std.proofs.Common.{if◌then◌else◌}
use Prim.Native.Nat.{ℕ, zero, suc}
use mathlib.Core.Bool.{Bool, true, false}
use mathlib.Core.List.{List, [], ◌∷◌, ◌++◌, append_assoc, append-nil}
use Rattle.paging.specs.Event.{Event}
use Rattle.paging.specs.Translate.{Translator}
use Rattle.rules.specs.declared.Key.{Key}
use Rattle.rules.specs.Record.{is_running}
use Rattle.rules.specs.Step.{State, Stepped, step}
use Rattle.rules.specs.Run.{steps_of, last_of}
use Rattle.rules.specs.Walks.{events_of}

module _ {B : Type 0} (tr : Translator B) (ks : List Key) (I : List Event → State B → Type 0)
    (keeps : (es : List Event) (s : State B) → I es s → I (es ++ (step tr ks s).events) (step tr ks s).state) where
  -- the state after n steps, or after as many as are made before the machine stops
  pub steps_invariant : (n : ℕ) (es : List Event) (s : State B) → I es s → I (es ++ events_of (steps_of tr ks n s)) (last_of s (steps_of tr ks n s))
  unfolding steps_of last_of events_of
  steps_invariant zero es s i = rw (append-nil es) i
  steps_invariant (suc n) es s i =
      go (is_running s.cpu.stop) (steps_invariant n (es ++ t.events) t.state (keeps es s i))
    where
      t : Stepped B
      t = step tr ks s

      ts : List (Stepped B)
      ts = steps_of tr ks n t.state

      go : (r : Bool) → I (es ++ t.events ++ events_of ts) (last_of t.state ts)
          → I (es ++ events_of (if r then t ∷ ts else [])) (last_of s (if r then t ∷ ts else []))
      go true j = rw (← append_assoc es t.events (events_of ts)) j
      go false j = rw (append-nil es) i
