-- Document 01, "The table reader": the invariant of demand 3, step by step.
use mathlib.Core.Path.{◌≡◌}
use mathlib.Core.Bool.{false}
use mathlib.Core.List.{List}
use Rattle.paging.specs.declared.Entry.{Entry}
use Rattle.paging.specs.Event.{Words}
use Rattle.paging.specs.Held.{held_after, stores_held}
use Rattle.paging.specs.Translate.{buffered}
use Rattle.paging.proofs.RequestAgrees.{Sound}
use Rattle.rules.specs.declared.Key.{Key}
use Rattle.rules.specs.Step.{State, step}
use Rattle.rules.proofs.StepAgrees.{step_agrees}
use Rattle.rules.proofs.ValidStep.{step_keeps}

-- what holds before a step, in a state where hs is held
abbrev pub SoundState : State (List Entry) → List Words → Type 0
SoundState s hs = Sound s.cpu.space s.mem s.buffer hs

-- it holds after a step that makes no store of demand 3's kind
pub step_sound : (ks : List Key) (s : State (List Entry)) (hs : List Words) → SoundState s hs → stores_held hs (step buffered ks s).events ≡ false
    → SoundState (step buffered ks s).state (held_after hs (step buffered ks s).events)
step_sound ks s hs o q = record { valid = (step_keeps ks s o.valid).valid; coherent = (step_agrees ks s hs o).coherent q }
