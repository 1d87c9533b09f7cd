-- Document 02, item 6: along a run that is undisturbed so far, the page buffer is coherent, and accounts for what was entered. Each request keeps this, so each step does.
use Prim.Native.Nat.{ℕ}
use mathlib.Core.Path.{◌≡◌, refl, sym, ◌∙◌}
use mathlib.Core.Bool.{false, true≢false}
use mathlib.Core.List.{List, [], ◌++◌, append_assoc}
use Rattle.word.proofs.BoolLaws.{neither}
use Rattle.paging.specs.declared.Entry.{Entry}
use Rattle.paging.specs.declared.Space.{Space}
use Rattle.paging.specs.Event.{Event}
use Rattle.paging.specs.Held.{held_after}
use Rattle.paging.specs.Translate.{Request, buffered}
use Rattle.paging.proofs.EventLaws.{held_append}
use Rattle.paging.proofs.RequestAgrees.{Sound, sound_after, request_agrees}
use Rattle.rules.specs.declared.Key.{Key}
use Rattle.rules.specs.Tree.{Ended}
use Rattle.rules.specs.Trap.{Effect, none, set_space, deliver, print, Final}
use Rattle.rules.specs.Step.{State, Stepped, buffer_after, step}
use Rattle.rules.proofs.TreeInvariant.{tree_invariant}
use Rattle.rules.proofs.SoundStep.{step_sound}
use Rattle.walk_bounds.specs.Bounds.{space_set}
use Rattle.walk_bounds.specs.Effects.{step_end, sets_space}
use Rattle.walk_bounds.proofs.EventCounts.{space_append}
use Rattle.walk_bounds.proofs.RequestEvents.{request_accesses}
use Rattle.walk_bounds.proofs.StepEvents.{end_events, end_balanced, end_keeps, step_parts, step_balanced, space_set_step}
use Rattle.walk_bounds.proofs.Accounted.{Accounted, accounted_none, request_accounted}
use Rattle.walk_bounds.proofs.Undisturbed.{Undisturbed, undisturbed_before, undisturbed_since}

-- after events evs
pub record Invariant (s : Space) (evs : List Event) (m : List ℕ) (es : List Entry) : Type 0 where
  pub sound : Sound s m es (held_after [] evs)
  pub accounted : Accounted evs es

abbrev IfUndisturbed : Space → List Event → List ℕ → List Entry → Type 0
IfUndisturbed s evs m es = Undisturbed evs → Invariant s evs m es

-- in a state
abbrev pub StateInvariant : List Event → State (List Entry) → Type 0
StateInvariant evs s = Undisturbed evs → Invariant s.cpu.space evs s.mem s.buffer

-- ---- one request

request_preserves : (s : Space) (q : Request) (evs : List Event) (m : List ℕ) (es : List Entry) → IfUndisturbed s evs m es
    → IfUndisturbed s (evs ++ (buffered.translate s q m es).events) (buffered.translate s q m es).mem (buffered.translate s q m es).buffer
request_preserves s q evs m es i u =
    let fs = (buffered.translate s q m es).events in
    let k = i (undisturbed_before evs fs u (request_accesses s q m es).balanced.closed) in
    record {
      sound = rw (held_append [] evs fs) (sound_after (request_agrees s q m es (held_after [] evs) k.sound));
      accounted = request_accounted evs es k.accounted s q m k.sound.coherent u.few;
    }

-- ---- one step

-- PDIR and SPAG alone empty the buffer
effect_leaves : (es : List Entry) (x : Effect) → sets_space x ≡ false → buffer_after buffered es x ≡ es
unfolding buffer_after
effect_leaves es none n = refl
effect_leaves es (set_space t) n = absurd (true≢false n)
effect_leaves es (deliver code) n = refl
effect_leaves es (print x) n = refl

module _ (ks : List Key) (evs : List Event) (s : State (List Entry)) (i : StateInvariant evs s) where
  abbrev t : Stepped (List Entry)
  t = step buffered ks s

  abbrev e : Ended (List Entry) Final
  e = step_end buffered ks s

  -- the accesses
  tree_preserves : IfUndisturbed s.cpu.space (evs ++ e.events) e.mem e.buffer
  tree_preserves =
      tree_invariant buffered s.cpu.space (IfUndisturbed s.cpu.space) (request_preserves s.cpu.space) s.cpu.system.user _ evs s.mem s.buffer [] i

  -- the events in two parts
  parts : evs ++ t.events ≡ evs ++ e.events ++ end_events e
  parts = rw (step_parts ks s, append_assoc evs e.events (end_events e))

  -- no PDIR or SPAG took effect
  unset : Undisturbed (evs ++ t.events) → sets_space e.leaf.effect ≡ false
  unset u =
      sym (space_set_step ks s)
      ∙ (neither (space_set evs) (space_set t.events) (sym (space_append t.events (step_balanced ks s).closed evs) ∙ u.unset)).1

  -- so what follows the accesses leaves the buffer
  step_accounted : Undisturbed (evs ++ t.events) → Accounted (evs ++ t.events) t.state.buffer
  unfolding step
  step_accounted u =
      let k = tree_preserves (undisturbed_before (evs ++ e.events) (end_events e) (rw parts at u) (end_balanced e).closed) in
      rw (parts, effect_leaves e.buffer e.leaf.effect (unset u)) (accounted_none (end_events e) (end_keeps e) k.accounted)

  pub step_preserves : StateInvariant (evs ++ t.events) t.state
  step_preserves u =
      let k = i (undisturbed_before evs t.events u (step_balanced ks s).closed) in
      record {
        sound = rw (held_append [] evs t.events) (step_sound ks s (held_after [] evs) k.sound (undisturbed_since evs t.events u));
        accounted = step_accounted u;
      }
