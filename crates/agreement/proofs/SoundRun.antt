-- The invariant of demand 3 along a run: before each step the buffer is coherent, as long as no store of demand 3's kind was made.
use Rattle.std.proofs.Common.{if◌then◌else◌}
use Prim.Native.Nat.{ℕ, zero, suc}
use mathlib.Core.Path.{◌≡◌}
use mathlib.Core.Bool.{Bool, true, false}
use mathlib.Core.List.{List, [], ◌∷◌}
use Rattle.paging.specs.declared.Entry.{Entry}
use Rattle.paging.specs.Event.{Words}
use Rattle.paging.specs.Held.{held_after, stores_held}
use Rattle.paging.specs.Translate.{buffered}
use Rattle.word.proofs.BoolLaws.{neither}
use Rattle.rules.specs.declared.Key.{Key}
use Rattle.rules.specs.Record.{is_running}
use Rattle.rules.specs.Step.{Stepped, step}
use Rattle.rules.specs.Run.{steps_of, last_of}
use Rattle.rules.proofs.SoundStep.{SoundState, step_sound}
use Rattle.agreement.proofs.Comparison.{held_through, stores_through}
use Rattle.agreement.proofs.StepsAgree.{Buffered}

-- the state after n steps, or after as many as are made before the machine stops
pub steps_sound : (ks : List Key) (n : ℕ) (s : Buffered) (hs : List Words) → SoundState s hs → stores_through hs (steps_of buffered ks n s) ≡ false
    → SoundState (last_of s (steps_of buffered ks n s)) (held_through hs (steps_of buffered ks n s))
unfolding steps_of last_of
steps_sound ks zero s hs o q = o
steps_sound ks (suc n) s hs o q =
    go (is_running s.cpu.stop) (λ p r. steps_sound ks n b.state (held_after hs b.events) (step_sound ks s hs o p) r) q
  where
    b : Stepped (List Entry)
    b = step buffered ks s

    bs : List (Stepped (List Entry))
    bs = steps_of buffered ks n b.state

    go : (r : Bool) → (stores_held hs b.events ≡ false → stores_through (held_after hs b.events) bs ≡ false
        → SoundState (last_of b.state bs) (held_through (held_after hs b.events) bs))
        → stores_through hs (if r then b ∷ bs else []) ≡ false
        → SoundState (last_of s (if r then b ∷ bs else [])) (held_through hs (if r then b ∷ bs else []))
    go true later p =
        let m = neither (stores_held hs b.events) (stores_through (held_after hs b.events) bs) p in
        later m.0 m.1
    go false later p = o
