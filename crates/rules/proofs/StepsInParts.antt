-- Document 01, "Numbers returned": steps one after another. n steps and then p are n + p; a machine that has stopped makes none.
use Rattle.std.proofs.Common.{if◌then◌else◌}
use Prim.Native.Nat.{ℕ, zero, suc, ◌+◌}
use native.Mathlib.Nat.{zero-add, suc-add}
use mathlib.Core.Path.{◌≡◌, refl, sym, ap}
use mathlib.Core.Bool.{Bool, true, false}
use mathlib.Core.List.{List, [], ◌∷◌, ◌++◌}
use Rattle.paging.specs.Translate.{Translator}
use Rattle.rules.specs.declared.Key.{Key}
use Rattle.rules.specs.Record.{is_running}
use Rattle.rules.specs.Step.{State, Stepped, step}
use Rattle.rules.specs.Run.{steps_of, last_of}

-- the last state of two lists of steps
pub last_both : {B : Type 0} (s : State B) (ts us : List (Stepped B)) → last_of s (ts ++ us) ≡ last_of (last_of s ts) us
unfolding last_of
last_both s [] us = refl
last_both s (t ∷ ts) us = last_both t.state ts us

module _ {B : Type 0} (tr : Translator B) (ks : List Key) where
  pub stopped_steps : (n : ℕ) (s : State B) → is_running s.cpu.stop ≡ false → steps_of tr ks n s ≡ []
  unfolding steps_of
  stopped_steps zero s e = refl
  stopped_steps (suc n) s e = rw e

  pub steps_both : (n p : ℕ) (s : State B) → steps_of tr ks (n + p) s ≡ steps_of tr ks n s ++ steps_of tr ks p (last_of s (steps_of tr ks n s))
  unfolding steps_of last_of
  steps_both zero p s = rw (zero-add p)
  steps_both (suc n) p s = rw (suc-add n p) (go (is_running s.cpu.stop) (steps_both n p t.state) (stopped_steps p s))
    where
      t : Stepped B
      t = step tr ks s

      ts : List (Stepped B)
      ts = steps_of tr ks n t.state

      go : (b : Bool) → steps_of tr ks (n + p) t.state ≡ ts ++ steps_of tr ks p (last_of t.state ts) → (b ≡ false → steps_of tr ks p s ≡ [])
          → (if b then t ∷ steps_of tr ks (n + p) t.state else []) ≡ (if b then t ∷ ts else []) ++ steps_of tr ks p (last_of s (if b then t ∷ ts else []))
      go true h k = ap (λ (us : List (Stepped B)). t ∷ us) h
      go false h k = sym (k refl)
