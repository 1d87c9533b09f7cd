-- Document 01, "Numbers returned": runs that make no step: "A refused run returns the record given and zero steps; memory and console keep their bytes"; one that
-- "starts stopped, or has budget 0, is accepted with zero steps and no change". Of each machine.
use Rattle.std.proofs.Common.{if◌then◌else◌}
use Prim.Native.Nat.{ℕ}
use mathlib.Core.Path.{◌≡◌, refl}
use mathlib.Core.Bool.{Bool, true, false}
use mathlib.Core.List.{List, []}
use Rattle.paging.specs.Translate.{Translator}
use Rattle.rules.specs.declared.Key.{Key}
use Rattle.rules.specs.Record.{is_running}
use Rattle.rules.specs.Step.{State}
use Rattle.rules.specs.Run.{is_accepted, allowance, run_answer, steps_of, run, reported}
use Rattle.rules.proofs.StepsInParts.{stopped_steps}

module _ {B : Type 0} (tr : Translator B) (ks : List Key) (budget : ℕ) (s : State B) where
  -- a run that makes no step ends in the state that it starts from
  pub record NoSteps : Type 0 where
    pub none : reported (run tr ks budget s) ≡ 0
    pub same : (run tr ks budget s).state ≡ s

  no_steps : {n : ℕ} → allowance (run_answer tr ks budget s) budget ≡ n → steps_of tr ks n s ≡ [] → NoSteps
  unfolding run
  no_steps p q = record { none = rw (p, q); same = rw (p, q) }

  pub refused_run : is_accepted (run tr ks budget s).answer ≡ false → NoSteps
  unfolding run
  refused_run e = no_steps {n = 0} (rw e) refl

  pub unbudgeted_run : budget ≡ 0 → NoSteps
  unfolding steps_of
  unbudgeted_run e = no_steps {n = 0} (go (is_accepted (run_answer tr ks budget s))) refl
    where
      go : (b : Bool) → (if b then budget else 0) ≡ 0
      go true = e
      go false = refl

  pub stopped_run : is_running s.cpu.stop ≡ false → NoSteps
  stopped_run e = no_steps refl (stopped_steps tr ks (allowance (run_answer tr ks budget s) budget) s e)
