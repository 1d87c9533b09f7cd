-- Document 01, "Numbers returned": "the steps reported equal the growth of the step count", in each machine.
use Rattle.std.proofs.Common.{if◌then◌else◌}
use Prim.Native.Nat.{ℕ, zero, suc, ◌+◌}
use mathlib.Core.Path.{◌≡◌, refl}
use mathlib.Core.Bool.{Bool, true, false}
use mathlib.Core.List.{List, [], ◌∷◌}
use native.Mathlib.Omega.{arith}
use lib.ListN.{length}
use Rattle.paging.specs.Translate.{Translator}
use Rattle.rules.specs.declared.Key.{Key}
use Rattle.rules.specs.Record.{is_running}
use Rattle.rules.specs.Step.{State, Stepped, step}
use Rattle.rules.specs.Run.{steps_of, last_of, reported, allowance, run_answer, run}

-- the step count of a state
abbrev pub count_of : {B : Type 0} → State B → ℕ
count_of s = s.cpu.regs.count

module _ {B : Type 0} (tr : Translator B) (ks : List Key) where
  -- one step
  pub step_count : (s : State B) → count_of (step tr ks s).state ≡ count_of s + 1
  unfolding step
  step_count s = refl

  -- the steps of a run
  steps_count : (n : ℕ) (s : State B) → count_of (last_of s (steps_of tr ks n s)) ≡ count_of s + length (steps_of tr ks n s)
  unfolding steps_of last_of
  steps_count zero s = omega arith
  steps_count (suc n) s = go (is_running s.cpu.stop) (steps_count n (step tr ks s).state)
    where
      t : Stepped B
      t = step tr ks s

      ts : List (Stepped B)
      ts = t ∷ steps_of tr ks n t.state

      go : (b : Bool) → count_of (last_of t.state (steps_of tr ks n t.state)) ≡ count_of t.state + length (steps_of tr ks n t.state)
          → count_of (last_of s (if b then ts else [])) ≡ count_of s + length (if b then ts else [])
      go true h = omega (arith, h, step_count s)
      go false h = omega arith

  -- a run, refused ones too
  pub run_count : (budget : ℕ) (s : State B) → count_of (run tr ks budget s).state ≡ count_of s + reported (run tr ks budget s)
  unfolding run
  run_count budget s = steps_count (allowance (run_answer tr ks budget s) budget) s
