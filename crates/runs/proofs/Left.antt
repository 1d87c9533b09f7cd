-- Document 01, "Numbers returned": "it steps until the budget is used or the machine stops": with no step left once it has stopped.
use Rattle.std.proofs.Common.{if◌then◌else◌}
use Prim.Native.Nat.{ℕ, zero, suc, ◌≤◌, ◌<◌}
use native.Mathlib.Omega.{arith}
use native.Mathlib.Nat.{not-suc-le-zero}
use mathlib.Core.Bool.{Bool, true, false}
use mathlib.Core.Path.{◌≡◌, refl}
use mathlib.Core.List.{List}
use Rattle.mmu.specs.Translates.{Kept}
use Rattle.rules.specs.declared.Key.{Key}
use Rattle.rules.specs.declared.Stop.{Stop}
use Rattle.rules.specs.declared.Stop.TheVariants.{Running, Halted, Masked, NoFrame}
use Rattle.rules.specs.Record.{is_running}
use Rattle.rules.specs.Step.{State}
use Rattle.rules.specs.Run.{steps_of, last_of}
use Rattle.runs.specs.Advance.{left_of}
use Rattle.contracts.specs.Contract.{end_of}

pub left_taken : (s : Stop) (n : ℕ) → is_running s ≡ true → n ≡ left_of s n
unfolding left_of
left_taken s n e = rw e

pub left_none : (s : Stop) (n : ℕ) → is_running s ≡ false → 0 ≡ left_of s n
unfolding left_of
left_none s n e = rw e

-- no more than before, and some only where the machine runs
pub left_least : (s : Stop) (n : ℕ) → left_of s n ≤ n
unfolding left_of
left_least Running n = omega arith
left_least Halted n = omega arith
left_least Masked n = omega arith
left_least NoFrame n = omega arith

pub left_running : (s : Stop) (n : ℕ) → 0 < left_of s n → s ≡ Running
unfolding left_of
left_running Running n h = refl
left_running Halted n h = absurd (not-suc-le-zero h)
left_running Masked n h = absurd (not-suc-le-zero h)
left_running NoFrame n h = absurd (not-suc-le-zero h)

-- the end is the same
pub end_left : (ks : List Key) (n : ℕ) (s : State Kept) → end_of ks n s ≡ end_of ks (left_of s.cpu.stop n) s
unfolding left_of steps_of last_of
end_left ks zero s = go (is_running s.cpu.stop)
  where
    go : (b : Bool) → end_of ks 0 s ≡ end_of ks (if b then 0 else 0) s
    go true = refl
    go false = refl
end_left ks (suc n) s = go (is_running s.cpu.stop) refl
  where
    go : (b : Bool) → is_running s.cpu.stop ≡ b → end_of ks (suc n) s ≡ end_of ks (if b then suc n else 0) s
    go true e = refl
    go false e = rw e
