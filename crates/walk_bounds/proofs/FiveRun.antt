-- Document 02, item 6: "never more than five in a step", so of a run at most five for each step made. A counter of 64 bits holds them, whatever the budget.
use Rattle.std.proofs.Common.{if◌then◌else◌}
use Prim.Native.Nat.{ℕ, zero, suc, ◌*◌, ◌^◌, ◌≤◌, ◌<◌}
use mathlib.Core.Path.{◌≡◌, refl}
use mathlib.Core.Bool.{Bool, true, false}
use mathlib.Core.List.{List, [], ◌∷◌}
use native.Mathlib.Omega.{arith}
use lib.ListN.{length}
use borrow.Author.Tests.{leb-true}
use Rattle.memory.specs.Memory.{size_ok}
use Rattle.paging.specs.declared.Entry.{Entry}
use Rattle.paging.specs.Translate.{Translator, buffered}
use Rattle.paging.specs.Counting.{walks_in}
use Rattle.paging.proofs.CountingLaws.{walks_append}
use Rattle.rules.specs.declared.Key.{Key}
use Rattle.rules.specs.Record.{is_running}
use Rattle.rules.specs.Step.{State, Stepped, step}
use Rattle.rules.specs.Run.{registers_ok, keys_ok, console_ok, budget_ok, is_accepted, allowance, run_answer, steps_of, run}
use Rattle.rules.specs.Walks.{events_of, walks_of}
use Rattle.rules.proofs.AcceptedRun.{accepted_tests}
use Rattle.walk_bounds.proofs.OneWalk.{OneWalk, one_buffered}
use Rattle.walk_bounds.proofs.Five.{five}

-- an accepted run has a budget of at most 1,000,000
budget_accepted : {B : Type 0} (tr : Translator B) (ks : List Key) (budget : ℕ) (s : State B) → is_accepted (run_answer tr ks budget s) ≡ true → budget ≤ 1000000
unfolding run_answer
budget_accepted tr ks budget s e =
    let size = length s.mem in
    let p = accepted_tests (size_ok size) (registers_ok size s.cpu) (tr.accepts size s.buffer) (keys_ok ks s.cpu.clock.taken) (console_ok s.cpu.written s.console) (budget_ok budget) e in
    leb-true budget 1000000 p.5

module _ {B : Type 0} {tr : Translator B} (one : OneWalk tr) where
  -- the steps of a run, by their number
  pub steps_walks : (ks : List Key) (n : ℕ) (s : State B) → walks_in (events_of (steps_of tr ks n s)) ≤ 5 * length (steps_of tr ks n s)
  unfolding steps_of events_of walks_in
  steps_walks ks zero s = omega arith
  steps_walks ks (suc n) s = go (is_running s.cpu.stop) (steps_walks ks n (step tr ks s).state)
    where
      t : Stepped B
      t = step tr ks s

      ts : List (Stepped B)
      ts = steps_of tr ks n t.state

      go : (b : Bool) → walks_in (events_of ts) ≤ 5 * length ts → walks_in (events_of (if b then t ∷ ts else [])) ≤ 5 * length (if b then t ∷ ts else [])
      go true h = omega (arith, h, walks_append t.events (events_of ts), five one ks s)
      go false h = omega arith

  -- never more steps than allowed
  steps_allowed : (ks : List Key) (n : ℕ) (s : State B) → length (steps_of tr ks n s) ≤ n
  unfolding steps_of
  steps_allowed ks zero s = omega arith
  steps_allowed ks (suc n) s = go (is_running s.cpu.stop) (steps_allowed ks n (step tr ks s).state)
    where
      ts : List (Stepped B)
      ts = steps_of tr ks n (step tr ks s).state

      go : (b : Bool) → length ts ≤ n → length (if b then step tr ks s ∷ ts else []) ≤ suc n
      go true h = omega (arith, h)
      go false h = omega arith

  -- by the steps allowed
  pub steps_walks_allowed : (ks : List Key) (n : ℕ) (s : State B) → walks_in (events_of (steps_of tr ks n s)) ≤ 5 * n
  steps_walks_allowed ks n s = omega (arith, steps_walks ks n s, steps_allowed ks n s)

-- ---- in the machine with the page buffer

-- those of the largest budget fit 64 bits
pub steps_walks_small : (ks : List Key) (n : ℕ) (s : State (List Entry)) → n ≤ 1000000 → walks_in (events_of (steps_of buffered ks n s)) < 2 ^ 64
steps_walks_small ks n s h = omega (arith, steps_walks_allowed one_buffered ks n s)

-- a run, also a refused one
pub run_walks : (ks : List Key) (budget : ℕ) (s : State (List Entry)) → walks_of (run buffered ks budget s) ≤ 5 * budget
unfolding run
run_walks ks budget s =
    omega (arith, steps_walks_allowed one_buffered ks (allowance (run_answer buffered ks budget s) budget) s, allowed (is_accepted (run_answer buffered ks budget s)))
  where
    allowed : (b : Bool) → (if b then budget else 0) ≤ budget
    allowed true = omega arith
    allowed false = omega arith

-- whatever its budget: one above 1,000,000 is refused
pub run_walks_small : (ks : List Key) (budget : ℕ) (s : State (List Entry)) → walks_of (run buffered ks budget s) < 2 ^ 64
unfolding run
run_walks_small ks budget s =
    steps_walks_small ks (allowance (run_answer buffered ks budget s) budget) s (go (is_accepted (run_answer buffered ks budget s)) refl)
  where
    go : (b : Bool) → is_accepted (run_answer buffered ks budget s) ≡ b → (if b then budget else 0) ≤ 1000000
    go true e = budget_accepted buffered ks budget s e
    go false e = omega arith
