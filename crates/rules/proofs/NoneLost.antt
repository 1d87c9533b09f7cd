-- Document 02, item 1: an interrupt that is pending where a run starts is delivered in the run, or pending where it ends. So none is lost over any list of runs,
-- and one whose event happens in a step is pending after it, or delivered in it (`event_sets`, `pending_after`).
use Rattle.std.proofs.Common.{if◌then◌else◌, Option}
use Prim.Native.Nat.{ℕ, zero, suc}
use mathlib.Core.Bool.{Bool, true, false, ◌||◌, or-true}
use mathlib.Core.List.{List, [], ◌∷◌}
use mathlib.Core.Path.{◌≡◌, ap, ◌∙◌}
use Rattle.paging.specs.Translate.{Translator}
use Rattle.rules.specs.declared.Cpu.{Cpu}
use Rattle.rules.specs.declared.Interrupt.{Interrupt}
use Rattle.rules.specs.declared.Key.{Key}
use Rattle.rules.specs.Record.{is_running}
use Rattle.rules.specs.Clock.{next_of, ticked}
use Rattle.rules.specs.Step.{State, Stepped, step}
use Rattle.rules.specs.Run.{ran, steps_of, last_of, allowance, run_answer, run}
use Rattle.rules.specs.Pending.{happens, pending_of, PendingAfter, kept, clear, DeliveredIn, here, later, NotLost, in_time, at_end}
use Rattle.rules.proofs.PendingLaws.{event_sets, pending_after}

-- rules 1 to 3 keep what is pending
ticked_keeps : (i : Interrupt) (next : Option Key) (c : Cpu) → pending_of i c ≡ true → pending_of i (ticked next c) ≡ true
ticked_keeps i next c p = event_sets i next c ∙ ap (λ (b : Bool). happens i next c || b) p ∙ or-true (happens i next c)

module _ {B : Type 0} (tr : Translator B) (ks : List Key) (i : Interrupt) where
  -- delivered in one of the steps from s, or pending after them
  data Kept (s : State B) (rs : List (Stepped B)) : Type 0 where
    in_steps : DeliveredIn i rs → Kept s rs
    after_steps : pending_of i (last_of s rs).cpu ≡ true → Kept s rs

  -- a step, and those after it
  kept_on : (s : State B) (t : Stepped B) (ts : List (Stepped B)) → Kept t.state ts → Kept s (t ∷ ts)
  unfolding last_of
  kept_on s t ts (in_steps d) = in_steps (later d)
  kept_on s t ts (after_steps p) = after_steps p

  kept_by : (s : State B) (c : Cpu) (t : Stepped B) (ts : List (Stepped B)) → pending_of i c ≡ true → PendingAfter i c t
      → (pending_of i t.state.cpu ≡ true → Kept t.state ts) → Kept s (t ∷ ts)
  kept_by s c t ts p (kept e) rest = kept_on s t ts (rest (e ∙ p))
  kept_by s c t ts p (clear d e f) rest = in_steps (here e)

  kept_steps : (n : ℕ) (s : State B) → pending_of i s.cpu ≡ true → Kept s (steps_of tr ks n s)
  unfolding steps_of last_of
  kept_steps zero s p = after_steps p
  kept_steps (suc n) s p = go (is_running s.cpu.stop) (kept_steps n (step tr ks s).state)
    where
      t : Stepped B
      t = step tr ks s

      ts : List (Stepped B)
      ts = steps_of tr ks n t.state

      next : Option Key
      next = next_of ks s.cpu.clock.taken

      go : (b : Bool) → (pending_of i t.state.cpu ≡ true → Kept t.state ts) → Kept s (if b then t ∷ ts else [])
      go true rest = kept_by s (ticked next s.cpu) t ts (ticked_keeps i next s.cpu p) (pending_after tr ks s i) rest
      go false rest = after_steps p

  -- a run, refused ones too
  pub none_lost : (budget : ℕ) (s : State B) → pending_of i s.cpu ≡ true → NotLost i (run tr ks budget s)
  unfolding run
  none_lost budget s p = go (kept_steps (allowance (run_answer tr ks budget s) budget) s p)
    where
      ts : List (Stepped B)
      ts = steps_of tr ks (allowance (run_answer tr ks budget s) budget) s

      go : Kept s ts → NotLost i (ran (run_answer tr ks budget s) s ts)
      go (in_steps d) = in_time d
      go (after_steps e) = at_end e
