-- Document 01, "The table reader": "3 never comes", in neither machine, whatever the runs store.
use Rattle.std.proofs.Common.{if◌then◌else◌}
use Prim.Native.Nat.{ℕ, zero, suc}
use mathlib.Core.Path.{◌≡◌, refl}
use mathlib.Core.Logic.{◌≢◌}
use mathlib.Core.Bool.{Bool, true, false}
use mathlib.Core.List.{List, [], ◌∷◌}
use native.Mathlib.Omega.{arith}
use lib.ListN.{length}
use Rattle.memory.specs.Memory.{size_ok}
use Rattle.paging.specs.declared.Entry.{Entry}
use Rattle.paging.specs.Buffer.{buffer_ok}
use Rattle.paging.specs.Translate.{Translator, buffered, reader}
use Rattle.paging.proofs.BufferLaws.{empty_ok}
use Rattle.paging.proofs.ValidBuffer.{Valid}
use Rattle.rules.specs.declared.Key.{Key}
use Rattle.rules.specs.Record.{is_running}
use Rattle.rules.specs.Step.{State, Stepped, step}
use Rattle.rules.specs.Run.{run_number, registers_ok, keys_ok, console_ok, budget_ok, first_refusal, is_accepted, run_answer, steps_of, last_of, run}
use Rattle.rules.proofs.AcceptedRun.{AcceptedState, accepted_state}
use Rattle.rules.proofs.ValidStep.{step_keeps}
use Rattle.agreement.specs.Agreement.{Input, Transcript, transcripts, Shown, started}
use Rattle.agreement.proofs.StepsAgree.{Buffered}

-- no run of a list is refused with 3
abbrev pub NoneThree : {B : Type 0} → List (Transcript B) → Type 0
NoneThree [] = Unit
NoneThree (t ∷ ts) = (t.answer ≢ 3) × NoneThree ts

-- a buffer that passes the test for 3
not_three : (size registers keys console budget : Bool) → run_number (first_refusal size registers true keys console budget) ≢ 3
not_three true true true true true = omega arith
not_three true true true true false = omega arith
not_three true true true false budget = omega arith
not_three true true false console budget = omega arith
not_three true false keys console budget = omega arith
not_three false registers keys console budget = omega arith

-- the answer of a run, in either machine
answer_not_three : {B : Type 0} (tr : Translator B) (ks : List Key) (budget : ℕ) (s : State B) → tr.accepts (length s.mem) s.buffer ≡ true
    → run_number (run_answer tr ks budget s) ≢ 3
unfolding run_answer
answer_not_three tr ks budget s ok =
    rw ok
    (not_three (size_ok (length s.mem)) (registers_ok (length s.mem) s.cpu) (keys_ok ks s.cpu.clock.taken) (console_ok s.cpu.written s.console) (budget_ok budget))

-- ---- the table reader

-- it has no buffer to refuse
pub reader_none_three : (runs : List Input) (s : State (Unit {0})) → NoneThree (transcripts reader runs s)
unfolding transcripts run
reader_none_three [] s = tt
reader_none_three (i ∷ is) s = (answer_not_three reader i.keys i.budget s refl, reader_none_three is _)

-- ---- the machine with the buffer

-- the buffer passes the test for 3
abbrev Passes : Buffered → Type 0
Passes s = buffer_ok (length s.mem) s.buffer ≡ true

module _ (ks : List Key) where
  -- the steps of a run
  steps_pass : (n : ℕ) (s : Buffered) → Valid s.cpu.space s.mem s.buffer → Passes (last_of s (steps_of buffered ks n s))
  unfolding steps_of last_of
  steps_pass zero s v = v.ok
  steps_pass (suc n) s v = go (is_running s.cpu.stop) (steps_pass n (step buffered ks s).state (step_keeps ks s v).valid)
    where
      t : Stepped (List Entry)
      t = step buffered ks s

      go : (b : Bool) → Passes (last_of t.state (steps_of buffered ks n t.state)) → Passes (last_of s (if b then t ∷ steps_of buffered ks n t.state else []))
      go true p = p
      go false p = v.ok

  -- a run, refused ones too
  run_passes : (budget : ℕ) (s : Buffered) → Passes s → Passes (run buffered ks budget s).state
  unfolding run
  run_passes budget s p = go (is_accepted (run_answer buffered ks budget s)) (λ e. accepted_state buffered ks budget s e)
    where
      go : (a : Bool) → (a ≡ true → AcceptedState (length s.mem) s.cpu) → Passes (last_of s (steps_of buffered ks (if a then budget else 0) s))
      go true k = steps_pass budget s (record { aligned = (k refl).aligned; whole = (k refl).whole; ok = p })
      go false k = unfold steps_of last_of in p

-- run after run
runs_none_three : (runs : List Input) (s : Buffered) → Passes s → NoneThree (transcripts buffered runs s)
unfolding transcripts
runs_none_three [] s p = tt
runs_none_three (i ∷ is) s p =
    (unfold run in answer_not_three buffered i.keys i.budget s p, runs_none_three is _ (run_passes i.keys i.budget s p))

-- from an empty buffer
pub none_three : (start : Shown) (runs : List Input) → NoneThree (transcripts buffered runs (started start []))
none_three start runs = runs_none_three runs (started start []) (empty_ok (length start.mem))
