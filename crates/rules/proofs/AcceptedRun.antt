-- Document 01, "Numbers returned": what an accepted run tells of the size of memory and of the page directory.
use Prim.Native.Nat.{ℕ, ◌%◌}
use mathlib.Core.Path.{◌≡◌, refl}
use mathlib.Core.Bool.{Bool, true, false, ◌&&◌, false≢true}
use mathlib.Core.List.{List}
use native.Mathlib.Omega.{arith}
use lib.ListN.{length}
use lib.Dec.{eqb, ltb, leb}
use borrow.Author.Tests.{eqb-true}
use Rattle.memory.specs.Memory.{size_ok}
use Rattle.paging.specs.Translate.{Translator}
use Rattle.word.proofs.BoolLaws.{both}
use Rattle.rules.specs.declared.Cpu.{Cpu}
use Rattle.rules.specs.declared.Key.{Key}
use Rattle.rules.specs.Step.{State}
use Rattle.rules.specs.Run.{registers_ok, keys_ok, console_ok, budget_ok, first_refusal, is_accepted, run_answer}
use Rattle.rules.proofs.AcceptableRecord.{registers_acceptable}

-- "lower number wins": an accepted run passed every test
pub accepted_tests : (size registers buffer keys console budget : Bool) → is_accepted (first_refusal size registers buffer keys console budget) ≡ true
    → (size ≡ true) × (registers ≡ true) × (buffer ≡ true) × (keys ≡ true) × (console ≡ true) × (budget ≡ true)
accepted_tests true true true true true true e = (refl, refl, refl, refl, refl, refl)
accepted_tests true true true true true false e = absurd (false≢true e)
accepted_tests true true true true false budget e = absurd (false≢true e)
accepted_tests true true true false console budget e = absurd (false≢true e)
accepted_tests true true false keys console budget e = absurd (false≢true e)
accepted_tests true false buffer keys console budget e = absurd (false≢true e)
accepted_tests false registers buffer keys console budget e = absurd (false≢true e)

-- 1: memory is whole pages
pub size_whole : (size : ℕ) → size_ok size ≡ true → size % 4096 ≡ 0
unfolding size_ok
size_whole size e = eqb-true (size % 4096) 0 (both (ltb 0 size) _ (both (ltb 0 size && eqb (size % 4096) 0) (leb size 134217728) e).0).1

-- 2: the page directory is at a multiple of 4,096
registers_aligned : (size : ℕ) (c : Cpu) → registers_ok size c ≡ true → c.space.pdir % 4 ≡ 0
registers_aligned size c e =
    omega (arith, (registers_acceptable size c.clock.taken c.written c e (omega arith) (omega arith)).directory.aligned)

-- what a run that is not refused tells of the state that it starts from
pub record AcceptedState (size : ℕ) (c : Cpu) : Type 0 where
  pub whole : size % 4096 ≡ 0
  pub aligned : c.space.pdir % 4 ≡ 0

-- in either machine
pub accepted_state : {B : Type 0} (tr : Translator B) (ks : List Key) (budget : ℕ) (s : State B) → is_accepted (run_answer tr ks budget s) ≡ true
    → AcceptedState (length s.mem) s.cpu
unfolding run_answer
accepted_state tr ks budget s e =
    let size = length s.mem in
    let p = accepted_tests (size_ok size) (registers_ok size s.cpu) (tr.accepts size s.buffer) (keys_ok ks s.cpu.clock.taken) (console_ok s.cpu.written s.console) (budget_ok budget) e in
    record { whole = size_whole size p.0; aligned = registers_aligned size s.cpu p.1 }
